-- A pass on a job that holds an entry: what it answers and leaves, and that the relation is kept.
--     Turn s e                                  the three ways that a pass goes: settled, changing, quiet
--     next_image_lem, changed_job_lem, stable_job_lem       image and record after it are the entry's
--     within                                    14's pass clause does not hold
--     turn                                      a pass goes one of the three ways
--     held_resting, held_changed, held_quiet    the relation after each
--     pass_held                                 the relation after a pass
-- Assumes nothing.
use Rattle.std.specs.Prelude.{Ok}
use mathlib.Core.Bool.{true, false}
use mathlib.Core.List.{List, ◌∷◌}
use mathlib.Core.Logic.{⊎_elim}
use mathlib.Core.Path.{◌≡◌, refl, sym, ap, ap₂, ◌∙◌, subst}
use Prim.Native.Nat.{ℕ, ◌+◌, ◌*◌, ◌≤◌}
use native.Mathlib.Nat.{add_comm}
use native.Mathlib.Numerals.{add-one}
use native.Mathlib.Omega.{arith}
use borrow.Author.Tests.{le-ltb}
use lib.ListN.{length, get_or}
use Rattle.history.specs.declared.Effect.TheVariants.{Changed, Stable}
use Rattle.operator.specs.Image.{IsImage, added, removed, differs}
use Rattle.operator.specs.Pass as operator
use Rattle.operator.proofs.Counts.{all_counts, differs_equal}
use Rattle.history.specs.declared.Job.{Job}
use Rattle.history.specs.History.{Entry, next_of, joined, marked, passed}
use Rattle.history.specs.Lists.{first_of, over_steps}
use Rattle.history.specs.Pass.{next_image, now_added, now_removed, now_counts, exceeds, with_next, changed_job, stable_job, changing, pass_loaded, pass_ready, pass_of}
use Rattle.history.specs.State.{State, pixels}
use Rattle.history.proofs.Areas.{next_job, next_first, next_second, next_changed, next_stable}
use Rattle.history.proofs.Entries.{passed_settled, passed_changed, passed_quiet}
use Rattle.history.proofs.Related.{step_counts, job_of, Held}
use Rattle.history.proofs.Parts.{GoodParts}
use Rattle.history.proofs.Ready.{ready_parts, ready_changed, ready_stable}
use Rattle.history.proofs.Row.{Row, next, row_image, row_bound, row_changes_lem}
use Rattle.history.proofs.Sound.{held_ready, ready_held}
use Rattle.image.proofs.Shapes.{of_heights}
use Rattle.image.specs.Strip.{max_parts}
use Rattle.operator.specs.Parts.{added_in, removed_in, part_counts, summed}
use Rattle.seq.proofs.Lists.{clash, either}
use Rattle.seq.proofs.Tab.{tab_ext, get_d_tab}
use Rattle.seq.specs.Tab.{tab}

-- the ways that a pass goes: with the mark it alters nothing; else the new image differs, or it does not
pub data Turn (s : State) (e : Entry) : Type 0 where
  resting : e.settled ≡ true → pass_of s ≡ record { answer = (Ok Stable); state = s } → Turn s e
  changes : e.settled ≡ false → differs e.last (next_of e) ≡ true
      → pass_of s ≡ record { answer = (Ok Changed); state = with_next (changed_job s) s } → Turn s e
  quiet : e.settled ≡ false → differs e.last (next_of e) ≡ false
      → pass_of s ≡ record { answer = (Ok Stable); state = with_next (stable_job s) s } → Turn s e

module _ {s : State} {e : Entry} {n : ℕ} (r : Held s e n) where
  -- the new image and the new record are those that the entry says
  next_image_lem : next_image s ≡ next_of e
  unfolding next_image next_of
  next_image_lem = rw (r.shown, r.job)

  pub last_image : IsImage e.width e.height e.last
  last_image = row_image r.accepted r.row r.begun

  next_of_image : IsImage e.width e.height (next_of e)
  unfolding next_of
  next_of_image = (all_counts e.table e.width e.height e.last r.accepted last_image).image 1

  next_sized : length (next_image s) ≡ pixels s.job
  next_sized = rw (next_image_lem, r.job) next_of_image.sized

  -- a step more, in each part
  changed_counts : now_counts s ≡ step_counts (joined e)
  unfolding now_counts summed part_counts step_counts joined
  changed_counts =
      rw (next_image_lem, r.shown, r.job, of_heights r.listed)
      (ap₂ (λ (a d : List ℕ). record { added = a; removed = d })
      (more (λ i. over_steps (λ a b. added_in e.width e.parts a b i) e) (added_in e.width e.parts e.last (next_of e)))
      (more (λ i. over_steps (λ a b. removed_in e.width e.parts a b i) e) (removed_in e.width e.parts e.last (next_of e))))
    where
      more : (f g : ℕ → ℕ) → tab (λ i. get_or (tab f max_parts) i 0 + get_or (tab g max_parts) i 0) max_parts ≡ tab (λ i. g i + f i) max_parts
      more f g = tab_ext (λ i. get_or (tab f max_parts) i 0 + get_or (tab g max_parts) i 0) (λ i. g i + f i) max_parts (λ i l. omega (arith, get_d_tab f max_parts i 0 l, get_d_tab g max_parts i 0 l))

  changed_job_lem : changed_job s ≡ job_of (joined e)
  unfolding changed_job now_added now_removed joined
  changed_job_lem =
      rw (changed_counts, next_image_lem, r.shown, r.job, add-one, add_comm (over_steps added e) _, add_comm (over_steps removed e) _)

  stable_job_lem : stable_job s ≡ job_of (marked e)
  unfolding stable_job marked step_counts
  stable_job_lem = rw r.job

  -- the row with the new image obeys the bounds, so 14's pass clause does not hold
  within : differs e.last (next_of e) ≡ true → exceeds s ≡ false
  unfolding exceeds now_added now_removed next_of
  within d = rw (next_image_lem, r.shown, r.job, le-ltb _ _ few, le-ltb _ _ changed)
    where
      longer : Row e.table e.width e.height (next_of e) (e.last ∷ e.earlier)
      longer = next refl d r.row

      few : length e.earlier + 1 ≤ e.width * e.height
      few = omega (arith, row_bound r.accepted longer r.begun)

      changed : (over_steps added e + added e.last (next_of e)) + (over_steps removed e + removed e.last (next_of e)) ≤ e.width * e.height
      changed = omega (arith, row_changes_lem r.accepted longer r.begun)

  -- the job is sound and loaded, so what a pass does goes by the mark and by the new image
  pub turn : Turn s e
  unfolding pass_of pass_ready pass_loaded changing
  turn = ⊎_elim rests (λ q. ⊎_elim (goes q) (stands q) (either (differs e.last (next_of e)))) (either e.settled)
    where
      rests : e.settled ≡ true → Turn s e
      rests q = resting q (rw (ready_held r, r.job, q))

      goes : e.settled ≡ false → differs e.last (next_of e) ≡ true → Turn s e
      goes q d = changes q d (rw (ready_held r, within d, next_image_lem, r.shown, d, r.job, q))

      stands : e.settled ≡ false → differs e.last (next_of e) ≡ false → Turn s e
      stands q d = quiet q d (rw (ready_held r, next_image_lem, r.shown, d, r.job, q))

  -- one more accepted pass, whether or not it changes the image
  one_more : operator.passes e.table e.width e.height (n + 1) (first_of e) ≡ next_of e
  unfolding next_of
  one_more = rw (add-one, r.tallied)

  -- both areas keep their lengths
  first_kept : (j : Job) → e.width * e.height ≤ length (with_next j s).first
  first_kept j = omega (arith, next_first j s (omega (arith, next_sized, r.first_long, ap pixels r.job)), r.first_long)

  second_kept : (j : Job) → e.width * e.height ≤ length (with_next j s).second
  second_kept j = omega (arith, next_second j s (omega (arith, next_sized, r.second_long, ap pixels r.job)), r.second_long)

  -- with the mark the operator changes nothing
  held_resting : e.settled ≡ true → Held s e (n + 1)
  unfolding next_of
  held_resting q = record {
    job = r.job;
    accepted = r.accepted;
    parts = r.parts;
    listed = r.listed;
    first_long = r.first_long;
    second_long = r.second_long;
    shown = r.shown;
    begun = r.begun;
    row = r.row;
    stable = r.stable;
    tallied = one_more ∙ r.stable q;
  }

  -- the new image joins the row
  held_changed : differs e.last (next_of e) ≡ true → Held (with_next (changed_job s) s) (joined e) (n + 1)
  unfolding joined next_of
  held_changed d = record {
    job = next_job (changed_job s) s ∙ changed_job_lem;
    accepted = r.accepted;
    parts = subst GoodParts (next_job (changed_job s) s ∙ changed_job_lem) (ready_parts (ready_changed (held_ready r) (within d)));
    listed = r.listed;
    first_long = first_kept (changed_job s);
    second_long = second_kept (changed_job s);
    shown = next_changed s next_sized ∙ next_image_lem;
    begun = r.begun;
    row = next refl d r.row;
    stable = λ q. clash q refl;
    tallied = one_more;
  }

  -- no pixel differs, so the new image is the last one
  pub same_next : differs e.last (next_of e) ≡ false → next_of e ≡ e.last
  same_next d = sym (differs_equal e.last (next_of e) (last_image.sized ∙ sym next_of_image.sized) d)

  -- the new image is the last one, which is stable
  held_quiet : differs e.last (next_of e) ≡ false → Held (with_next (stable_job s) s) (marked e) (n + 1)
  unfolding marked next_of
  held_quiet d = record {
    job = next_job (stable_job s) s ∙ stable_job_lem;
    accepted = r.accepted;
    parts = subst GoodParts (next_job (stable_job s) s ∙ stable_job_lem) (ready_parts (ready_stable (held_ready r)));
    listed = r.listed;
    first_long = first_kept (stable_job s);
    second_long = second_kept (stable_job s);
    shown = next_stable s ∙ r.shown;
    begun = r.begun;
    row = r.row;
    stable = λ q. same_next d;
    tallied = one_more ∙ same_next d;
  }

  pub pass_held : Held (pass_of s).state (passed e) (n + 1)
  pass_held =
      elim turn [
        | resting q a ↦ rw (a, passed_settled e q) (held_resting q)
        | changes q d a ↦ rw (a, passed_changed e q d) (held_changed d)
        | quiet q d a ↦ rw (a, passed_quiet e q d) (held_quiet d)
      ]
