-- The filter's pass over a strip beside the pass on a job that is ready and not at rest.
--     counts_none                 no count more
--     admitted, next_is           the filter admits a ready record's strip, and makes the job's next image
--     room_changing, room_quiet   there is no room exactly where 14's pass clause holds
--     by_room                     the filter was given the room: its answer and area are those of the room
--     record_is, to_second, to_first     answer and record, and the areas
--     never_refused               the filter's answer is no refusal, whatever the room
--     Crosses s px there q x      the filter's answer q and the area x, from the image px to the area there
--     crossing_fits               the record's counts with that pass do not wrap
--     crossed_even, crossed_odd   record and areas afterwards are those of the pass on the job
-- Assumes nothing.
use Rattle.std.specs.Prelude.{Ok, Err, Result}
use mathlib.Core.Bool.{Bool, true, false, cond}
use mathlib.Core.List.{List}
use mathlib.Core.Path.{◌≡◌, refl, sym, ap, ap₂, ◌∙◌}
use Prim.Native.Nat.{ℕ, ◌+◌, ◌*◌, ◌≤◌, ◌<◌, ◌%◌}
use native.Mathlib.Nat.{add-zero}
use native.Mathlib.Omega.{arith}
use borrow.Author.Tests.{ltb-true, ltb-false, lt-ltb, le-ltb, eq-eqb, ne_eqb}
use lib.Dec.{ltb}
use lib.ListN.{length, get_or}
use Rattle.filter.specs.Crossed.{cross_verdict, across, overfull, crossed_if, crossed, crossed_area}
use Rattle.filter.specs.declared.Crossed.{Crossed}
use Rattle.filter.specs.declared.End.TheVariants as ending
use Rattle.history.specs.declared.Effect.TheVariants.{Changed, Stable}
use Rattle.history.specs.declared.Job.{Job}
use Rattle.history.specs.Answers.{Passed}
use Rattle.history.specs.Pass.{next_image, now_added, now_removed, now_counts, exceeds, with_next, changed_job, stable_job, changing, pass_loaded}
use Rattle.history.specs.Sound.{Ready}
use Rattle.history.specs.State.{State, pixels, even, image}
use Rattle.verdict.specs.declared.Rule.TheVariants as why
use Rattle.history.proofs.Areas.{next_job}
use Rattle.history.proofs.Ready.{ready_parts, ready_small, ready_image, ready_next, ready_writable}
use Rattle.image.specs.declared.strip.Strip.{Strip}
use Rattle.image.specs.Strip.{max_parts, max_strip, heights_of, strip_width, strip_height, no_counts}
use Rattle.image.proofs.Shapes.{padded_whole, padded_tab, shape_count}
use Rattle.job.specs.Code.Passes.{after, answer_of, after_done, Fit, room_of, passes_of, done_on, Made, Places}
use Rattle.job.specs.declared.step.Done.{Done}
use Rattle.job.proofs.Counts.{ltb_sub}
use Rattle.job.proofs.OnePart.{place_few}
use Rattle.operator.specs.Image.{added, removed, differs}
use Rattle.operator.specs.Parts.{added_in, removed_in, part_counts, summed}
use Rattle.operator.specs.Pass.{pass}
use Rattle.operator.proofs.Counts.{differs_equal, equal_differs, unchanged_equal, equal_unchanged}
use Rattle.operator.proofs.PartCounts.{parts_added, parts_removed, counts_same}
use Rattle.seq.proofs.Lists.{clash}
use Rattle.seq.proofs.Tab.{tab_ext, get_d_tab}
use Rattle.seq.proofs.Tests.{or_none_left}
use Rattle.seq.specs.Lists.{sum_of}
use Rattle.seq.specs.Tab.{tab}
use Rattle.table.specs.declared.Table.{Table}
use Rattle.verdict.specs.Rules.{refusal, Refusal}
use Rattle.verdict.specs.Writer.{over}

none_more : (xs : List ℕ) → length xs ≡ max_parts → tab (λ i. get_or xs i 0 + get_or (tab (λ k. 0) max_parts) i 0) max_parts ≡ xs
none_more xs e =
    tab_ext (λ i. get_or xs i 0 + get_or (tab (λ k. 0) max_parts) i 0) (λ i. get_or xs i 0) max_parts (λ i l. omega (arith, get_d_tab {A = ℕ} (λ k. 0) max_parts i 0 l))
    ∙ padded_whole xs e

counts_none : {j : Job} → Places j → summed j.counts no_counts ≡ j.counts
unfolding summed
counts_none {j} o = ap₂ (λ (a d : List ℕ). record { added = a; removed = d }) (none_more j.counts.added o.added) (none_more j.counts.removed o.removed)

-- a count of 16 is at most their sum
part_few : (f : ℕ → ℕ) {n : ℕ} → sum_of (tab f max_parts) ≡ n → (i : ℕ) → i < max_parts → get_or (tab f max_parts) i 0 ≤ n
part_few f e i l = omega (arith, place_few (tab f max_parts) i l, ap sum_of (padded_tab f), e)

-- the filter was given a number, and the number is the room
pub by_room : (t : Table) (p : Strip) (px there : List ℕ) {n room : ℕ} {q : Result Crossed Refusal} {x : List ℕ} → n ≡ room
    → (q ≡ crossed t p n px (length there)) × (x ≡ crossed_area t p n px there)
    → (q ≡ crossed t p room px (length there)) × (x ≡ crossed_area t p room px there)
by_room t p px there e f = (f.0 ∙ ap (λ k. crossed t p k px (length there)) e, f.1 ∙ ap (λ k. crossed_area t p k px there) e)

module _ {s : State} (r : Ready s) (h : s.job.stage ≡ 2 → ⊥) where
  abbrev job : Job
  job = s.job

  abbrev here : List ℕ
  here = image s

  abbrev next : List ℕ
  next = next_image s

  -- the pixels that the pass changes
  abbrev changes : ℕ
  changes = added here next + removed here next

  abbrev full : Bool
  full = overfull (room_of job) here next

  staged : job.stage ≡ 1
  staged = omega (arith, r.begun, r.staged)

  next_is : across job.table job.strip here ≡ next
  unfolding across next_image
  next_is = ap₂ (λ w k. pass job.table w k here) (sym (ready_parts r).width) (sym (ready_parts r).height)

  module _ (there : List ℕ) (long : pixels job ≤ length there) where
    admitted : cross_verdict job.table job.strip here (length there) ≡ Ok tt
    unfolding cross_verdict
    admitted =
        let size : strip_width job.strip * strip_height job.strip ≤ length there = rw (sym (ready_parts r).width, sym (ready_parts r).height) long in
        rw (r.table, ready_writable r, le-ltb _ _ size)

    answer_is : (n : ℕ) → crossed job.table job.strip n here (length there) ≡ Ok (crossed_if (overfull n here next) job.strip here next)
    unfolding crossed
    answer_is n = rw (admitted, next_is)

    area_is : crossed_area job.table job.strip (room_of job) here there ≡ cond full there (over next there)
    unfolding crossed_area
    area_is = rw (admitted, next_is)

  -- nothing is added and nothing removed exactly where nothing differs
  same_image : differs here next ≡ false → next ≡ here
  same_image d = sym (differs_equal here next ((ready_image r).sized ∙ sym (ready_next r).sized) d)

  changes_none : differs here next ≡ false → changes ≡ 0
  changes_none d = equal_unchanged (ready_image r) (ready_next r) (sym (same_image d))

  changes_some : differs here next ≡ true → changes ≡ 0 → ⊥
  changes_some d z = clash d (equal_differs here next (unchanged_equal (ready_image r) (ready_next r) z))

  room_quiet : differs here next ≡ false → full ≡ false
  room_quiet d = le-ltb (room_of job) changes (omega (arith, changes_none d))

  -- 14's pass clause
  room_changing : differs here next ≡ true → full ≡ exceeds s
  unfolding exceeds now_added now_removed
  room_changing d = by (ltb job.passes (pixels job)) refl
    where
      some : 0 < changes
      some = omega (arith, changes_some d)

      by : (b : Bool) → ltb job.passes (pixels job) ≡ b → full ≡ exceeds s
      by true e =
          let more = le-ltb (pixels job) (job.passes + 1) (omega (arith, ltb-true job.passes (pixels job) e)) in
          rw (e, more) (ltb_sub (pixels job) (job.added + job.removed) changes r.counts ∙ ap (ltb (pixels job)) (omega arith))
      by false e =
          let more = lt-ltb (pixels job) (job.passes + 1) (omega (arith, ltb-false job.passes (pixels job) e)) in
          rw (e, more) (lt-ltb 0 changes some)

  -- a pass that there is room for
  within_room : full ≡ false → job.added + job.removed + changes ≤ pixels job
  within_room e = by (ltb job.passes (pixels job)) refl
    where
      fits : changes ≤ room_of job
      fits = ltb-false (room_of job) changes e

      by : (b : Bool) → ltb job.passes (pixels job) ≡ b → job.added + job.removed + changes ≤ pixels job
      by true q = omega (arith, rw q at fits, r.counts)
      by false q = omega (arith, rw q at fits, r.counts)

  -- the passes with it
  few_passes : full ≡ false → (b : Bool) → differs here next ≡ b → job.passes + passes_of (cond b ending.Limit ending.Stable) ≤ max_strip
  unfolding exceeds
  few_passes e true d =
      let x : exceeds s ≡ false = sym (room_changing d) ∙ e in
      omega (arith, ltb-false (pixels job) (job.passes + 1) (or_none_left (ltb (pixels job) (job.passes + 1)) (ltb (pixels job) (now_added s + now_removed s)) x), ready_small r)
  few_passes e false d = omega (arith, r.passes, ready_small r)

  -- the parts, and what changes in each: no more than in the strip
  few_parts : length (heights_of job.strip) ≤ max_parts
  few_parts = omega (arith, shape_count (ready_parts r).shape, (ready_parts r).shape.few)

  all_rows : length here ≡ strip_width job.strip * strip_height job.strip
  all_rows = (ready_image r).sized ∙ ap₂ (λ w k. w * k) (ready_parts r).width (ready_parts r).height

  part_added : (i : ℕ) → i < max_parts → get_or (part_counts (strip_width job.strip) (heights_of job.strip) here next).added i 0 ≤ added here next
  unfolding part_counts
  part_added =
      part_few (added_in (strip_width job.strip) (heights_of job.strip) here next)
      (parts_added (strip_width job.strip) (heights_of job.strip) here next few_parts all_rows)

  part_removed : (i : ℕ) → i < max_parts → get_or (part_counts (strip_width job.strip) (heights_of job.strip) here next).removed i 0 ≤ removed here next
  unfolding part_counts
  part_removed =
      part_few (removed_in (strip_width job.strip) (heights_of job.strip) here next)
      (parts_removed (strip_width job.strip) (heights_of job.strip) here next few_parts all_rows)

  -- what `conclude` asks
  abbrev Fits : Done → Type 0
  Fits d =
      (job.passes + d.passes ≤ max_strip) × (job.added + d.added ≤ max_strip) × (job.removed + d.removed ≤ max_strip) × Fit job.counts d.parts

  done_fits : (b : Bool) → full ≡ b → Fits (done_on (crossed_if b job.strip here next))
  done_fits true e =
      let few = ready_small r in
      let good = ready_parts r in (
        omega (arith, r.passes),
        omega (arith, r.counts),
        omega (arith, r.counts),
        record {
          added = λ i l. omega (arith, place_few job.counts.added i l, good.added.sum, get_d_tab {A = ℕ} (λ k. 0) max_parts i 0 l, r.counts);
          removed = λ i l. omega (arith, place_few job.counts.removed i l, good.removed.sum, get_d_tab {A = ℕ} (λ k. 0) max_parts i 0 l, r.counts);
        },
      )
  done_fits false e =
      let few = ready_small r in
      let good = ready_parts r in
      let room = within_room e in (
        few_passes e (differs here next) refl,
        omega (arith, room),
        omega (arith, room),
        record {
          added = λ i l. omega (arith, place_few job.counts.added i l, good.added.sum, part_added i l, room);
          removed = λ i l. omega (arith, place_few job.counts.removed i l, good.removed.sum, part_removed i l, room);
        },
      )

  -- the record afterwards
  job_same : Places job → after job job.stage 0 0 0 no_counts ≡ job
  job_same o = rw (counts_none o, add-zero job.passes, add-zero job.added, add-zero job.removed)

  job_changed : after job job.stage 1 (added here next) (removed here next) (part_counts (strip_width job.strip) (heights_of job.strip) here next) ≡ changed_job s
  unfolding changed_job now_added now_removed now_counts
  job_changed = rw (staged, (ready_parts r).width)

  job_stable : Places job → differs here next ≡ false
      → after job 2 0 (added here next) (removed here next) (part_counts (strip_width job.strip) (heights_of job.strip) here next) ≡ stable_job s
  unfolding stable_job
  job_stable o d =
      let x : added here next ≡ 0 = omega (arith, changes_none d) in
      let y : removed here next ≡ 0 = omega (arith, changes_none d) in
      let z : part_counts (strip_width job.strip) (heights_of job.strip) here next ≡ no_counts =
      ap (part_counts (strip_width job.strip) (heights_of job.strip) here) (same_image d) ∙ counts_same (strip_width job.strip) (heights_of job.strip) here in
      rw (z, x, y, counts_none o, add-zero job.passes, add-zero job.added, add-zero job.removed)

  -- the three ways that the pass goes
  pass_rests : differs here next ≡ false → pass_loaded s ≡ record { answer = (Ok Stable); state = with_next (stable_job s) s }
  unfolding pass_loaded
  pass_rests d = rw d

  pass_stops : differs here next ≡ true → exceeds s ≡ true → pass_loaded s ≡ record { answer = Err (refusal why.Unsound 0); state = s }
  unfolding pass_loaded changing
  pass_stops d x = rw (d, x)

  pass_goes : differs here next ≡ true → exceeds s ≡ false → pass_loaded s ≡ record { answer = (Ok Changed); state = with_next (changed_job s) s }
  unfolding pass_loaded changing
  pass_goes d x = rw (d, x)

  -- answer and record
  abbrev crossed_here : Done
  crossed_here = done_on (crossed_if full job.strip here next)

  record_is : Places job → (answer_of crossed_here.end ≡ (pass_loaded s).answer) × (after_done job crossed_here ≡ (pass_loaded s).state.job)
  record_is o = by (differs here next) refl (exceeds s) refl
    where
      by : (d : Bool) → differs here next ≡ d → (x : Bool) → exceeds s ≡ x
          → (answer_of crossed_here.end ≡ (pass_loaded s).answer) × (after_done job crossed_here ≡ (pass_loaded s).state.job)
      by false d x e = rw (room_quiet d, pass_rests d, d, job_stable o d, next_job (stable_job s) s) (refl, refl)
      by true d true e = rw (room_changing d, e, pass_stops d e, job_same o) (refl, refl)
      by true d false e = rw (room_changing d, e, pass_goes d e, d, job_changed, next_job (changed_job s) s) (refl, refl)

  -- the areas, where the next image goes to the second, and to the first
  to_second : even job.passes ≡ true → (s.first ≡ (pass_loaded s).state.first) × (cond full s.second (over next s.second) ≡ (pass_loaded s).state.second)
  unfolding with_next
  to_second t = by (differs here next) refl (exceeds s) refl
    where
      by : (d : Bool) → differs here next ≡ d → (x : Bool) → exceeds s ≡ x
          → (s.first ≡ (pass_loaded s).state.first) × (cond full s.second (over next s.second) ≡ (pass_loaded s).state.second)
      by false d x e = rw (room_quiet d, pass_rests d, t) (refl, refl)
      by true d true e = rw (room_changing d, e, pass_stops d e) (refl, refl)
      by true d false e = rw (room_changing d, e, pass_goes d e, t) (refl, refl)

  to_first : even job.passes ≡ false → (cond full s.first (over next s.first) ≡ (pass_loaded s).state.first) × (s.second ≡ (pass_loaded s).state.second)
  unfolding with_next
  to_first t = by (differs here next) refl (exceeds s) refl
    where
      by : (d : Bool) → differs here next ≡ d → (x : Bool) → exceeds s ≡ x
          → (cond full s.first (over next s.first) ≡ (pass_loaded s).state.first) × (s.second ≡ (pass_loaded s).state.second)
      by false d x e = rw (room_quiet d, pass_rests d, t) (refl, refl)
      by true d true e = rw (room_changing d, e, pass_stops d e) (refl, refl)
      by true d false e = rw (room_changing d, e, pass_goes d e, t) (refl, refl)

-- the filter's answer and what it leaves, from the image px to the area `there`
abbrev pub Crosses : State → List ℕ → List ℕ → Result Crossed Refusal → List ℕ → Type 0
Crosses s px there q x =
    (q ≡ crossed s.job.table s.job.strip (room_of s.job) px (length there)) × (x ≡ crossed_area s.job.table s.job.strip (room_of s.job) px there)

module _ {s : State} (r : Ready s) (h : s.job.stage ≡ 2 → ⊥) (there : List ℕ) {px : List ℕ} (long : pixels s.job ≤ length there) (seen : px ≡ image s)
    {q : Result Crossed Refusal} where
  crossed_is : (n : ℕ) → q ≡ crossed s.job.table s.job.strip n px (length there)
      → q ≡ Ok (crossed_if (overfull n (image s) (next_image s)) s.job.strip (image s) (next_image s))
  crossed_is n f = f ∙ ap (λ (l : List ℕ). crossed s.job.table s.job.strip n l (length there)) seen ∙ answer_is r h there long n

  pub never_refused : (n : ℕ) {z : Refusal} → q ≡ crossed s.job.table s.job.strip n px (length there) → q ≡ Err z → ⊥
  never_refused n {z} f m =
      let p : Err z ≡ Ok (crossed_if (overfull n (image s) (next_image s)) s.job.strip (image s) (next_image s)) = sym m ∙ crossed_is n f in
      let y : ◌≡◌ {A = ℕ} 0 1 = cc in
      omega arith

module _ {s : State} (r : Ready s) (h : s.job.stage ≡ 2 → ⊥) (there : List ℕ) {px x : List ℕ} (long : pixels s.job ≤ length there) (seen : px ≡ image s)
    {q : Result Crossed Refusal} (f : Crosses s px there q x) where
  left_is : x ≡ cond (full r h) there (over (next_image s) there)
  left_is = f.1 ∙ ap (λ (l : List ℕ). crossed_area s.job.table s.job.strip (room_of s.job) l there) seen ∙ area_is r h there long

  module _ {c : Crossed} (m : q ≡ Ok c) {d : Done} (e : d ≡ done_on c) where
    done_is : d ≡ done_on (crossed_if (full r h) s.job.strip (image s) (next_image s))
    done_is =
        let p : Ok c ≡ Ok (crossed_if (full r h) s.job.strip (image s) (next_image s)) = sym m ∙ crossed_is r h there long seen _ f.0 in
        let same : c ≡ crossed_if (full r h) s.job.strip (image s) (next_image s) = cc in
        e ∙ ap done_on same

    pub crossing_fits : (s.job.passes + d.passes ≤ max_strip) × (s.job.added + d.added ≤ max_strip) × (s.job.removed + d.removed ≤ max_strip) × Fit s.job.counts d.parts
    crossing_fits = rw done_is (done_fits r h (full r h) refl)

    crossing_record : {a : Passed} {j : Job} → (a ≡ answer_of d.end) × (j ≡ after_done s.job d) × Places s.job → (a ≡ (pass_loaded s).answer) × (j ≡ (pass_loaded s).state.job)
    crossing_record k =
        let same = record_is r h k.2 in
        (k.0 ∙ ap (λ (d : Done). answer_of d.end) done_is ∙ same.0, k.1 ∙ ap (after_done s.job) done_is ∙ same.1)

module _ {s : State} (r : Ready s) (h : s.job.stage ≡ 2 → ⊥) {x : List ℕ} {q : Result Crossed Refusal} {c : Crossed} (m : q ≡ Ok c) {d : Done} {a : Passed} {j : Job} (e : d ≡ done_on c)
    (k : (a ≡ answer_of d.end) × (j ≡ after_done s.job d) × Places s.job) where
  pub crossed_even : s.job.passes % 2 ≡ 0 → {px : List ℕ} → px ≡ image s → Crosses s px s.second q x → Made (pass_loaded s) a j s.first x
  crossed_even t seen f =
      let areas = to_second r h (eq-eqb (s.job.passes % 2) 0 t) in
      let step = crossing_record r h s.second r.second seen f m e k in
      (step.0, step.1, areas.0, left_is r h s.second r.second seen f ∙ areas.1)

  pub crossed_odd : (s.job.passes % 2 ≡ 0 → ⊥) → {px : List ℕ} → px ≡ image s → Crosses s px s.first q x → Made (pass_loaded s) a j x s.second
  crossed_odd t seen f =
      let areas = to_first r h (ne_eqb (s.job.passes % 2) 0 t) in
      let step = crossing_record r h s.first r.first seen f m e k in
      (step.0, step.1, left_is r h s.first r.first seen f ∙ areas.0, areas.1)
