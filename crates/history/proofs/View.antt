-- What view shows, and that a pass gives the operator's image (demand 2).
--     view_ready, view_held     view shows the present image; of a job that holds an entry, the last image
--     after_pass, said          record, areas and answer, by what a pass does
--     operated_ready            a pass on a sound record at stage 1 that is not refused
--     operated_held             a pass on a job that holds an entry
-- Assumes nothing.
use Rattle.std.specs.Prelude.{Ok}
use mathlib.Core.Bool.{true, false}
use mathlib.Core.List.{List}
use mathlib.Core.Logic.{inl, inr}
use mathlib.Core.Path.{◌≡◌, refl, sym, ap, ◌∙◌, subst}
use Prim.Native.Nat.{ℕ}
use native.Mathlib.Omega.{arith}
use Rattle.history.specs.declared.Effect.TheVariants.{Changed, Stable}
use Rattle.operator.specs.Heijmans.{modified}
use Rattle.operator.specs.Image.{differs}
use Rattle.operator.proofs.Counts.{differs_equal, equal_differs}
use Rattle.operator.proofs.Heijmans.{all_heijmans}
use Rattle.history.specs.declared.Job.{Job}
use Rattle.history.specs.Call.{pass, passed, answer_of, state_of, refusal_of}
use Rattle.history.specs.Demand3.{Operated}
use Rattle.history.specs.History.{Entry}
use Rattle.history.specs.Pass.{Outcome, next_image, pass_of}
use Rattle.history.specs.Sound.{Ready}
use Rattle.history.specs.State.{State, image}
use Rattle.history.specs.View.{view_of}
use Rattle.history.proofs.Areas.{next_changed, next_stable}
use Rattle.history.proofs.Pass as turns
use Rattle.history.proofs.Pass.{turn, last_image}
use Rattle.history.proofs.Passes as passes
use Rattle.history.proofs.Passes.{Way, way}
use Rattle.history.proofs.Ready.{ready_accepted, ready_image, ready_next, ready_changed, ready_stable}
use Rattle.history.proofs.Related.{Held}
use Rattle.history.proofs.Sound.{held_ready}
use Rattle.seq.proofs.Lists.{clash}
use Rattle.verdict.proofs.Rules.{refused_accepted}

pub view_ready : (s : State) → Ready s → view_of s ≡ image s
unfolding view_of
view_ready s r = rw (ready_accepted r)

pub view_held : {s : State} {e : Entry} {n : ℕ} → Held s e n → view_of s ≡ e.last
view_held {s} r = view_ready s (held_ready r) ∙ r.shown

-- an answer tells which of two it is
changed_stable {ℓ} : {P : Type ℓ} → passed (Ok Changed) ≡ passed (Ok Stable) → P
changed_stable q = absurd (let z : ◌≡◌ {A = ℕ} 0 1 = cc in omega arith)

module _ (s : State) {o : Outcome} (p : pass_of s ≡ o) where
  after_pass : state_of pass s ≡ o.state
  unfolding state_of
  after_pass = ap (λ (x : Outcome). x.state) p

  said : answer_of pass s ≡ passed o.answer
  unfolding answer_of
  said = ap (λ (x : Outcome). passed x.answer) p

module _ (s : State) (r : Ready s) where
  -- the operator at the record's table and size
  abbrev operator : List ℕ → List ℕ
  operator = modified s.job.table s.job.width s.job.height

  -- 000's formula is one pass
  next_modified : next_image s ≡ operator (view_of s)
  unfolding next_image
  next_modified =
      (all_heijmans s.job.table s.job.width s.job.height (image s) r.table (ready_image r)).pass_modified
      ∙ ap operator (sym (view_ready s r))

  pub operated_ready : s.job.stage ≡ 1 → refusal_of (answer_of pass s) ≡ Ok tt
      → Operated s.job.table s.job.width s.job.height s
  operated_ready z a = by (way s)
    where
      by : Way s → Operated s.job.table s.job.width s.job.height s
      by (passes.refused x e p) = refused_accepted e (ready_accepted r)
      by (passes.resting x y p) = absurd (omega arith)
      by (passes.stopped x y d e p) = refused_accepted (ap refusal_of (said s p)) a
      by (passes.quiet x y d p) = record {
        image = ap view_of (after_pass s p) ∙ view_ready _ (ready_stable r) ∙ next_stable s ∙ sym same ∙ next_modified;
        reported = (λ q. sym next_modified ∙ same ∙ sym (view_ready s r), λ q. said s p);
        otherwise = inr (said s p);
      }
        where
          same : next_image s ≡ image s
          same = sym (differs_equal (image s) (next_image s) ((ready_image r).sized ∙ sym (ready_next r).sized) d)
      by (passes.changes x y d e p) = record {
        image = ap view_of (after_pass s p) ∙ view_ready _ (ready_changed r e) ∙ next_changed s (ready_next r).sized ∙ next_modified;
        reported = (
          λ q. changed_stable (sym (said s p) ∙ q),
          λ q. clash d (ap (differs (image s)) (next_modified ∙ q ∙ view_ready s r) ∙ equal_differs (image s) (image s) refl),
        );
        otherwise = inl (said s p);
      }

module _ {s : State} {e : Entry} {n : ℕ} (r : Held s e n) where
  -- with the mark the last image is stable
  fixed : e.settled ≡ true → view_of s ≡ modified e.table e.width e.height (view_of s)
  fixed q =
      rw (view_held r)
      (sym (sym (all_heijmans e.table e.width e.height e.last r.accepted (last_image r)).pass_modified ∙ r.stable q))

  -- else the job is at stage 1, and its pass is not refused
  loaded : e.settled ≡ false → refusal_of (answer_of pass s) ≡ Ok tt → Operated e.table e.width e.height s
  loaded q a =
      subst (λ (j : Job). Operated j.table j.width j.height s) r.job (operated_ready s (held_ready r) (rw (r.job, q)) a)

  pub operated_held : Operated e.table e.width e.height s
  operated_held =
      elim (turn r) [
        | turns.resting q a
            ↦ record { image = ap view_of (after_pass s a) ∙ fixed q; reported = (λ x. sym (fixed q), λ x. said s a); otherwise = inr (said s a) }
        | turns.changes q d a ↦ loaded q (ap refusal_of (said s a))
        | turns.quiet q d a ↦ loaded q (ap refusal_of (said s a))
      ]
