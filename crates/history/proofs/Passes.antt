-- A pass on any record and areas: the ways that it goes.
--     pass_refused, pass_stable, pass_loaded_lem     14 and 16, then stage 2, then one pass at stage 1
--     Way s, way                                 the five ways that a pass goes, and that it goes one of them
--     Changes s, changed                         what a pass that answers "changed" has done
-- Assumes nothing.
use Rattle.std.specs.Prelude.{Ok, Err}
use mathlib.Core.Bool.{Bool, true, false}
use mathlib.Core.Path.{◌≡◌, refl, ap, ◌∙◌}
use Prim.Native.Nat.{ℕ, ◌+◌}
use native.Mathlib.Omega.{arith}
use borrow.Author.Tests.{eq-eqb, ne_eqb, eqb-true, eqb-false}
use lib.Dec.{eqb}
use Rattle.history.specs.Answers.{Passed}
use Rattle.history.specs.declared.Effect.TheVariants.{Changed, Stable}
use Rattle.operator.specs.Image.{differs}
use Rattle.history.specs.declared.Job.{Job}
use Rattle.history.specs.Pass.{Outcome, next_image, exceeds, with_next, changed_job, stable_job, changing, pass_loaded, pass_ready, pass_of}
use Rattle.history.specs.Sound.{Ready}
use Rattle.history.specs.State.{State, pixels, image, ready_verdict}
use Rattle.verdict.specs.declared.Rule.TheVariants as why
use Rattle.history.proofs.Areas.{next_job}
use Rattle.history.proofs.Ready.{accepted_ready, ready_changed}
use Rattle.verdict.specs.Rules.{refusal, Verdict, Refusal}

module _ (s : State) where
  pub pass_refused : {r : Refusal} → ready_verdict s ≡ Err r → pass_of s ≡ record { answer = Err r; state = s }
  unfolding pass_of
  pass_refused e = rw e

  pub pass_stable : ready_verdict s ≡ Ok tt → s.job.stage ≡ 2 → pass_of s ≡ record { answer = (Ok Stable); state = s }
  unfolding pass_of pass_ready
  pass_stable e z = rw (e, eq-eqb s.job.stage 2 z)

  pub pass_loaded_lem : ready_verdict s ≡ Ok tt → (s.job.stage ≡ 2 → ⊥) → pass_of s ≡ pass_loaded s
  unfolding pass_of pass_ready
  pass_loaded_lem e h = rw (e, ne_eqb s.job.stage 2 h)

-- refused by 14 or 16; at stage 2; and at stage 1 quiet, changing, or stopped by 14's pass clause
pub data Way (s : State) : Type 0 where
  refused : (r : Refusal) → ready_verdict s ≡ Err r → pass_of s ≡ record { answer = Err r; state = s } → Way s
  resting : Ready s → s.job.stage ≡ 2 → pass_of s ≡ record { answer = (Ok Stable); state = s } → Way s
  quiet : Ready s → s.job.stage ≡ 1 → differs (image s) (next_image s) ≡ false
      → pass_of s ≡ record { answer = (Ok Stable); state = with_next (stable_job s) s } → Way s
  changes : Ready s → s.job.stage ≡ 1 → differs (image s) (next_image s) ≡ true → exceeds s ≡ false
      → pass_of s ≡ record { answer = (Ok Changed); state = with_next (changed_job s) s } → Way s
  stopped : Ready s → s.job.stage ≡ 1 → differs (image s) (next_image s) ≡ true → exceeds s ≡ true
      → pass_of s ≡ record { answer = Err (refusal why.Unsound 0); state = s } → Way s

pub way : (s : State) → Way s
unfolding pass_loaded changing
way s = by (ready_verdict s) refl
  where
    loaded : ready_verdict s ≡ Ok tt → (r : Ready s) → s.job.stage ≡ 1 → (d : Bool) → differs (image s) (next_image s) ≡ d
        → (x : Bool) → exceeds s ≡ x → Way s
    loaded e r z false p x q = quiet r z p (pass_loaded_lem s e (λ w. omega arith) ∙ rw p)
    loaded e r z true p false q = changes r z p q (pass_loaded_lem s e (λ w. omega arith) ∙ rw (p, q))
    loaded e r z true p true q = stopped r z p q (pass_loaded_lem s e (λ w. omega arith) ∙ rw (p, q))

    ready : ready_verdict s ≡ Ok tt → (t : Bool) → eqb s.job.stage 2 ≡ t → Way s
    ready e true z = resting (accepted_ready s e) (eqb-true _ 2 z) (pass_stable s e (eqb-true _ 2 z))
    ready e false z =
        let r = accepted_ready s e in
        let n = eqb-false s.job.stage 2 z in
        loaded e r (omega arith) (differs (image s) (next_image s)) refl (exceeds s) refl

    by : (v : Verdict) → ready_verdict s ≡ v → Way s
    by (Err r) e = refused r e (pass_refused s e)
    by (Ok _) e = ready e (eqb s.job.stage 2) refl

-- a pass that answers "changed" leaves the record ready, with one pass more and the same pixels
pub record Changes (s : State) : Type 0 where
  pub before : Ready s
  pub begun : s.job.stage ≡ 1
  pub state : (pass_of s).state ≡ with_next (changed_job s) s
  pub ready : Ready (pass_of s).state
  pub loaded : (pass_of s).state.job.stage ≡ 1
  pub passes : (pass_of s).state.job.passes ≡ s.job.passes + 1
  pub same : pixels (pass_of s).state.job ≡ pixels s.job

pub changed : (s : State) → (pass_of s).answer ≡ Ok Changed → Changes s
unfolding changed_job
changed s e = by (way s)
  where
    none : {r : Refusal} → Err r ≡ Ok Changed → Changes s
    none q = absurd (let z : ◌≡◌ {A = ℕ} 0 1 = cc in omega arith)

    still : ◌≡◌ {A = Passed} (Ok Stable) (Ok Changed) → Changes s
    still q = absurd (let z : ◌≡◌ {A = ℕ} 0 1 = cc in omega arith)

    by : Way s → Changes s
    by (refused r x p) = none (rw p at e)
    by (resting r z p) = still (rw p at e)
    by (quiet r z d p) = still (rw p at e)
    by (stopped r z d x p) = none (rw p at e)
    by (changes r z d x p) = record {
      before = r;
      begun = z;
      state = here;
      ready = rw here (ready_changed r x);
      loaded = ap (λ (j : Job). j.stage) job;
      passes = ap (λ (j : Job). j.passes) job;
      same = ap pixels job;
    }
      where
        here : (pass_of s).state ≡ with_next (changed_job s) s
        here = ap (λ (o : Outcome). o.state) p

        job : (pass_of s).state.job ≡ changed_job s
        job = ap (λ (t : State). t.job) here ∙ next_job (changed_job s) s
