-- Passes at stage 1 one after the other, and a run by them: one check of the record is enough, since a changing pass leaves the record sound.
--     run_stable               a run that stage 2 ends before it begins
--     made_first               several passes by their first; made_goes, made_ends: by its answer
--     made_one                 one of them
--     made_run                 as many as a run makes
--     pass_at_most, run_at_most    a pass and a run, by how many passes they make at most
-- Assumes nothing.
use Rattle.std.specs.Prelude.{Ok, Err}
use mathlib.Core.Bool.{Bool, true, false}
use mathlib.Core.Logic.{⊎_elim}
use mathlib.Core.Path.{◌≡◌, refl, sym, ap, ◌∙◌}
use Prim.Native.Nat.{ℕ, zero, suc, ◌+◌, ◌≤◌}
use native.Mathlib.Numerals.{add-one}
use native.Mathlib.Omega.{arith}
use borrow.Author.Tests.{eqb-true, eqb-false}
use lib.Dec.{eqb}
use Rattle.history.specs.Answers.{Passed}
use Rattle.history.specs.declared.Effect.TheVariants.{Changed, Stable}
use Rattle.history.specs.Pass.{Outcome, pass_loaded, pass_ready, pass_as, pass_of}
use Rattle.history.specs.Run.{run_for, run_of}
use Rattle.history.specs.Sound.{Ready}
use Rattle.history.specs.State.{State, pixels, ready_verdict}
use Rattle.history.proofs.Passes.{pass_stable, pass_loaded_lem, Changes, changed}
use Rattle.history.proofs.Ready.{accepted_ready, ready_accepted, ready_small}
use Rattle.history.proofs.Runs.{after, after_ends, either_changed, run_ends, run_goes, run_refused}
use Rattle.image.specs.Strip.{max_strip}
use Rattle.job.specs.Code.Passes.{made, at_most_as, at_most}
use Rattle.verdict.specs.Rules.{Verdict}

run_stable : (s : State) → ready_verdict s ≡ Ok tt → s.job.stage ≡ 2 → run_of s ≡ record { answer = Ok Stable; state = s }
unfolding run_of
run_stable s e z =
    let p = pass_stable s e z in
    run_ends (pixels s.job) s (λ q. let y : (Ok Stable) ≡ (Ok Changed) = rw p at q in let x : ◌≡◌ {A = ℕ} 0 1 = cc in omega arith) ∙ p

-- several passes by their first
module _ (n : ℕ) (s : State) where
  pub made_first : {o : Outcome} → pass_loaded s ≡ o → made (suc n) s ≡ after o (made n o.state) o.answer
  unfolding made
  made_first e = ap (λ (o : Outcome). after o (made n o.state) o.answer) e

  pub made_goes : (pass_loaded s).answer ≡ Ok Changed → made (suc n) s ≡ made n (pass_loaded s).state
  made_goes e = made_first refl ∙ ap (after (pass_loaded s) (made n (pass_loaded s).state)) e

  pub made_ends : ((pass_loaded s).answer ≡ Ok Changed → ⊥) → made (suc n) s ≡ pass_loaded s
  made_ends h = made_first refl ∙ after_ends (pass_loaded s) (made n (pass_loaded s).state) (pass_loaded s).answer h

pub made_one : (s : State) → made 1 s ≡ pass_loaded s
unfolding made
made_one s =
    ⊎_elim (λ e. made_goes 0 s e ∙ ap (λ (a : Passed). record { answer = a; state = (pass_loaded s).state }) (sym e)) (made_ends 0 s)
    (either_changed (pass_loaded s).answer)

-- a pass on a record that is ready and not at rest is one at stage 1
module _ (n : ℕ) (s : State) (same : pass_of s ≡ pass_loaded s) where
  answers : (pass_of s).answer ≡ (pass_loaded s).answer
  answers = ap (λ (o : Outcome). o.answer) same

  for_goes : (pass_loaded s).answer ≡ Ok Changed → made (suc n) (pass_of s).state ≡ run_for n (pass_of s).state → made (suc (suc n)) s ≡ run_for (suc n) s
  for_goes e rest =
      made_goes (suc n) s e ∙ ap (λ (o : Outcome). made (suc n) o.state) (sym same) ∙ rest ∙ sym (run_goes n s (answers ∙ e))

  for_ends : ((pass_loaded s).answer ≡ Ok Changed → ⊥) → made (suc (suc n)) s ≡ run_for (suc n) s
  for_ends h = made_ends (suc n) s h ∙ sym same ∙ sym (run_ends (suc n) s (λ e. h (sym answers ∙ e)))

made_for : (n : ℕ) (s : State) → Ready s → (s.job.stage ≡ 2 → ⊥) → made (suc n) s ≡ run_for n s
unfolding run_for
made_for zero s r h = made_one s ∙ sym (pass_loaded_lem s (ready_accepted r) h)
made_for (suc n) s r h =
    let same = pass_loaded_lem s (ready_accepted r) h in
    let next : (pass_loaded s).answer ≡ Ok Changed → Changes s = λ e. changed s (answers n s same ∙ e) in
    ⊎_elim (λ e. for_goes n s same e (made_for n (pass_of s).state (next e).ready (λ z. omega (arith, (next e).loaded))))
    (for_ends n s same)
    (either_changed (pass_loaded s).answer)

made_run : (s : State) → Ready s → (s.job.stage ≡ 2 → ⊥) → made (pixels s.job + 1) s ≡ run_of s
unfolding run_of
made_run s r h = rw add-one (made_for (pixels s.job) s r h)

pub pass_at_most : (s : State) → at_most 1 s ≡ pass_of s
unfolding pass_of pass_ready
pass_at_most s = by (ready_verdict s)
  where
    by : (v : Verdict) → at_most_as v 1 s ≡ pass_as v s
    by (Ok tt) = rw (made_one s)
    by (Err r) = refl

pub run_at_most : (n : ℕ) (s : State) → (pixels s.job ≤ max_strip → n ≡ pixels s.job + 1) → at_most n s ≡ run_of s
run_at_most n s k = by (ready_verdict s) refl
  where
    staged : ready_verdict s ≡ Ok tt → (b : Bool) → eqb s.job.stage 2 ≡ b → at_most_as (Ok tt) n s ≡ run_of s
    staged e true z = rw z (sym (run_stable s e (eqb-true s.job.stage 2 z)))
    staged e false z =
        let ready = accepted_ready s e in
        rw (z, k (ready_small ready)) (made_run s ready (eqb-false s.job.stage 2 z))

    by : (v : Verdict) → ready_verdict s ≡ v → at_most n s ≡ run_of s
    by (Ok tt) e = rw e (staged e (eqb s.job.stage 2) refl)
    by (Err r) e = rw e (sym (run_refused s e))
