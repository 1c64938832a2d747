-- 14 and its pass clause, in words and by the tests (01, Refused because of the state).
--     sound                      where none of 14's conditions holds, the test does not
--     overruns, overrun_pass     14's pass clause: a pass under it is refused by 14
--     refused_changed            a refusal is not "changed"
--     still_ready                passes that change pixels leave the record ready
--     refused_pass               a pass of a run is refused under the clause only
-- Assumes nothing.
use Rattle.std.specs.Prelude.{Ok, Err}
use mathlib.Core.Bool.{true, false}
use mathlib.Core.Logic.{inl, inr, ⊎_elim}
use mathlib.Core.Path.{◌≡◌, refl, sym, ap, ◌∙◌}
use Prim.Native.Nat.{ℕ, zero, suc, ◌+◌}
use native.Mathlib.Omega.{arith}
use borrow.Author.Tests.{ltb-true, lt-ltb}
use lib.Dec.{ltb}
use Rattle.history.specs.declared.Effect.TheVariants.{Changed}
use Rattle.operator.specs.Image.{differs}
use Rattle.verdict.specs.declared.Rule.TheVariants as why
use Rattle.operator.proofs.Counts.{differs_equal, equal_differs}
use Rattle.history.specs.Answers.{Passed}
use Rattle.history.specs.Demand1.{after_passes, Goes}
use Rattle.history.specs.Pass.{Outcome, next_image, now_added, now_removed, exceeds, pass_of}
use Rattle.history.specs.Sound.{Unsound, Overruns, Ready}
use Rattle.history.specs.State as state
use Rattle.history.specs.State.{State, pixels, image}
use Rattle.history.proofs.Passes as passes
use Rattle.history.proofs.Passes.{Way, way}
use Rattle.history.proofs.Ready.{ready_sound, ready_accepted, ready_image, ready_next}
use Rattle.history.proofs.Runs.{goes_ready}
use Rattle.history.proofs.Unsound.{unsound_words, sound_none, sound_ready}
use Rattle.seq.proofs.Lists.{clash, not_true_false, or_cases, or_left, or_right}
use Rattle.verdict.specs.Answers.{verdict_of}
use Rattle.verdict.specs.Rules.{refusal, Refusal}
use Rattle.verdict.proofs.Rules.{refused_accepted}

-- where none of the conditions holds, the test does not
pub sound : (s : State) → (Unsound s → ⊥) → state.unsound s ≡ false
sound s n = not_true_false (state.unsound s) (λ e. n (unsound_words s e))

-- 14's pass clause, in words
module _ {s : State} where
  pub overruns : Ready s → s.job.stage ≡ 1 → differs (image s) (next_image s) ≡ true → exceeds s ≡ true → Overruns s
  unfolding exceeds
  overruns r z d x = record {
    sound = sound_none s (ready_sound r);
    loaded = z;
    changes = λ e. clash d (ap (differs (image s)) e ∙ equal_differs (image s) (image s) refl);
    above =
        ⊎_elim (λ l. inl (ltb-true _ _ l)) (λ l. inr (ltb-true _ _ l))
        (or_cases (ltb (pixels s.job) (s.job.passes + 1)) (ltb (pixels s.job) (now_added s + now_removed s)) x);
  }

  pub overrun_pass : Overruns s → (pass_of s).answer ≡ Err (refusal why.Unsound 0)
  unfolding exceeds
  overrun_pass o = by (way s)
    where
      exceeding : exceeds s ≡ true
      exceeding =
          ⊎_elim (λ l. or_left (ltb (pixels s.job) (now_added s + now_removed s)) (lt-ltb _ _ l))
          (λ l. or_right (ltb (pixels s.job) (s.job.passes + 1)) (lt-ltb _ _ l)) o.above

      by : Way s → (pass_of s).answer ≡ Err (refusal why.Unsound 0)
      by (passes.refused x e p) = refused_accepted e (ready_accepted (sound_ready s (sound s o.sound) (λ z. omega (arith, o.loaded))))
      by (passes.resting r z p) = absurd (omega (arith, o.loaded))
      by (passes.quiet r z d p) = absurd (o.changes (sym (differs_equal (image s) (next_image s) ((ready_image r).sized ∙ sym (ready_next r).sized) d)))
      by (passes.changes r z d x p) = clash exceeding x
      by (passes.stopped r z d x p) = ap (λ (u : Outcome). u.answer) p

-- a refusal is not "changed"
pub refused_changed : {a : Passed} {r : Refusal} → a ≡ Err r → a ≡ Ok Changed → ⊥
refused_changed p q = let z : ◌≡◌ {A = ℕ} 0 1 = cc in omega arith

-- a pass of a run that is refused
pub still_ready : (s : State) → Ready s → (k : ℕ) → Goes k s → Ready (after_passes k s)
still_ready s ready zero g = ready
still_ready s ready (suc k) g = goes_ready k s g

module _ (s : State) (ready : Ready s) {r : Refusal} where
  pub refused_pass : (k : ℕ) → Goes k s → verdict_of (pass_of (after_passes k s)).answer ≡ Err r
      → (r ≡ refusal why.Unsound 0) × Overruns (after_passes k s)
  refused_pass k g q = by (way (after_passes k s))
    where
      by : Way (after_passes k s) → (r ≡ refusal why.Unsound 0) × Overruns (after_passes k s)
      by (passes.refused x e p) = refused_accepted e (ready_accepted (still_ready s ready k g))
      by (passes.resting x z p) = refused_accepted q (rw p)
      by (passes.quiet x z d p) = refused_accepted q (rw p)
      by (passes.changes x z d e p) = refused_accepted q (rw p)
      by (passes.stopped x z d e p) = let same : Err (refusal why.Unsound 0) ≡ Err r = sym (rw p) ∙ q in (cc, overruns x z d e)
