-- The laws of what a verdict may refuse by. That a numeral is among numerals, `refl` computes.
--     says_if, says_by, says_at   a rule refuses by its own refusal
--     says_or, says_append        verdicts in a row, and two lists of rules
--     says_more                   what follows of a refusal
--     says_of                     what is said of a verdict that refuses
--     one_of_more                 more numbers
--     one_of_passes               a test that all of them pass
--     one_of_other                a number that is not among them
-- Assumes nothing.
use Rattle.std.specs.Prelude.{Option, None, Some, Err}
use mathlib.Core.Bool.{Bool, true, false}
use mathlib.Core.List.{List, ◌++◌}
use mathlib.Core.Logic.{◌≢◌}
use mathlib.Core.Path.{◌≡◌, refl, ap, subst, ◌∙◌}
use Prim.Native.Nat.{ℕ}
use borrow.Author.Tests.{eqb-true}
use lib.Dec.{eqb}
use Rattle.seq.specs.Lists.{all}
use Rattle.seq.proofs.Lists.{clash, any_elim, all_elim}
use Rattle.verdict.specs.declared.Rule.{Rule}
use Rattle.verdict.specs.Numbers.{Says, accepts, refuses, among, By, by, OneOf}
use Rattle.verdict.specs.Rules.{number_of, refusal, refuse_if, refuse_by, refuse_at, or_else, judge, Verdict, Refusal}
use Rattle.verdict.proofs.Rules.{refused_accepted, judge_append}

module _ {P : Refusal → Type 0} where
  pub says_if : (b : Bool) (n : Rule) (p : ℕ) → P (refusal n p) → Says P (refuse_if b n p)
  says_if true n p h = refuses h
  says_if false n p h = accepts

  pub says_by : (o : Option ℕ) (say : ℕ → Refusal) → ((k : ℕ) → o ≡ Some k → P (say k)) → Says P (refuse_by o say)
  says_by None say h = accepts
  says_by (Some k) say h = refuses (h k refl)

  pub says_at : (o : Option ℕ) (n : Rule) (at : ℕ → ℕ) → ((p : ℕ) → P (refusal n p)) → Says P (refuse_at o n at)
  says_at o n at h = says_by o (λ k. refusal n (at k)) (λ k e. h (at k))

  pub says_or : {v w : Verdict} → Says P v → Says P w → Says P (or_else v w)
  says_or accepts y = y
  says_or (refuses h) y = refuses h

  pub says_append : (vs ws : List Verdict) → Says P (judge vs) → Says P (judge ws) → Says P (judge (vs ++ ws))
  says_append vs ws x y = rw (judge_append vs ws) (says_or x y)

  pub says_more : {Q : Refusal → Type 0} {v : Verdict} → ((r : Refusal) → P r → Q r) → Says P v → Says Q v
  says_more f accepts = accepts
  says_more f (refuses {r} h) = refuses (f r h)

  pub says_of : {v : Verdict} {r : Refusal} → Says P v → v ≡ Err r → P r
  says_of accepts q = refused_accepted q refl
  says_of {r = r} (refuses {r = x} h) q = let same : x ≡ r = cc in subst P same h

module _ {ns : List ℕ} where
  pub one_of_more : {ms : List ℕ} {v : Verdict} → OneOf ns v → all (among ms) ns ≡ true → OneOf ms v
  one_of_more accepts h = accepts
  one_of_more {ms} (refuses {r} (by m)) h =
      let (n, k, e) = any_elim (eqb (number_of r)) ns m in
      refuses (by (ap (among ms) (eqb-true (number_of r) n e) ∙ all_elim (among ms) h k))

  pub one_of_passes : {v : Verdict} {r : Refusal} (p : ℕ → Bool) → OneOf ns v → all p ns ≡ true → v ≡ Err r → p (number_of r) ≡ true
  one_of_passes {r = r} p s h q = step (says_of s q)
    where
      step : By ns r → p (number_of r) ≡ true
      step (by m) = let (n, k, e) = any_elim (eqb (number_of r)) ns m in ap p (eqb-true (number_of r) n e) ∙ all_elim p h k

  pub one_of_other : {v : Verdict} {r : Refusal} {n : ℕ} → OneOf ns v → among ns n ≡ false → v ≡ Err r → number_of r ≢ n
  one_of_other {r = r} s h q e = step (says_of s q)
    where
      step : By ns r → ⊥
      step (by m) = clash m (ap (among ns) e ∙ h)
