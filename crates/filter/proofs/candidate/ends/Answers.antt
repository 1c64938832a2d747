-- `candidate::ends` meets its contract. The invariant: high is a position if one of the first p is, low if one of the last p is.
-- Assumes nothing.
use mathlib.Core.Path.{refl, sym, ◌∙◌}
use Prim.Native.Nat.{◌-◌}
use native.Mathlib.Omega.{arith}
use Rattle.filter.proofs.CandidatePairs.{met_yes, met_no, met_all}
use Rattle.filter.proofs.candidate.ends.Goals as goal
use Rattle.filter.proofs.candidate.ends.Goals.{then-has, else-has, then-has-2, else-has-2}

pub loop-p-preserved : goal.loop-p-preserved
loop-p-preserved c =
    let found = sym c.has.ensures in
    let found2 = sym c.has-in-loop-p.ensures in (
      elim c.if-has.branch [
        | then-has w ↦ rw w.high-is (met_yes _ _ _ (omega arith) (found ∙ w.if-has.true))
        | else-has w ↦ rw w.high-is (met_no _ _ c.loop-p.invariant.0 (found ∙ w.if-has.false))
      ],
      elim c.if-has-2.branch [
        | then-has-2 w ↦ rw w.low-is (met_yes _ _ _ (omega arith) (found2 ∙ w.if-has-2.true))
        | else-has-2 w ↦ rw w.low-is (met_no _ _ c.loop-p.invariant.1 (found2 ∙ w.if-has-2.false))
      ],
      omega arith,
    )

pub returns : goal.returns
returns c =
    record {
      low = met_all _ _ c.loop-p.invariant.1 c.requires (λ n. 24 - n) (λ n l. (omega arith, omega arith));
      high = met_all _ _ c.loop-p.invariant.0 c.requires (λ n. n) (λ n l. (omega arith, refl));
    }
