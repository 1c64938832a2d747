-- `candidate::narrow` meets its contract. The invariant: the first k bytes of the row are stored, and seen is their bitwise or.
-- Assumes nothing.
use native.Mathlib.Omega.{arith}
use Rattle.filter.proofs.CandidateRow.{narrow_more, narrow_all}
use Rattle.filter.proofs.candidate.narrow.Goals as goal

pub loop-k-preserved : goal.loop-k-preserved
loop-k-preserved c =
    (narrow_more _ _ _ _ _ _ c.loop-k.invariant.0 (omega arith) c.other.ensures, omega arith)

pub returns : goal.returns
returns c = narrow_all _ _ _ _ _ c.loop-k.invariant.0 (omega arith)
