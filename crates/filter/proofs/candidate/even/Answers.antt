-- `candidate::even` meets its contract.
-- Assumes nothing.
use native.Mathlib.Omega.{arith}
use Rattle.filter.proofs.CandidatePairs.{even_more}
use Rattle.filter.proofs.candidate.even.Goals as goal

pub returns : goal.returns
returns c = even_more _ _ (omega arith) (omega arith) c.if-n-eq0.false (omega arith)
