-- `candidate::parts_of` meets its contract.
-- Assumes nothing.
use native.Mathlib.Omega.{arith}
use Rattle.filter.proofs.CandidateParts.{parts_only}
use Rattle.filter.proofs.candidate.parts_of.Goals as goal

pub returns-then-elements-eq1 : goal.returns-then-elements-eq1
returns-then-elements-eq1 c = (omega arith, parts_only _ _ c.if-elements-eq1.true c.only.ensures.1, c.only.ensures.2)
