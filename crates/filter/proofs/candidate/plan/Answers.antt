-- `candidate::plan` meets its contract. The invariant: each of the elements before e has a pair among the first n shifts.
-- Assumes nothing.
use native.Mathlib.Omega.{arith}
use lib.Seq.{take_all}
use Rattle.filter.proofs.CandidateParts.{paired_more, parts_paired}
use Rattle.filter.proofs.candidate.plan.Goals as goal

pub loop-e-preserved : goal.loop-e-preserved
loop-e-preserved c =
    (paired_more c.args.elements.now c.loop-e.e-index (omega arith) (omega arith) c.loop-e.invariant.0 c.add_pair-n.ensures, omega arith, omega arith)

pub returns : goal.returns
returns c =
    let whole = rw (take_all c.loop-e.e-index c.args.elements.now (omega arith)) at c.loop-e.invariant.0 in
    (omega arith, parts_paired c.requires.3 (omega arith) whole c.even.ensures, omega arith)
