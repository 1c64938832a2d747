-- `candidate::add_pair` meets its contract.
-- Assumes nothing.
use native.Mathlib.Omega.{arith}
use Rattle.table.proofs.Masks.{position_elim}
use Rattle.filter.proofs.CandidatePairs.{added_more}
use Rattle.filter.proofs.candidate.add_pair.Goals as goal

pub shift_of-a-requires : goal.shift_of-a-requires
shift_of-a-requires c = (position_elim _ c.pair_of-p.ensures.low).0

pub shift_of-b-requires : goal.shift_of-b-requires
shift_of-b-requires c = (position_elim _ c.pair_of-p.ensures.high).0

pub returns : goal.returns
returns c =
    added_more (omega arith) (omega arith) c.pair_of-p.ensures c.shift_of-a.ensures c.shift_of-b.ensures
