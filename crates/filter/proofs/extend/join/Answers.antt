-- `extend::join` meets its contract.
-- Assumes nothing.
use native.Mathlib.Omega.{arith}
use Rattle.filter.proofs.ExtendLanes.{code_moved, joined}
use Rattle.filter.proofs.extend.join.Goals as goal

pub returns : goal.returns
returns c =
    joined _ _ _ _ _ _ (omega arith) (code_moved _ _ _ _ (omega arith) c.lane_of.ensures)
