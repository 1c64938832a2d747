-- `turn::ones` meets its contract: the sums of neighbouring bits, computed for every byte.
-- Assumes nothing.
use native.Mathlib.Omega.{arith}
use Rattle.filter.proofs.TurnTally.{ones_lanes}
use Rattle.filter.proofs.turn.ones.Goals as goal

pub returns : goal.returns
returns c = ones_lanes c.args.f (omega arith)
