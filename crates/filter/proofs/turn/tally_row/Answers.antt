-- `turn::tally_row` meets its contract: the halves are joined.
-- Assumes nothing.
use Prim.Native.Nat.{◌+◌}
use native.Mathlib.Omega.{arith}
use Rattle.filter.proofs.TurnTally.{tallied_le, tallied_join}
use Rattle.filter.proofs.turn.tally_row.Goals as goal

pub overflow_add-result : goal.overflow_add-result
overflow_add-result c =
    omega (arith, tallied_le 1 c.args.flips.now c.args.from 32, tallied_le 1 c.args.flips.now (c.args.from + 32) 32)

pub overflow_add-result-2 : goal.overflow_add-result-2
overflow_add-result-2 c =
    omega (arith, tallied_le 0 c.args.flips.now c.args.from 32, tallied_le 0 c.args.flips.now (c.args.from + 32) 32)

pub returns : goal.returns
returns c =
    (omega (arith, tallied_join 1 c.args.flips.now c.args.from 32 32), omega (arith, tallied_join 0 c.args.flips.now c.args.from 32 32))
