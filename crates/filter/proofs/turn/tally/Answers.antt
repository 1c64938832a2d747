-- `turn::tally` meets its contract. The invariant: the sums are those of the first k bytes.
-- Assumes nothing.
use mathlib.Core.Path.{sym}
use Prim.Native.Nat.{◌+◌, ◌/◌}
use native.Mathlib.Omega.{arith}
use lib.ListN.{get_or}
use Rattle.filter.proofs.TurnTally.{lanes_half, lanes_le, tallied_none, tallied_more, tallied_le}
use Rattle.filter.proofs.turn.tally.Goals as goal

pub loop-k-init : goal.loop-k-init
loop-k-init c = (omega arith, sym (tallied_none _ _ _), sym (tallied_none _ _ _))

pub overflow_add-more : goal.overflow_add-more
overflow_add-more c =
    omega (arith, tallied_le 1 c.args.flips.now c.args.from c.loop-k.k, lanes_le 0 (get_or c.args.flips.now (c.args.from + c.loop-k.k) 0 / 2))

pub overflow_add-less : goal.overflow_add-less
overflow_add-less c =
    omega (arith, tallied_le 0 c.args.flips.now c.args.from c.loop-k.k, lanes_le 0 (get_or c.args.flips.now (c.args.from + c.loop-k.k) 0))

pub loop-k-preserved : goal.loop-k-preserved
loop-k-preserved c = (
  omega arith,
  omega (arith, tallied_more 1 c.args.flips.now c.args.from c.loop-k.k, lanes_half (get_or c.args.flips.now (c.args.from + c.loop-k.k) 0)),
  omega (arith, tallied_more 0 c.args.flips.now c.args.from c.loop-k.k),
)
