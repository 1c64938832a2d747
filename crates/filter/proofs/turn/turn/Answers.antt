-- `turn::turn` meets its contract. The invariant: the rows passed are turned and counted, and their marks stand where something changed.
-- Assumes nothing.
use Prim.Native.Nat.{◌*◌}
use native.Mathlib.Omega.{arith}
use Rattle.filter.proofs.TurnRows.{walked_none, walked_unmarked, walked_quiet, walked_more, walked_like, walked_all}
use Rattle.filter.proofs.TurnTally.{tallied_le}
use Rattle.filter.proofs.turn.turn.Goals as goal
use Rattle.filter.proofs.turn.turn.Goals.{then-changed-row-ne0+then-t-eq0, then-changed-row-ne0+else-t-eq0, else-changed-row-ne0}

pub loop-row-init : goal.loop-row-init
loop-row-init c = walked_none _ _ _ _

pub overflow_add-t : goal.overflow_add-t
overflow_add-t c =
    omega (arith, c.tally_row-t.ensures.0, c.tally_row-t.ensures.1, tallied_le 1 c.args.flips.now (c.loop-row.row * 64) 64, tallied_le 0 c.args.flips.now (c.loop-row.row * 64) 64)

pub overflow_add-added : goal.overflow_add-added
overflow_add-added c =
    omega (arith, c.tally_row-t.ensures.0, tallied_le 1 c.args.flips.now (c.loop-row.row * 64) 64)

pub overflow_add-removed : goal.overflow_add-removed
overflow_add-removed c =
    omega (arith, c.tally_row-t.ensures.1, tallied_le 0 c.args.flips.now (c.loop-row.row * 64) 64)

pub loop-row-preserved : goal.loop-row-preserved
loop-row-preserved c =
    let inv = c.loop-row.invariant in
    let below = c.loop-row-test.true in
    elim c.if-changed-row-ne0.branch [
      | then-changed-row-ne0+then-t-eq0 w ↦
          walked_like (walked_quiet inv below w.if-changed-row-ne0.true (omega (arith, w.tally_row-t.ensures.0, w.tally_row-t.ensures.1, w.if-t-eq0.true))) w.plane-is w.changed-is w.added-is w.removed-is
      | then-changed-row-ne0+else-t-eq0 w ↦
          walked_like (walked_more inv below w.if-changed-row-ne0.true w.turn_row.ensures) w.plane-is w.changed-is (omega (arith, w.added-is, w.tally_row-t.ensures.0)) (omega (arith, w.removed-is, w.tally_row-t.ensures.1))
      | else-changed-row-ne0 w ↦ walked_like (walked_unmarked inv below w.if-changed-row-ne0.false) w.plane-is w.changed-is w.added-is w.removed-is
    ]

pub returns : goal.returns
returns c = (omega arith, omega arith, walked_all c.loop-row.invariant c.loop-row-test.false)
