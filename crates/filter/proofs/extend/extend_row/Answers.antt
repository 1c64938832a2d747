-- `extend::extend_row` meets its contract.
-- Assumes nothing.
use native.Mathlib.Omega.{arith}
use borrow.Author.Tests.{ltb-true, ltb-false}
use Rattle.filter.proofs.ExtendRow.{widening, widening_crossed}
use Rattle.filter.proofs.extend.extend_row.Goals as goal
use Rattle.filter.proofs.extend.extend_row.Goals.{else-col-eq0-via-then-col-eq0+else-lane-gt0, else-col-eq0-via-else-col-eq0}

pub returns-then-lane-gt0 : goal.returns-then-lane-gt0
returns-then-lane-gt0 c =
    widening_crossed _ _ _ _ (omega arith) (omega arith) c.if-col-eq0.true (omega (arith, ltb-true)) c.join.ensures c.join-2.ensures c.join-then-lane-gt0.ensures

pub returns-else-col-eq0 : goal.returns-else-col-eq0
returns-else-col-eq0 c =
    widening _ _ _ _ (omega arith) (omega arith) (elim c.else-col-eq0.branch [ else-col-eq0-via-then-col-eq0+else-lane-gt0 w ↦ λ z p. omega (arith, ltb-false) | else-col-eq0-via-else-col-eq0 w ↦ λ z p. omega arith ]) c.join.ensures c.join-2.ensures
