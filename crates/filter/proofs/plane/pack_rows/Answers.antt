-- `plane::pack_rows` meets its contract. The invariant: the rows before `row` are packed, the places are those of `row`, and the line is white behind the width.
-- Assumes nothing.
use native.Mathlib.Omega.{arith}
use Rattle.filter.proofs.PackLaws.{zero_line, rows_none}
use Rattle.filter.proofs.plane.pack_rows.Goals as goal

pub loop-row-init : goal.loop-row-init
loop-row-init c = (rows_none _ _ _, omega arith, omega arith, zero_line 256 _)
