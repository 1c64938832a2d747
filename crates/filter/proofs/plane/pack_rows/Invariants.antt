-- `plane::pack_rows` meets its contract. The invariant: the rows before `row` are packed, the places are those of `row`, and the line is white behind the width.
-- Assumes nothing.
use mathlib.Core.Path.{◌≡◌}
use Prim.Native.Nat.{◌+◌, ◌*◌}
use Rattle.filter.specs.Code.Plane.{step, rim, White, RowsPacked}
use Rattle.filter.proofs.plane.pack_rows.Given as goal

abbrev pub invariant-loop-row : goal.invariant-loop-row
invariant-loop-row l =
    RowsPacked l.width l.pixels l.row l.initial.plane l.plane × (l.from ≡ l.row * l.width) × (l.to ≡ step * (rim + l.row)) × White l.width l.line
