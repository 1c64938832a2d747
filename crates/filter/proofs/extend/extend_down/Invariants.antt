-- `extend::extend_down` meets its contract. The invariant: each row before row r that lies below the image has its last row.
-- Assumes nothing.
use Prim.Native.Nat.{◌+◌, ◌-◌, ◌≤◌, min, max}
use Rattle.filter.specs.Code.Extend.{RowsBy}
use Rattle.filter.proofs.extend.extend_down.Given as goal

abbrev pub invariant-loop-r : goal.invariant-loop-r
invariant-loop-r l = RowsBy (λ i. min i (l.height + 1 - l.top)) l.initial.map l.map l.r × (l.r ≤ max (l.height + 2 - l.top) (l.rows + 4))
