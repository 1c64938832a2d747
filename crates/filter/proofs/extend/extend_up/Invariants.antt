-- `extend::extend_up` meets its contract. The invariant: the first r rows have the image's first row.
-- Assumes nothing.
use Prim.Native.Nat.{◌-◌}
use Rattle.filter.specs.Code.Extend.{RowsBy}
use Rattle.filter.proofs.extend.extend_up.Given as goal

abbrev pub invariant-loop-r : goal.invariant-loop-r
invariant-loop-r l = RowsBy (λ i. 2 - l.top) l.initial.map l.map l.r
