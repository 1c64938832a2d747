-- `rows::spread` meets its contract. The invariant: d marks of each row are joined.
-- Assumes nothing.
use Prim.Native.Nat.{◌≤◌}
use Rattle.filter.specs.Code.Rows.{nearby, Spread}
use Rattle.filter.proofs.rows.spread.Given as goal

abbrev pub invariant-loop-d : goal.invariant-loop-d
invariant-loop-d l = Spread l.d l.changed l.height l.initial.dirty l.dirty × (l.d ≤ nearby)
