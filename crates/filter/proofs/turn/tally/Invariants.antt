-- `turn::tally` meets its contract. The invariant: the sums are those of the first k bytes.
-- Assumes nothing.
use mathlib.Core.Path.{◌≡◌}
use Prim.Native.Nat.{◌≤◌}
use Rattle.filter.specs.Code.Turn.{tallied}
use Rattle.filter.proofs.turn.tally.Given as goal

abbrev pub invariant-loop-k : goal.invariant-loop-k
invariant-loop-k l = (l.k ≤ 32) × (l.more ≡ tallied 1 l.flips l.from l.k) × (l.less ≡ tallied 0 l.flips l.from l.k)
