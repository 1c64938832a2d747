-- `turn::exchange` meets its contract. The invariant: the first k bytes have their codes exchanged.
-- Assumes nothing.
use Prim.Native.Nat.{◌≤◌}
use Rattle.filter.specs.Code.Turn.{Exchanged}
use Rattle.filter.proofs.turn.exchange.Given as goal

abbrev pub invariant-loop-k : goal.invariant-loop-k
invariant-loop-k l = (l.k ≤ 64) × Exchanged l.flips l.from l.initial.plane l.plane l.at l.k
