-- `number::put_at` meets its contract.
-- Assumes nothing.
use Rattle.table.proofs.Bytes.{Putting}
use Rattle.table.proofs.number.put_at.Given as goal

abbrev pub invariant-loop-j : goal.invariant-loop-j
invariant-loop-j l = Putting l.initial.out l.at l.n l.j l.left l.out
