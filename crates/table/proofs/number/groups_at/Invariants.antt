-- `number::groups_at` meets its contract: the groups are summed from the last on.
-- Assumes nothing.
use lib.ListN.{drop}
use Rattle.table.proofs.Groups.{Summed}
use Rattle.table.proofs.number.groups_at.Given as goal

abbrev pub invariant-loop-j : goal.invariant-loop-j
invariant-loop-j l = Summed (drop l.at l.bytes) l.n l.j l.value
