-- `show::show` meets its contract. The invariant: the rows before `row` are shown.
-- Assumes nothing.
use Rattle.filter.proofs.ShowLaws.{Showing}
use Rattle.filter.proofs.show.show.Given as goal

abbrev pub invariant-loop-row : goal.invariant-loop-row
invariant-loop-row l = Showing l.width l.height l.marks l.plane l.initial.out l.out l.row l.from l.to
