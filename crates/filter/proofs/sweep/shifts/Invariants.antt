-- `sweep::shifts` meets its contract. The invariant: the shifts of the positions below b stand at the front.
-- Assumes nothing.
use Rattle.filter.proofs.ShiftLaws.{Gathered}
use Rattle.filter.proofs.sweep.shifts.Given as goal

abbrev pub invariant-loop-b : goal.invariant-loop-b
invariant-loop-b l = Gathered l.mask l.at l.n l.b
