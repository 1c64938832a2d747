-- `run::repeat` meets its contract. The invariant: every memory has its length, the changes are within the budget, and the passes stand where the areas say.
-- Assumes nothing.
use Rattle.filter.proofs.RunEnds.{Looping}
use Rattle.filter.proofs.run.repeat.Given as goal

abbrev pub invariant-loop-passes : goal.invariant-loop-passes
invariant-loop-passes l =
    Looping l.masks.elements.now l.masks.persistents.now l.sides.width l.sides.height l.budget l.initial.plane l.initial.flips l.initial.first l.initial.second l.plane l.flips l.marks.dirty l.marks.stale l.first l.second l.passes l.added l.removed
