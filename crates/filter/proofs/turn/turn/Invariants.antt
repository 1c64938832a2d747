-- `turn::turn` meets its contract. The invariant: the rows passed are turned and counted, and their marks stand where something changed.
-- Assumes nothing.
use Rattle.filter.proofs.TurnRows.{Walked}
use Rattle.filter.proofs.turn.turn.Given as goal

abbrev pub invariant-loop-row : goal.invariant-loop-row
invariant-loop-row l =
    Walked l.height l.flips l.initial.plane l.initial.changed l.plane l.changed l.added l.removed l.row
