-- `reading::read_masks` meets its contract.
-- Assumes nothing.
use Rattle.table.proofs.Steps.{Stepped}
use Rattle.table.proofs.reading.read_masks.Given as goal

abbrev pub invariant-loop-k : goal.invariant-loop-k
invariant-loop-k g l = Stepped l.kind l.file l.at l.place l.count g.row.N l.k l.next l.before l.masks
