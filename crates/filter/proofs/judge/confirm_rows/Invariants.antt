-- `judge::confirm_rows` meets its contract. The invariant: the first r rows of the block are judged.
-- Assumes nothing.
use Rattle.filter.specs.Code.Judge.{JudgedRows}
use Rattle.filter.proofs.judge.confirm_rows.Given as goal

abbrev pub invariant-loop-r : goal.invariant-loop-r
invariant-loop-r l = JudgedRows l.masks.elements.now l.hit l.map l.plane l.top l.r l.initial.flips l.flips l.initial.changed l.changed
