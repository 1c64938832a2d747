-- `extend::extend_rows` meets its contract. The invariant: the first r rows are widened, and the next one begins at `to`.
-- Assumes nothing.
use Rattle.filter.specs.Code.Extend.{Widenings}
use Rattle.filter.proofs.extend.extend_rows.Given as goal

abbrev pub invariant-loop-r : goal.invariant-loop-r
invariant-loop-r l = Widenings l.width l.initial.map l.map l.r
