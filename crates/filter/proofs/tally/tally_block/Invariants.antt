-- `tally::tally_block` meets its contract. The invariant: the counts are those of the first k pixels.
-- Assumes nothing.
use Rattle.filter.specs.Code.Strip.{Counted}
use Rattle.filter.proofs.tally.tally_block.Given as goal

abbrev pub invariant-loop-k : goal.invariant-loop-k
invariant-loop-k l = Counted l.old l.from l.new l.at l.k l.more l.less
