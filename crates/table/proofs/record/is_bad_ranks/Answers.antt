-- `record::is_bad_ranks` meets its contract: each half of the test, as it is left.
-- Assumes nothing.
use borrow.Author.Tests.{le-leb, lt-leb, lt-ltb}
use Rattle.seq.proofs.Tests.{lt_not_le}
use Rattle.table.specs.Record.{max_ranks, bad_ranks}
use Rattle.table.proofs.record.is_bad_ranks.Goals as goal

pub returns-then-ranks-least : goal.returns-then-ranks-least
unfolding bad_ranks
returns-then-ranks-least c = simp (lt-leb _ _ c.if-ranks-least.true, lt-ltb _ _ c.if-ranks-least.true)

pub returns-else-ranks-least : goal.returns-else-ranks-least
unfolding bad_ranks
returns-else-ranks-least c = simp (le-leb _ _ c.if-ranks-least.false) (lt_not_le max_ranks c.args.ranks)
