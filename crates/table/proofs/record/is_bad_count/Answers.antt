-- `record::is_bad_count` meets its contract: each half of the test, as it is left.
-- Assumes nothing.
use borrow.Author.Tests.{le-leb, lt-leb, lt-ltb}
use Rattle.seq.proofs.Tests.{lt_not_le}
use Rattle.table.specs.Record.{max_elements, bad_count}
use Rattle.table.proofs.record.is_bad_count.Goals as goal

pub returns-then-count-lt1 : goal.returns-then-count-lt1
unfolding bad_count
returns-then-count-lt1 c = simp (lt-leb _ _ c.if-count-lt1.true, lt-ltb _ _ c.if-count-lt1.true)

pub returns-else-count-lt1 : goal.returns-else-count-lt1
unfolding bad_count
returns-else-count-lt1 c = simp (le-leb _ _ c.if-count-lt1.false) (lt_not_le max_elements c.args.count)
