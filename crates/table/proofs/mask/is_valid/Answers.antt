-- `mask::is_valid` meets its contract: each half of the test, as it is left.
-- Assumes nothing.
use borrow.Author.Tests.{le-leb, lt-leb}
use Rattle.table.specs.Mask.{valid_mask}
use Rattle.table.proofs.mask.is_valid.Goals as goal

pub returns-then-mask-ge1 : goal.returns-then-mask-ge1
unfolding valid_mask
returns-then-mask-ge1 c = simp (le-leb 1 _ c.if-mask-ge1.true)

pub returns-else-mask-ge1 : goal.returns-else-mask-ge1
unfolding valid_mask
returns-else-mask-ge1 c = simp (lt-leb 1 _ c.if-mask-ge1.false)
