-- `writing::put_masks` meets its contract.
-- Assumes nothing.
use Rattle.table.proofs.Bytes.{placed_fits, placed_more}
use Rattle.table.proofs.writing.put_masks.Goals as goal

pub put_at-next-requires : goal.put_at-next-requires
put_at-next-requires c = placed_fits c.loop-mask.invariant c.loop-mask-test.true c.requires

pub loop-mask-preserved : goal.loop-mask-preserved
loop-mask-preserved c = placed_more c.loop-mask.invariant c.loop-mask-test.true c.put_at-next.ensures.0 c.put_at-next.ensures.1
