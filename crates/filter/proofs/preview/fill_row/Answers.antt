-- `filter::preview::fill_row` meets its contract. Assumes nothing.
use Rattle.seq.proofs.Grid.{grid_at}
use Rattle.seq.proofs.Stores.{stored_more}
use Rattle.filter.proofs.PreviewLaws.{median_at}
use Rattle.filter.proofs.preview.fill_row.Goals as goal

pub loop-col-preserved : goal.loop-col-preserved
loop-col-preserved c =
    rw c.store.ensures (stored_more c.loop-col.invariant (grid_at _ (median_at _ _ _) _ _ c.loop-col-test.true))
