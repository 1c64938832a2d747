-- `filter::preview::fill` meets its contract. Assumes nothing.
use Rattle.seq.proofs.Rows.{rowed_more}
use Rattle.operator.specs.Preview.{preview}
use Rattle.operator.proofs.Window.{rowed_over}
use Rattle.filter.proofs.preview.fill.Goals as goal

pub loop-row-preserved : goal.loop-row-preserved
loop-row-preserved c = rowed_more c.loop-row.invariant c.loop-row-test.true c.fill_row.ensures

pub returns : goal.returns
unfolding preview
returns c = rowed_over c.loop-row.invariant c.loop-row-test.false
