-- `filter::preview::fill_row` meets its contract. Assumes nothing.
use Rattle.seq.proofs.Stores.{Stored}
use Rattle.filter.proofs.PreviewLaws.{median_at}
use Rattle.filter.proofs.preview.fill_row.Given as goal

abbrev pub invariant-loop-col : goal.invariant-loop-col
invariant-loop-col l = Stored (median_at l.size.width l.size.height l.pixels l.row) l.initial.area l.start l.area l.col
