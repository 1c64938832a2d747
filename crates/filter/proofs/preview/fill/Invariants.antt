-- `filter::preview::fill` meets its contract. Assumes nothing.
use Rattle.seq.proofs.Rows.{Rowed}
use Rattle.filter.proofs.PreviewLaws.{median_at}
use Rattle.filter.proofs.preview.fill.Given as goal

abbrev pub invariant-loop-row : goal.invariant-loop-row
invariant-loop-row l = Rowed l.size.width l.size.height (median_at l.size.width l.size.height l.pixels) l.initial.area l.area l.row
