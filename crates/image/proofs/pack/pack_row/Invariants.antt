-- `image::pack::pack_row` meets its contract: the bytes passed are stored. Assumes nothing.
use Rattle.image.specs.Code.Rows.{packed_row}
use Rattle.seq.specs.Tab.{Filled}
use Rattle.image.proofs.pack.pack_row.Given as goal

abbrev pub invariant-loop-i : goal.invariant-loop-i
invariant-loop-i l = Filled (packed_row l.row) l.initial.bytes l.bytes l.i
