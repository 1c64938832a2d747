-- `image::unpack::unpack_row` meets its contract: the pixels of the bytes passed are stored. Assumes nothing.
use Prim.Native.Nat.{◌*◌}
use Rattle.image.specs.Code.Rows.{row_pixel}
use Rattle.seq.specs.Tab.{Filled}
use Rattle.image.proofs.unpack.unpack_row.Given as goal

abbrev pub invariant-loop-i : goal.invariant-loop-i
invariant-loop-i l = Filled (row_pixel l.bytes) l.initial.row l.row (8 * l.i)
