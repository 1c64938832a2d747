-- `image::unpack::unpack_row` meets its contract. Assumes nothing.
use native.Mathlib.Omega.{arith}
use lib.ListN.{length}
use Rattle.image.proofs.RowBytes.{row_bytes_fit}
use Rattle.image.proofs.Unpacked.{row_more, row_rest, row_all}
use Rattle.image.proofs.unpack.unpack_row.Goals as goal

pub bounds-bytes-i : goal.bounds-bytes-i
bounds-bytes-i c = omega (arith, row_bytes_fit (length c.args.row.now))

pub loop-i-preserved : goal.loop-i-preserved
loop-i-preserved c = row_more c.args.bytes.now c.loop-i.i c.loop-i.invariant (omega arith) c.unpack_byte.ensures

pub returns-then-whole-bytes : goal.returns-then-whole-bytes
returns-then-whole-bytes c =
    row_rest c.args.bytes.now c.loop-i.i c.loop-i.invariant (omega arith) c.unpack_byte-then-whole-bytes.ensures

pub returns-else-whole-bytes : goal.returns-else-whole-bytes
returns-else-whole-bytes c = row_all c.args.bytes.now c.loop-i.i c.loop-i.invariant (omega arith) c.requires (omega arith)
