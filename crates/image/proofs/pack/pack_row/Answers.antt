-- `image::pack::pack_row` meets its contract. Assumes nothing.
use native.Mathlib.Omega.{arith}
use Rattle.image.proofs.Packed.{pack_more, pack_rest, pack_all}
use Rattle.image.proofs.RowBytes.{row_bytes_fit}
use Rattle.seq.proofs.Tab.{fill_length}
use Rattle.image.proofs.pack.pack_row.Goals as goal
use lib.ListN.{length}

pub bounds-bytes-i : goal.bounds-bytes-i
bounds-bytes-i c = omega (arith, row_bytes_fit (length c.args.row.now), fill_length c.loop-i.invariant)

pub loop-i-preserved : goal.loop-i-preserved
loop-i-preserved c = pack_more c.args.row.now c.loop-i.invariant c.requires.1 (omega arith) c.pack_byte.ensures

pub returns-then-whole-bytes : goal.returns-then-whole-bytes
returns-then-whole-bytes c =
    pack_rest c.args.row.now c.loop-i.invariant c.requires.1 (omega arith) (omega arith) c.pack_byte-then-whole-bytes.ensures

pub returns-else-whole-bytes : goal.returns-else-whole-bytes
returns-else-whole-bytes c = pack_all c.args.row.now c.loop-i.invariant c.requires.1 (omega arith) (omega arith)
