-- `image::unpack::unpack_byte` meets its contract: the pixels passed are stored. Assumes nothing.
use Rattle.image.specs.Code.Rows.{byte_pixel}
use Rattle.seq.specs.Tab.{Filled}
use Rattle.image.proofs.unpack.unpack_byte.Given as goal

abbrev pub invariant-loop-k : goal.invariant-loop-k
invariant-loop-k l = Filled (byte_pixel l.byte) l.initial.pixels l.pixels l.k
