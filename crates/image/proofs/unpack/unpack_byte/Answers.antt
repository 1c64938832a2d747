-- `image::unpack::unpack_byte` meets its contract. Assumes nothing.
use mathlib.Core.Path.{refl}
use native.Mathlib.Omega.{arith}
use Rattle.seq.proofs.Tab.{fill_more}
use Rattle.image.proofs.unpack.unpack_byte.Goals as goal

pub loop-k-preserved : goal.loop-k-preserved
loop-k-preserved c = fill_more c.loop-k.invariant (omega arith) refl
