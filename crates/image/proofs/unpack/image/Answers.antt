-- `image::unpack::image` meets its contract. Assumes nothing.
use native.Mathlib.Omega.{arith}
use Rattle.image.proofs.Unpacked.{image_more, image_all}
use Rattle.image.proofs.unpack.image.Goals as goal

pub loop-row-preserved : goal.loop-row-preserved
loop-row-preserved c = image_more c.loop-row.invariant c.requires.1 c.requires.2 (omega arith) c.unpack_row.ensures

pub returns : goal.returns
returns c = image_all c.loop-row.invariant c.requires.2 (omega arith)
