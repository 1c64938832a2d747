-- `image::unpack::image` meets its contract. Assumes nothing.
use Rattle.image.proofs.Unpacked.{ImageDone}
use Rattle.image.proofs.unpack.image.Given as goal

abbrev pub invariant-loop-row : goal.invariant-loop-row
invariant-loop-row l = ImageDone l.raster l.width l.initial.pixels l.bytes l.pixels l.from l.to l._row
