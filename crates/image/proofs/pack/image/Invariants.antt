-- `image::pack::image` meets its contract. Assumes nothing.
use Rattle.image.proofs.PackedRows.{ImagePacked}
use Rattle.image.proofs.pack.image.Given as goal

abbrev pub invariant-loop-row : goal.invariant-loop-row
invariant-loop-row l = ImagePacked l.pixels l.width l.initial.raster l.bytes l.raster l.from l.to l._row
