-- `image::strip::write_parts`: the files of the parts passed are written. Assumes nothing.
use Rattle.image.proofs.StripLoops.{PartsPut}
use Rattle.image.proofs.strip.write_parts.Given as goal

abbrev pub invariant-loop-height : goal.invariant-loop-height
invariant-loop-height l = PartsPut l.width l.heights l.pixels l.initial.out l.out l.from l.to l.height-index
