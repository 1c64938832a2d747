-- `image::strip::length_of`: the bytes of the files of the parts passed. Assumes nothing.
use Rattle.image.proofs.StripLoops.{Measured}
use Rattle.image.proofs.strip.length_of.Given as goal

abbrev pub invariant-loop-height : goal.invariant-loop-height
invariant-loop-height l = Measured l.width l.heights l.bytes l.height-index
