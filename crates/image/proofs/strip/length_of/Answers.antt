-- `image::strip::length_of`: the bytes of the files of the parts passed. Assumes nothing.
use native.Mathlib.Omega.{arith}
use Rattle.image.proofs.StripLoops.{part_sides, measured_fits, measured_more}
use Rattle.image.proofs.strip.length_of.Goals as goal

pub length_of-bytes-requires : goal.length_of-bytes-requires
length_of-bytes-requires c = part_sides _ c.requires.0 c.requires.1 c.requires.2 _ (omega arith)

pub overflow_add-bytes : goal.overflow_add-bytes
overflow_add-bytes c =
    omega (arith, measured_fits c.loop-height.invariant c.length_of-bytes.ensures (omega arith) c.requires.0 c.requires.1 c.requires.2)

pub loop-height-preserved : goal.loop-height-preserved
loop-height-preserved c = measured_more c.loop-height.invariant c.length_of-bytes.ensures (omega arith)
