-- `image::pixels::copy`: after i turns the first i bytes are those of the pixels. Assumes nothing.
use lib.ListN.{get_or}
use Rattle.seq.specs.Tab.{Filled}
use Rattle.image.proofs.pixels.copy.Given as goal

abbrev pub invariant-loop-i : goal.invariant-loop-i
invariant-loop-i l = Filled (λ k. get_or l.pixels k 0) l.initial.area l.area l.i
