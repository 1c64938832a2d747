-- `image::majority::combine`: after i turns the first i bytes are those of the majority. Assumes nothing.
use lib.ListN.{get_or}
use Rattle.image.specs.Code.Three.{majority_byte}
use Rattle.seq.specs.Tab.{Filled}
use Rattle.image.proofs.majority.combine.Given as goal

abbrev pub invariant-loop-i : goal.invariant-loop-i
invariant-loop-i l = Filled (λ k. majority_byte (get_or l.one k 0) (get_or l.two k 0) (get_or l.three k 0)) l.initial.out l.out l.i
