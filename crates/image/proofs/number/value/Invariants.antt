-- `image::number::value` meets its contract. Assumes nothing.
use Rattle.image.proofs.Digits.{Valued}
use Rattle.image.proofs.number.value.Given as goal

abbrev pub invariant-loop-d : goal.invariant-loop-d
invariant-loop-d l = Valued l.ds l.n l.d-index
