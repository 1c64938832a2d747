-- `job::parts::front`: after i turns the first i places are filled. Assumes nothing.
use lib.ListN.{get_or, take}
use Rattle.seq.specs.Tab.{Filled}
use Rattle.job.proofs.parts.front.Given as goal

abbrev pub invariant-loop-i : goal.invariant-loop-i
invariant-loop-i l = Filled (λ k. get_or (take l.count l.numbers) k 0) l.initial.places l.places l.i
