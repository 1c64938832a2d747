-- `job::parts::sums`: after i turns the first i places are sums. Assumes nothing.
use Prim.Native.Nat.{◌+◌}
use lib.ListN.{get_or}
use Rattle.seq.specs.Tab.{Filled}
use Rattle.job.proofs.parts.sums.Given as goal

abbrev pub invariant-loop-i : goal.invariant-loop-i
invariant-loop-i l = Filled (λ k. get_or l.numbers k 0 + get_or l.more k 0) l.initial.places l.places l.i
