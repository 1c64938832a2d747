-- `job::parts::sums_to`: what is left and what was passed make up the total. Assumes nothing.
use mathlib.Core.Path.{◌≡◌}
use Prim.Native.Nat.{◌+◌}
use lib.ListN.{take}
use Rattle.seq.specs.Lists.{sum_of}
use Rattle.job.proofs.parts.sums_to.Given as goal

abbrev pub invariant-loop-number : goal.invariant-loop-number
invariant-loop-number l = l.left + sum_of (take l.number-index l.numbers) ≡ l.total
