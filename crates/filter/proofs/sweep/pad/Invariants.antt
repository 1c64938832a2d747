-- `sweep::pad` meets its contract. The invariant: from n to before m stands the last of the n shifts.
-- Assumes nothing.
use Prim.Native.Nat.{◌-◌}
use lib.ListN.{get_or}
use Rattle.seq.specs.Loops.{Swept}
use Rattle.filter.proofs.sweep.pad.Given as goal

abbrev pub invariant-loop-k : goal.invariant-loop-k
invariant-loop-k l = Swept (λ j. get_or l.initial.at (l.n - 1) 0) l.initial.at l.at l.n l.k
