-- `rows::join` meets its contract. The invariant: the first k bytes are joined to their partners.
-- Assumes nothing.
use Prim.Native.Nat.{◌+◌}
use lib.Bits.{bit_or}
use lib.ListN.{get_or}
use Rattle.seq.specs.Loops.{Swept}
use Rattle.filter.proofs.rows.join.Given as goal

abbrev pub invariant-loop-k : goal.invariant-loop-k
invariant-loop-k l = Swept (λ j. bit_or (get_or l.initial.out j 0) (get_or l.source (l.from + j) 0)) l.initial.out l.out 0 l.k
