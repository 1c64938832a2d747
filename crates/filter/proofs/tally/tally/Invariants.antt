-- `tally::tally` meets its contract. The invariant: the counts are those of the whole blocks that were passed.
-- Assumes nothing.
use Prim.Native.Nat.{◌*◌}
use Rattle.filter.specs.Code.Strip.{Counted}
use Rattle.filter.proofs.tally.tally.Given as goal

abbrev pub invariant-loop-k : goal.invariant-loop-k
invariant-loop-k l = Counted l.old l.from l.new l.at (64 * l.k) l.added l.removed
