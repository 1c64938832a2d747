-- `candidate::hold` meets its contract. The invariant: what the pairs passed hold is set.
-- Assumes nothing.
use mathlib.Core.Path.{◌≡◌}
use Prim.Native.Nat.{◌*◌}
use lib.ListN.{length}
use Rattle.filter.specs.Code.Candidate.{Joined}
use Rattle.filter.proofs.candidate.hold.Given as goal

abbrev pub invariant-loop-four : goal.invariant-loop-four
invariant-loop-four l = Joined l.pairs (4 * l.four-index) l.size l.source l.out × (length l.out ≡ length l.initial.out)
