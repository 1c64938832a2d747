-- `candidate::plan` meets its contract. The invariant: each of the first i elements has a pair among the first n shifts.
-- Assumes nothing.
use mathlib.Core.Path.{◌≡◌}
use Prim.Native.Nat.{◌*◌, ◌≤◌}
use lib.ListN.{length, take}
use Rattle.filter.proofs.CandidateParts.{Paired}
use Rattle.filter.proofs.candidate.plan.Given as goal

abbrev pub invariant-loop-e : goal.invariant-loop-e
invariant-loop-e l = Paired (take l.e-index l.elements) l.at l.n × (l.n ≤ 2 * l.e-index) × (length l.at ≡ 128)
