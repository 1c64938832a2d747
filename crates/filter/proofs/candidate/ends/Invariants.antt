-- `candidate::ends` meets its contract. The invariant: high is a position if one of the first p is, low if one of the last p is.
-- Assumes nothing.
use Prim.Native.Nat.{◌≤◌, ◌-◌}
use Rattle.table.specs.Mask.{position_count}
use Rattle.filter.proofs.CandidatePairs.{Met}
use Rattle.filter.proofs.candidate.ends.Given as goal

abbrev pub invariant-loop-p : goal.invariant-loop-p
invariant-loop-p l = Met l.element (λ q. q) l.p l.high × Met l.element (λ q. 24 - q) l.p l.low × (l.p ≤ position_count)
