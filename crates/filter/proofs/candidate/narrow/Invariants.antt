-- `candidate::narrow` meets its contract. The invariant: the first k bytes of the row are stored, and seen is their bitwise or.
-- Assumes nothing.
use Prim.Native.Nat.{◌≤◌}
use Rattle.filter.specs.Code.Plane.{band}
use Rattle.filter.proofs.CandidateRow.{Narrowing}
use Rattle.filter.proofs.candidate.narrow.Given as goal

abbrev pub invariant-loop-k : goal.invariant-loop-k
invariant-loop-k l = Narrowing l.hit l.map l.from l.plane l.at l.initial.out l.out l.to l.k l.seen × (l.k ≤ band)
