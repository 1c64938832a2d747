-- `plane::fold` meets its contract. The invariant: the first k bytes are folded.
-- Assumes nothing.
use Prim.Native.Nat.{◌+◌, ◌-◌}
use lib.ListN.{get_or}
use Rattle.seq.specs.Loops.{Swept}
use Rattle.filter.specs.Code.Plane.{folded}
use Rattle.filter.proofs.plane.fold.Given as goal

abbrev pub invariant-loop-k : goal.invariant-loop-k
invariant-loop-k l = Swept (λ j. folded l.source l.from (j - l.to) + get_or l.inside (j - l.to) 0) l.initial.out l.out l.to (l.to + l.k)
