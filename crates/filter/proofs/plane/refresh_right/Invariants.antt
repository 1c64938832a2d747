-- `plane::refresh_right` meets its contract. The invariant: the first k bytes are made anew.
-- Assumes nothing.
use Prim.Native.Nat.{◌+◌, ◌-◌, ◌/◌}
use lib.ListN.{get_or}
use Rattle.seq.specs.Loops.{Swept}
use Rattle.filter.specs.Code.Plane.{band, halo}
use Rattle.filter.proofs.plane.refresh_right.Given as goal

abbrev pub invariant-loop-k : goal.invariant-loop-k
invariant-loop-k l = Swept (λ j. get_or l.initial.plane (j - band) 0 / 4) l.initial.plane l.plane (l.at + halo + band) (l.at + halo + band + l.k)
