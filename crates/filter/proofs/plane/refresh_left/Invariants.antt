-- `plane::refresh_left` meets its contract. The invariant: the first k bytes are made anew.
-- Assumes nothing.
use Prim.Native.Nat.{◌+◌, ◌*◌, ◌%◌}
use lib.ListN.{get_or}
use Rattle.seq.specs.Loops.{Swept}
use Rattle.filter.specs.Code.Plane.{band}
use Rattle.filter.proofs.plane.refresh_left.Given as goal

abbrev pub invariant-loop-k : goal.invariant-loop-k
invariant-loop-k l = Swept (λ j. get_or l.initial.plane (j + band) 0 * 4 % 256) l.initial.plane l.plane l.at (l.at + l.k)
