-- `show::unfold` meets its contract. The invariant: the first k bytes are unfolded.
-- Assumes nothing.
use Prim.Native.Nat.{◌*◌, ◌≤◌}
use Rattle.filter.proofs.ShowLaws.{Unfolding}
use Rattle.filter.specs.Code.Plane.{band}
use Rattle.filter.proofs.show.unfold.Given as goal

abbrev pub invariant-loop-k : goal.invariant-loop-k
invariant-loop-k l = Unfolding l.plane l.initial.out l.out l.from l.to (4 * l.k) × (l.k ≤ band)
