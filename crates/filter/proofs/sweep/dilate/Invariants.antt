-- `sweep::dilate` meets its contract. The invariant: the shifts passed are joined.
-- Assumes nothing.
use Prim.Native.Nat.{◌*◌}
use lib.ListN.{take}
use Rattle.filter.specs.Code.Sweep.{Dilated}
use Rattle.filter.proofs.sweep.dilate.Given as goal

abbrev pub invariant-loop-four : goal.invariant-loop-four
invariant-loop-four l = Dilated (take (4 * l.four-index) l.at) l.count l.source l.initial.out l.out
