-- `sweep::erode` meets its contract. The invariant: the shifts passed are met.
-- Assumes nothing.
use mathlib.Core.Path.{◌≡◌}
use Prim.Native.Nat.{◌*◌, ◌+◌}
use lib.ListN.{take, length}
use Rattle.filter.specs.Code.Sweep.{Eroded}
use Rattle.filter.proofs.sweep.erode.Given as goal

abbrev pub invariant-loop-four : goal.invariant-loop-four
invariant-loop-four l = Eroded (take (4 * (l.four-index + 1)) l.at) l.start l.count l.source l.out × (length l.out ≡ length l.initial.out)
