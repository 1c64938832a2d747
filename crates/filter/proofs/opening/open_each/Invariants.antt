-- `opening::open_each` meets its contract. The invariant: the map has what the elements passed open.
-- Assumes nothing.
use mathlib.Core.Path.{◌≡◌}
use lib.ListN.{length, take}
use Rattle.filter.specs.Code.Opening.{OpenedBy}
use Rattle.filter.proofs.opening.open_each.Given as goal

abbrev pub invariant-loop-mask : goal.invariant-loop-mask
invariant-loop-mask l = OpenedBy (take l.mask-index l.masks) l.plane l.top l.rows l.initial.map l.map × (length l.solid ≡ length l.initial.solid)
