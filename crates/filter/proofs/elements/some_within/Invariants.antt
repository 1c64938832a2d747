-- `elements::some_within` meets its contract. The invariant: `seen` is 1 exactly if one of the first i elements lies within the mask.
-- Assumes nothing.
use mathlib.Core.Path.{◌≡◌}
use lib.Bits.{bit_and}
use lib.Dec.{eqb}
use lib.ListN.{take}
use Rattle.seq.specs.Lists.{any, one}
use Rattle.filter.proofs.elements.some_within.Given as goal

abbrev pub invariant-loop-e : goal.invariant-loop-e
invariant-loop-e l = l.seen ≡ one (any (λ e. eqb (bit_and e l.mask) e) (take l.e-index l.elements))
