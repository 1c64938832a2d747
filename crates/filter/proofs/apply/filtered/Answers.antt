-- `apply::filtered` meets its contract: the masks of the table are the fronts of its places.
-- Assumes nothing.
use mathlib.Core.Path.{refl, sym}
use native.Mathlib.Omega.{arith}
use lib.Seq.{length-take-le}
use Rattle.filter.proofs.PassCodeChecks.{ranged_count, ranged_ranks, ranged_valid, elements_part, persistents_part}
use Rattle.filter.proofs.apply.filtered.Goals as goal

pub shared_ref_as_front-by_masks : goal.shared_ref_as_front-by_masks
shared_ref_as_front-by_masks c = ranged_count _ c.requires.0

pub shared_ref_as_front-by_masks-2 : goal.shared_ref_as_front-by_masks-2
shared_ref_as_front-by_masks-2 c = ranged_ranks _ c.requires.0

pub by_masks-requires : goal.by_masks-requires
by_masks-requires c =
    (rw (elements_part c.args.table refl) (ranged_valid _ c.requires.0), omega (arith, length-take-le c.args.table.count c.args.table.elements (omega (arith, ranged_count _ c.requires.0)), ranged_count _ c.requires.0), c.requires.1, c.requires.2)

pub returns : goal.returns
returns c = c.by_masks.ensures _ (sym (elements_part _ refl)) (sym (persistents_part _ refl))
