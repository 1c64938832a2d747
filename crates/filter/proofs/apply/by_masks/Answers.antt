-- `apply::by_masks` meets its contract: packed, turned and shown.
-- Assumes nothing.
use Rattle.filter.proofs.FilteredLaws.{switched_image, still_all, filtered}
use Rattle.filter.proofs.apply.by_masks.Goals as goal

pub returns : goal.returns
returns c =
    λ t e k.
    let made = c.advance-changes.ensures.2 t _ (record { elements = e; kept = k; image = c.requires.2; packed = c.pack.ensures }) (still_all c.args.sides.low c.all_rows-all.ensures _ _) in
    filtered c.requires.2 c.args.sides.low c.requires.3 c.all_rows-all.ensures made (c.show.ensures _ (switched_image t c.requires.2) made.packed)
