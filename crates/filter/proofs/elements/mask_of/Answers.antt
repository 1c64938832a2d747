-- `elements::mask_of` meets its contract. Assumes nothing.
use Rattle.filter.proofs.ElementsLaws.{mask_bits}
use Rattle.filter.proofs.elements.mask_of.Goals as goal

pub returns : goal.returns
returns c =
    mask_bits c.args.win c.args.value c.row_mask.ensures.0 c.row_mask-2.ensures.0 c.row_mask-3.ensures.0
    c.row_mask-4.ensures.0
    c.row_mask-5.ensures.0
