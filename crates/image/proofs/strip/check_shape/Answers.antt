-- `image::strip::check_shape` meets its contract: the first rule that fails speaks. Assumes nothing.
use Rattle.std.proofs.lemmas.Result.{err_from_is_err_and}
use Rattle.std.proofs.Common.{sym, ◌∙◌, rules}
use Rattle.image.specs.Strip.{max_parts}
use Rattle.image.proofs.RowBytes.{within_range}
use Rattle.image.proofs.StripOf.{shape_number, widths_some, sizes_few, shape_size, shape_width}
use Rattle.image.proofs.strip.check_shape.Goals as goal

pub returns-then-not-is_within : goal.returns-then-not-is_within
returns-then-not-is_within c = c.refused.ensures ∙ sym (shape_number _ (sym c.is_within.ensures ∙ c.if-not-is_within.true))

pub shared_ref_as_front-widths : goal.shared_ref_as_front-widths
shared_ref_as_front-widths c = (within_range max_parts _ (sym c.is_within.ensures ∙ c.if-not-is_within.false)).1

pub refuse_part-requires : goal.refuse_part-requires
refuse_part-requires c =
    sizes_few c.args.strip (sym c.is_within.ensures ∙ c.if-not-is_within.false) (search rules) (search rules) c.part_heights.ensures c.bad_size.ensures

pub returns-in_err-refuse_part : goal.returns-in_err-refuse_part
returns-in_err-refuse_part c =
    let p = err_from_is_err_and c.from_residual.result c.from_residual.ensures.1 in
    rw (p.1, p.2)
    (sym
    (shape_size c.args.strip (sym c.is_within.ensures ∙ c.if-not-is_within.false) (search rules) (search rules) c.part_heights.ensures c.bad_size.ensures
    c.refuse_part.ensures c.in_err-refuse_part.was))

pub other_width-requires : goal.other_width-requires
other_width-requires c = widths_some c.args.strip (sym c.is_within.ensures ∙ c.if-not-is_within.false) (search rules) (search rules)

pub returns : goal.returns
returns c =
    sym
    (shape_width c.args.strip (sym c.is_within.ensures ∙ c.if-not-is_within.false) (search rules) (search rules) c.part_heights.ensures c.bad_size.ensures
    c.refuse_part.ensures c.in_ok-refuse_part.was c.other_width.ensures c.refuse_part-2.ensures)
