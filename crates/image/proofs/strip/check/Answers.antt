-- `image::strip::check` meets its contract. Assumes nothing.
use Rattle.std.proofs.lemmas.Result.{err_from_is_err_and}
use Rattle.std.proofs.Common.{refl, sym, ◌∙◌, arith}
use Rattle.image.proofs.Shapes.{shape_good, shape_wide, shape_rows}
use Rattle.image.proofs.StripOf.{strip_shape, strip_bytes_lem}
use Rattle.image.proofs.strip.check.Goals as goal

pub returns-in_err-check_shape : goal.returns-in_err-check_shape
returns-in_err-check_shape c =
    let p = err_from_is_err_and c.from_residual.result c.from_residual.ensures.1 in
    rw (p.1, p.2) (sym (strip_shape _ _ (sym c.in_err-check_shape.ensures)))

pub check_bytes-requires : goal.check_bytes-requires
check_bytes-requires c =
    let shape = shape_good _ (sym c.in_ok-check_shape.ensures) in
    let side = shape_wide shape in
    rw c.whole.ensures (side.0, side.1, omega (arith, shape_rows shape))

pub returns : goal.returns
returns c =
    c.check_bytes.ensures
    ∙ rw c.whole.ensures (sym (strip_bytes_lem _ _ (sym c.in_ok-check_shape.ensures) refl))
