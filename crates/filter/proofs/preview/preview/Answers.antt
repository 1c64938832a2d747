-- `filter::preview::preview` meets its contract. Assumes nothing.
use Rattle.std.proofs.lemmas.Result.{err_from_is_err_and}
use Rattle.std.specs.Prelude.{Ok}
use mathlib.Core.Path.{◌≡◌, sym, ◌∙◌}
use native.Mathlib.Omega.{arith}
use Rattle.image.specs.File.{pixel_verdict}
use Rattle.filter.proofs.PreviewLaws.{checked_image, checked_area, preview_refused, preview_short, preview_filled}
use Rattle.filter.proofs.preview.preview.Goals as goal

pub returns-in_err-check_pixels : goal.returns-in_err-check_pixels
returns-in_err-check_pixels c =
    let p = err_from_is_err_and c.from_residual.result c.from_residual.ensures.1 in
    rw (p.1, p.2) (preview_refused _ _ _ _ (sym c.check_pixels.ensures ∙ c.in_err-check_pixels.was))

pub overflow_mul-width : goal.overflow_mul-width
overflow_mul-width c =
    let accepted : pixel_verdict c.args.width c.args.height c.args.pixels.now ≡ Ok tt = sym c.check_pixels.ensures ∙ c.in_ok-check_pixels.was in
    omega (arith, checked_area _ _ _ accepted)

pub returns-then-area-width : goal.returns-then-area-width
returns-then-area-width c =
    let accepted : pixel_verdict c.args.width c.args.height c.args.pixels.now ≡ Ok tt = sym c.check_pixels.ensures ∙ c.in_ok-check_pixels.was in
    rw c.refused.ensures (preview_short _ _ _ _ accepted c.if-area-width.true)

pub fill-requires : goal.fill-requires
fill-requires c =
    let accepted : pixel_verdict c.args.width c.args.height c.args.pixels.now ≡ Ok tt = sym c.check_pixels.ensures ∙ c.in_ok-check_pixels.was in
    (checked_image _ _ _ accepted, c.if-area-width.false)

pub returns : goal.returns
returns c =
    let accepted : pixel_verdict c.args.width c.args.height c.args.pixels.now ≡ Ok tt = sym c.check_pixels.ensures ∙ c.in_ok-check_pixels.was in
    preview_filled _ _ _ _ accepted c.if-area-width.false c.fill.ensures
