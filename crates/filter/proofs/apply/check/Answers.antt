-- `filter::apply::check` meets its contract: ranges, pixel bytes, area. Assumes nothing.
use Rattle.std.proofs.lemmas.Result.{err_from_is_err_and}
use Rattle.std.specs.Prelude.{Ok}
use mathlib.Core.Bool.{true}
use mathlib.Core.Path.{◌≡◌, sym, ◌∙◌}
use native.Mathlib.Omega.{arith}
use Rattle.image.specs.File.{pixel_verdict}
use Rattle.filter.specs.Applied.{ranged}
use Rattle.filter.proofs.PassCodeApplied.{checked_table, checked_pixels, checked_area, checked_all}
use Rattle.filter.proofs.PreviewLaws as pixels
use Rattle.filter.proofs.apply.check.Goals as goal

pub returns-then-not-is_ranged : goal.returns-then-not-is_ranged
returns-then-not-is_ranged c = c.check.ensures ∙ checked_table _ _ _ _ _ (sym c.is_ranged.ensures ∙ c.if-not-is_ranged.true)

pub returns-in_err-check_pixels : goal.returns-in_err-check_pixels
returns-in_err-check_pixels c =
    let p = err_from_is_err_and c.from_residual.result c.from_residual.ensures.1 in
    rw (p.1, p.2) (let in_range : ranged c.args.table ≡ true = sym c.is_ranged.ensures ∙ c.if-not-is_ranged.false in checked_pixels _ _ _ _ _ in_range (sym c.check_pixels.ensures ∙ c.in_err-check_pixels.was))

pub overflow_mul-width : goal.overflow_mul-width
overflow_mul-width c =
    let good : pixel_verdict c.args.width c.args.height c.args.pixels.now ≡ Ok tt = sym c.check_pixels.ensures ∙ c.in_ok-check_pixels.was in
    omega (arith, pixels.checked_area _ _ _ good)

pub returns-then-area-width : goal.returns-then-area-width
returns-then-area-width c =
    let in_range : ranged c.args.table ≡ true = sym c.is_ranged.ensures ∙ c.if-not-is_ranged.false in
    let good : pixel_verdict c.args.width c.args.height c.args.pixels.now ≡ Ok tt = sym c.check_pixels.ensures ∙ c.in_ok-check_pixels.was in
    c.refused.ensures ∙ checked_area _ _ _ _ _ in_range good c.if-area-width.true

pub returns : goal.returns
returns c =
    let in_range : ranged c.args.table ≡ true = sym c.is_ranged.ensures ∙ c.if-not-is_ranged.false in
    let good : pixel_verdict c.args.width c.args.height c.args.pixels.now ≡ Ok tt = sym c.check_pixels.ensures ∙ c.in_ok-check_pixels.was in
    checked_all _ _ _ _ _ in_range good c.if-area-width.false
