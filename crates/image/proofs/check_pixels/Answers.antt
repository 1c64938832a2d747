-- `image::check_pixels` meets its contract. Assumes nothing.
use mathlib.Core.Bool.{false}
use mathlib.Core.Path.{◌≡◌, sym, ◌∙◌}
use native.Mathlib.Omega.{arith}
use Rattle.image.specs.Size.{bad_size}
use Rattle.image.proofs.PixelsOf.{pixels_size, pixels_bytes}
use Rattle.image.proofs.RowBytes.{sides}
use Rattle.image.proofs.check_pixels.Goals as goal

pub returns-then-is_bad : goal.returns-then-is_bad
returns-then-is_bad c = c.refused.ensures ∙ sym (pixels_size _ _ _ (sym c.is_bad.ensures ∙ c.if-is_bad.true))

pub check_bytes-requires : goal.check_bytes-requires
check_bytes-requires c =
    let good-size : bad_size c.args.width c.args.height ≡ false = sym c.is_bad.ensures ∙ c.if-is_bad.false in
    let s = sides c.args.width c.args.height good-size in (s.wide, s.narrow, omega (arith, s.short))

pub returns : goal.returns
returns c =
    let good-size : bad_size c.args.width c.args.height ≡ false = sym c.is_bad.ensures ∙ c.if-is_bad.false in
    c.check_bytes.ensures ∙ sym (pixels_bytes _ _ _ good-size)
