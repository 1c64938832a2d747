-- `noise::fill` meets its contract. Assumes nothing.
use Rattle.std.proofs.Common.{◌≡◌, false, sym, ◌∙◌, arith}
use Rattle.image.proofs.RowBytes.{pixels_few, sides}
use Rattle.image.specs.Size.{bad_size}
use Rattle.noise.proofs.Filling.{image_over, noise_bad, noise_short, noise_filled}
use Rattle.noise.proofs.fill.Goals as goal

pub returns-then-is_bad : goal.returns-then-is_bad
returns-then-is_bad c = rw c.refused.ensures (noise_bad _ _ _ _ (sym c.is_bad.ensures ∙ c.if-is_bad.true))

pub overflow_mul-count : goal.overflow_mul-count
overflow_mul-count c =
    let good : bad_size c.args.width c.args.height ≡ false = sym c.is_bad.ensures ∙ c.if-is_bad.false in
    omega (arith, pixels_few (sides _ _ good))

pub returns-then-area-count : goal.returns-then-area-count
returns-then-area-count c =
    let good : bad_size c.args.width c.args.height ≡ false = sym c.is_bad.ensures ∙ c.if-is_bad.false in
    rw c.refused-then-area-count.ensures (noise_short _ _ _ _ good c.if-area-count.true)

pub returns : goal.returns
returns c =
    let good : bad_size c.args.width c.args.height ≡ false = sym c.is_bad.ensures ∙ c.if-is_bad.false in
    noise_filled _ _ _ _ good c.if-area-count.false (image_over _ _ c.if-area-count.false c.draw.ensures)
