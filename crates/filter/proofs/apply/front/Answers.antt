-- `apply::front` meets its contract.
-- Assumes nothing.
use mathlib.Core.Path.{sym, ◌∙◌}
use native.Mathlib.Omega.{arith}
use Rattle.image.proofs.RowBytes.{pixels_few, sides}
use Rattle.filter.proofs.apply.front.Goals as goal

pub overflow_mul-width : goal.overflow_mul-width
overflow_mul-width c = omega (arith, pixels_few (sides _ _ (sym c.is_bad.ensures ∙ c.if-is_bad.false)))
