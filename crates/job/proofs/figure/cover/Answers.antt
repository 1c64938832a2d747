-- `job::figure::cover` is the definition, by what is left of the division: less than a half, more, an exact half. Assumes nothing.
use mathlib.Core.Path.{sym}
use native.Mathlib.Nat.{le_antisymm}
use Rattle.history.specs.View.{cover}
use Rattle.history.proofs.Rounding.{nearest_low, nearest_high, nearest_half}
use Rattle.job.proofs.figure.cover.Goals as goal

pub returns-then-twice-pixels : goal.returns-then-twice-pixels
unfolding cover
returns-then-twice-pixels c = sym (nearest_low _ _ c.if-twice-pixels.true)

pub returns-then-pixels-twice : goal.returns-then-pixels-twice
unfolding cover
returns-then-pixels-twice c = sym (nearest_high _ _ c.if-pixels-twice.true)

pub returns : goal.returns
unfolding cover
returns c = sym (nearest_half _ _ (le_antisymm c.if-pixels-twice.false c.if-twice-pixels.false))
