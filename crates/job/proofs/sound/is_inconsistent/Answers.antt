-- `job::sound::is_inconsistent`: each answer rewrites the definition by the tests that led there.
-- Assumes nothing.
use mathlib.Core.Path.{sym, ◌∙◌}
use native.Mathlib.Omega.{arith}
use borrow.Author.Tests.{lt-ltb, le-ltb}
use Rattle.history.specs.State.{inconsistent}
use Rattle.history.proofs.Parts.{parts_good, good_small}
use Rattle.job.proofs.Inconsistent.{pixels_seen, stained, many_passes, counts_left}
use Rattle.job.proofs.sound.is_inconsistent.Goals as goal

pub returns-then-are_bad : goal.returns-then-are_bad
unfolding inconsistent
returns-then-are_bad c = simp (sym c.are_bad.ensures ∙ c.if-are_bad.true)

pub returns-in-Err : goal.returns-in-Err
unfolding inconsistent
returns-in-Err c =
    simp (sym c.are_bad.ensures ∙ c.if-are_bad.false, sym c.check.ensures ∙ c.in-Err.is)

pub overflow_mul-pixels : goal.overflow_mul-pixels
overflow_mul-pixels c =
    omega (arith, good_small (parts_good _ (sym c.are_bad.ensures ∙ c.if-are_bad.false)))

pub returns-then-first-pixels : goal.returns-then-first-pixels
unfolding inconsistent
returns-then-first-pixels c =
    simp (
      sym c.are_bad.ensures ∙ c.if-are_bad.false,
      sym c.check.ensures ∙ c.in_default.is,
      lt-ltb _ _ c.if-first-pixels.true,
    )

pub returns-then-second-pixels : goal.returns-then-second-pixels
unfolding inconsistent
returns-then-second-pixels c =
    simp (
      sym c.are_bad.ensures ∙ c.if-are_bad.false,
      sym c.check.ensures ∙ c.in_default.is,
      le-ltb _ _ c.if-first-pixels.false,
      lt-ltb _ _ c.if-second-pixels.true,
    )

pub returns-then-any_above_one : goal.returns-then-any_above_one
returns-then-any_above_one c =
    stained _ (sym c.are_bad.ensures ∙ c.if-are_bad.false) (sym c.check.ensures ∙ c.in_default.is)
    c.if-first-pixels.false c.if-second-pixels.false (pixels_seen c.image.ensures c.any_above_one.ensures ∙ c.if-any_above_one.true)

pub returns-then-pixels-job : goal.returns-then-pixels-job
returns-then-pixels-job c =
    many_passes _ (sym c.are_bad.ensures ∙ c.if-are_bad.false) (sym c.check.ensures ∙ c.in_default.is)
    c.if-first-pixels.false c.if-second-pixels.false (pixels_seen c.image.ensures c.any_above_one.ensures ∙ c.if-any_above_one.false) c.if-pixels-job.true

pub returns : goal.returns
returns c =
    c.is_sum_above.ensures
    ∙ counts_left _ (sym c.are_bad.ensures ∙ c.if-are_bad.false) (sym c.check.ensures ∙ c.in_default.is)
    c.if-first-pixels.false c.if-second-pixels.false (pixels_seen c.image.ensures c.any_above_one.ensures ∙ c.if-any_above_one.false) c.if-pixels-job.false
