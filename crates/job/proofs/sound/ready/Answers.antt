-- `job::sound::ready`: 14, then 16.
-- Assumes nothing.
use mathlib.Core.Path.{sym, ◌∙◌}
use borrow.Author.Tests.{eq-eqb, ne_eqb}
use Rattle.history.specs.State.{ready_verdict}
use Rattle.job.proofs.sound.ready.Goals as goal

pub returns-then-is_unsound : goal.returns-then-is_unsound
unfolding ready_verdict
returns-then-is_unsound c = simp (c.refused.ensures, sym c.is_unsound.ensures ∙ c.if-is_unsound.true)

pub returns-then-job-eq-EMPTY : goal.returns-then-job-eq-EMPTY
unfolding ready_verdict
returns-then-job-eq-EMPTY c =
    simp (c.refused-then-job-eq-EMPTY.ensures, sym c.is_unsound.ensures ∙ c.if-is_unsound.false, eq-eqb _ _ c.if-job-eq-EMPTY.true)

pub returns : goal.returns
unfolding ready_verdict
returns c =
    simp (sym c.is_unsound.ensures ∙ c.if-is_unsound.false, ne_eqb _ _ c.if-job-eq-EMPTY.false)
