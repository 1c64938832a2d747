-- `job::sound::is_unsound`: by the stage.
-- Assumes nothing.
use borrow.Author.Tests.{lt-ltb, le-ltb, eq-eqb, ne_eqb}
use Rattle.history.specs.State.{unsound}
use Rattle.job.proofs.sound.is_unsound.Goals as goal

pub returns-then-stage-gt-STABLE : goal.returns-then-stage-gt-STABLE
unfolding unsound
returns-then-stage-gt-STABLE c = simp (lt-ltb _ _ c.if-stage-gt-STABLE.true)

pub returns-then-stage-eq-EMPTY : goal.returns-then-stage-eq-EMPTY
unfolding unsound
returns-then-stage-eq-EMPTY c = simp (le-ltb _ _ c.if-stage-gt-STABLE.false, eq-eqb _ _ c.if-stage-eq-EMPTY.true, c.is_nonzero.ensures)

pub returns : goal.returns
unfolding unsound
returns c = simp (le-ltb _ _ c.if-stage-gt-STABLE.false, ne_eqb _ _ c.if-stage-eq-EMPTY.false, c.is_inconsistent.ensures)
