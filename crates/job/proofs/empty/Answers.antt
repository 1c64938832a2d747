-- `job::empty` is the definition. Assumes nothing.
use mathlib.Core.Path.{refl}
use Rattle.history.specs.State.{empty_job}
use Rattle.job.proofs.empty.Goals as goal

pub returns : goal.returns
unfolding empty_job
returns c = rw (c.none.ensures, c.empty.ensures) refl
