-- `job::parts::kept` is the definition. Assumes nothing.
use Rattle.image.specs.Strip.{kept}
use Rattle.job.proofs.parts.kept.Goals as goal

pub returns : goal.returns
unfolding kept
returns c = rw (c.front.ensures, c.front-2.ensures)
