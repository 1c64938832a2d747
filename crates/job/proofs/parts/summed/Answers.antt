-- `job::parts::summed` is the definition. Assumes nothing.
use Rattle.operator.specs.Parts.{summed}
use Rattle.job.proofs.parts.summed.Goals as goal

pub returns : goal.returns
unfolding summed
returns c = rw (c.sums.ensures, c.sums-2.ensures)
