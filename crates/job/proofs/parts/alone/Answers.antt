-- `job::parts::alone` is the definition at one part. Assumes nothing.
use Rattle.image.specs.Strip.{strip_of}
use Rattle.job.proofs.parts.alone.Goals as goal

pub returns : goal.returns
unfolding strip_of
returns c = simp (c.first.ensures, c.first-2.ensures)
