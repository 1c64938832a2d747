-- `job::area::image`: the part of the area that the parity names.
-- Assumes nothing.
use Rattle.job.proofs.Areas.{image_even, image_odd}
use Rattle.job.proofs.area.image.Goals as goal

pub returns-then-job-eq0 : goal.returns-then-job-eq0
returns-then-job-eq0 c = image_even _ c.if-job-eq0.true

pub returns-else-job-eq0 : goal.returns-else-job-eq0
returns-else-job-eq0 c = image_odd _ c.if-job-eq0.false
