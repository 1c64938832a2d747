-- `job::pass`: as many passes as it makes at most. Assumes nothing.
use Rattle.job.proofs.Runs.{pass_at_most}
use Rattle.job.proofs.pass.Goals as goal

pub returns : goal.returns
returns c = rw (pass_at_most _) at c.passes.ensures
