-- `job::run`: as many passes as it makes at most. Assumes nothing.
use Rattle.job.proofs.Runs.{run_at_most}
use Rattle.job.specs.Core.{at}
use Rattle.job.proofs.run.Goals as goal

pub returns : goal.returns
returns c = rw (run_at_most _ (at c.args.job.now c.args.first.now c.args.second.now) c.most-limit.ensures) at c.passes.ensures
