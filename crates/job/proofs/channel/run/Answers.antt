-- `job::channel::run`: as many passes as it makes at most. Assumes nothing.
use Rattle.job.proofs.ChannelRuns.{run_at_most}
use Rattle.job.specs.Core.{at}
use Rattle.job.proofs.channel.run.Goals as goal

pub returns : goal.returns
returns c = rw (run_at_most _ _ (at c.args.job.now c.args.first.now c.args.second.now) _ c.most-limit.ensures) at c.passes.ensures
