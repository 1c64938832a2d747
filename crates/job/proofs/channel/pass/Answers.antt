-- `job::channel::pass`: as many passes as it makes at most. Assumes nothing.
use Rattle.job.proofs.ChannelRuns.{pass_at_most}
use Rattle.job.proofs.channel.pass.Goals as goal

pub returns : goal.returns
returns c = rw (pass_at_most _ _ _) at c.passes.ensures
