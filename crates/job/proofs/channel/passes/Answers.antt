-- `job::channel::passes`: 25, 14 and 16, stage 2, then the passes. Assumes nothing.
use mathlib.Core.Path.{sym, ◌∙◌}
use Rattle.job.proofs.ChannelRuns.{free_rule, free_ready}
use Rattle.job.proofs.channel.passes.Goals as goal

pub advance-requires : goal.advance-requires
advance-requires c =
    let free = sym c.admit.ensures ∙ c.in_default.is in
    ((free_ready _ _ _ free, c.if-job-eq-STABLE.false), free_rule _ _ _ free)
