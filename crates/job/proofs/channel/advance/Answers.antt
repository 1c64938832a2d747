-- `job::channel::advance`: the passes are no more than were allowed, and they are charged at once. Assumes nothing.
use Prim.Native.Nat.{◌+◌, ◌≤◌}
use native.Mathlib.Omega.{arith}
use Rattle.job.proofs.ChannelRuns.{taken, metered_made}
use Rattle.job.proofs.Charges.{rule_channel}
use Rattle.job.specs.Code.Channels.{quietly}
use Rattle.job.proofs.channel.advance.Goals as goal

pub within-allowed-requires : goal.within-allowed-requires
within-allowed-requires c = rule_channel _ _ c.requires.1

pub overflow_sub-spent : goal.overflow_sub-spent
overflow_sub-spent c =
    let passes : (c.args.job.now.passes ≤ c.advance-answer.new.job.passes)
    × (c.advance-answer.new.job.passes + quietly c.advance-answer.result ≤ c.args.job.now.passes + c.within-allowed.result) =
    taken _ _ c.requires.0.0 c.requires.0.1 c.advance-answer.ensures.0 c.advance-answer.ensures.1 in
    omega (arith, passes.0)

pub overflow_add-spent : goal.overflow_add-spent
overflow_add-spent c =
    let passes : (c.args.job.now.passes ≤ c.advance-answer.new.job.passes)
    × (c.advance-answer.new.job.passes + quietly c.advance-answer.result ≤ c.args.job.now.passes + c.within-allowed.result) =
    taken _ _ c.requires.0.0 c.requires.0.1 c.advance-answer.ensures.0 c.advance-answer.ensures.1 in
    omega (arith, passes, c.quiet.ensures, c.within-allowed)

pub charge-requires : goal.charge-requires
charge-requires c =
    let passes : (c.args.job.now.passes ≤ c.advance-answer.new.job.passes)
    × (c.advance-answer.new.job.passes + quietly c.advance-answer.result ≤ c.args.job.now.passes + c.within-allowed.result) =
    taken _ _ c.requires.0.0 c.requires.0.1 c.advance-answer.ensures.0 c.advance-answer.ensures.1 in
    let channel = rule_channel _ _ c.requires.1 in
    (channel.0, channel.1, omega (arith, passes, c.quiet.ensures, c.within-allowed.ensures))

pub returns : goal.returns
returns c =
    metered_made _ _ _ _ _ _ c.within-allowed.ensures c.advance-answer.ensures c.stopped.ensures c.quiet.ensures c.charge.ensures
