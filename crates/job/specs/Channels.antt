-- What a quota's opening and the calls of a channel answer (02, T-10).
--     opened q             what opening answers, and the quota afterwards
--     metered o            a channel's answer, and the quota afterwards
-- Assumes nothing.
use Rattle.history.specs.declared.Quota.{Quota}
use Rattle.history.specs.Channel.{ChannelOutcome}
use Rattle.history.specs.Quota.{open_verdict, open_quota}
use Rattle.job.specs.declared.channel.Metered.{Metered}
use Rattle.job.specs.declared.quota.Opened.{Opened}

abbrev pub opened : Quota → Opened
opened q = record { answer = open_verdict q; quota = open_quota q }

abbrev pub metered : ChannelOutcome → Metered
metered o = record { answer = o.answer; quota = o.quota }
