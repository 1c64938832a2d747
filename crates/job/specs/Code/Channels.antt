-- A quota and a channel's passes, as the code opens the one and makes the others.
--     opened_with q l p         an accepted opening: the reserves l, of which all is left, and the pool p
--     quietly a                the passes of an answer that the record does not count: 1 where it is "at rest"
--     stopped_at b i a          an answer that would be "changed" is 24 at i, where b holds
--     spent_from p o            the passes that o took from p passes on
--     settled b q i p o        o as the answer of channel i, its passes charged
--     metering n q i s         at most n passes that change pixels, and no more passes than the channel has left
--     metering_at_most n q i s   the same where 25, 14 and 16 let it, and at rest nothing; metering_as v n q i s: by their verdict
--     MadeBy o r j a b         what a function answered and left in the record and the areas is the outcome o
-- Assumes nothing.
use Rattle.std.specs.Prelude.{Bool, cond, List, ◌≡◌, ℕ, ◌+◌, ◌-◌, min, eqb, ltb, Ok, Err}
use Rattle.history.specs.declared.Job.{Job}
use Rattle.history.specs.Answers.{Passed}
use Rattle.history.specs.declared.Effect.TheVariants.{Changed, Stable}
use Rattle.history.specs.declared.Quota.{Quota}
use Rattle.history.specs.Channel.{ChannelOutcome}
use Rattle.history.specs.Pass.{Outcome}
use Rattle.history.specs.Quota.{available, channel_rule, charged_for}
use Rattle.history.specs.State.{State, ready_verdict}
use Rattle.job.specs.declared.channel.Metered.{Metered}
use Rattle.job.specs.declared.quota.Opened.{Opened}
use Rattle.job.specs.Channels.{metered}
use Rattle.job.specs.Code.Passes.{made}
use Rattle.verdict.specs.Rules.{Verdict, refusal, or_else}
use Rattle.verdict.specs.declared.Rule.TheVariants as why

abbrev pub opened_with : Quota → List ℕ → ℕ → Opened
opened_with q l p = record {
  answer = (Ok tt);
  quota = record { channels = q.channels; allowance = q.allowance; reserves = l; left = l; pool = p };
}

abbrev pub quietly : Passed → ℕ
quietly (Ok Changed) = 0
quietly (Ok Stable) = 1
quietly (Err r) = 0

abbrev pub stopped_at : Bool → ℕ → Passed → Passed
stopped_at b i (Ok Changed) = cond b (Err (refusal why.AllowanceSpent i)) (Ok Changed)
stopped_at b i (Ok Stable) = Ok Stable
stopped_at b i (Err r) = Err r

abbrev pub spent_from : ℕ → Outcome → ℕ
spent_from p o = o.state.job.passes - p + quietly o.answer

abbrev pub settled : Bool → Quota → ℕ → ℕ → Outcome → ChannelOutcome
settled b q i p o = record { answer = stopped_at b i o.answer; state = o.state; quota = charged_for (spent_from p o) q i }

unfoldable pub metering : ℕ → Quota → ℕ → State → ChannelOutcome
metering n q i s = settled (ltb (min (available q i) n) n) q i s.job.passes (made (min (available q i) n) s)

abbrev pub metering_as : Verdict → ℕ → Quota → ℕ → State → ChannelOutcome
metering_as (Ok tt) n q i s = cond (eqb s.job.stage 2) (record { answer = (Ok Stable); state = s; quota = q }) (metering n q i s)
metering_as (Err r) n q i s = record { answer = Err r; state = s; quota = q }

abbrev pub metering_at_most : ℕ → Quota → ℕ → State → ChannelOutcome
metering_at_most n q i s = metering_as (or_else (channel_rule q i) (ready_verdict s)) n q i s

abbrev pub MadeBy : ChannelOutcome → Metered → Job → List ℕ → List ℕ → Type 0
MadeBy o r j a b = (r ≡ metered o) × (j ≡ o.state.job) × (a ≡ o.state.first) × (b ≡ o.state.second)
