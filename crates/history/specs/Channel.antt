-- A channel's pass and run (02, T-10: those of a lane): 25, 14, 16, 24, and then a pass or a run as it is, whose passes at stage 1 the quota pays for.
--     ChannelOutcome             an answer, record and areas, and the quota afterwards
--     spent_rule q i n            24 where the channel has fewer than n passes left
--     demand j                   what a pass needs: one at stage 1, none at rest
--     channel_verdict q i s       25, 14, 16, 24
--     paid a n q i               the quota after a pass that needs n and answers a: a refused one is not charged
--     channel_pass_of q i s        what a channel's pass does; channel_as v q i s: by the verdict
--     channel_run_for n q i s      at most n + 1 passes, until one answers "at rest" or is refused. The finished passes stay
--     channel_run_of q i s         at most pixels + 1 passes
-- Assumes nothing.
use Rattle.std.specs.Prelude.{cond, [], ◌∷◌, ℕ, zero, suc, ltb, eqb, Ok, Err}
use Rattle.history.specs.Answers.{Passed, if_changed}
use Rattle.history.specs.declared.Effect.TheVariants.{Changed, Stable}
use Rattle.history.specs.declared.Job.{Job}
use Rattle.history.specs.declared.Quota.{Quota}
use Rattle.history.specs.Pass.{pass_of}
use Rattle.history.specs.Quota.{channel_rule, available, charged_for}
use Rattle.history.specs.State.{State, pixels, sound_rule, loaded_rule}
use Rattle.verdict.specs.Rules.{refuse_if, judge, Verdict}
use Rattle.verdict.specs.declared.Rule.TheVariants as why

pub record ChannelOutcome : Type 0 where
  pub answer : Passed
  pub state : State
  pub quota : Quota

abbrev pub spent_rule : Quota → ℕ → ℕ → Verdict
spent_rule q i n = refuse_if (ltb (available q i) n) why.AllowanceSpent i

abbrev pub demand : Job → ℕ
demand j = cond (eqb j.stage 1) 1 0

unfoldable pub channel_verdict : Quota → ℕ → State → Verdict
channel_verdict q i s = judge (channel_rule q i ∷ sound_rule s ∷ loaded_rule s ∷ spent_rule q i (demand s.job) ∷ [])

abbrev pub paid : Passed → ℕ → Quota → ℕ → Quota
paid (Ok Changed) n q i = charged_for n q i
paid (Ok Stable) n q i = charged_for n q i
paid (Err r) n q i = q

abbrev pub channel_as : Verdict → Quota → ℕ → State → ChannelOutcome
channel_as (Ok tt) q i s =
    record { answer = (pass_of s).answer; state = (pass_of s).state; quota = paid (pass_of s).answer (demand s.job) q i }
channel_as (Err r) q i s = record { answer = Err r; state = s; quota = q }

unfoldable pub channel_pass_of : Quota → ℕ → State → ChannelOutcome
channel_pass_of q i s = channel_as (channel_verdict q i s) q i s

unfoldable pub channel_run_for : ℕ → Quota → ℕ → State → ChannelOutcome
channel_run_for zero q i s = channel_pass_of q i s
channel_run_for (suc n) q i s =
    if_changed (channel_pass_of q i s).answer
    (channel_run_for n (channel_pass_of q i s).quota i (channel_pass_of q i s).state)
    (channel_pass_of q i s)

unfoldable pub channel_run_of : Quota → ℕ → State → ChannelOutcome
channel_run_of q i s = channel_run_for (pixels s.job) q i s
