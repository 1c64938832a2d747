-- `job::quota::check`: by the tests. Assumes nothing.
use mathlib.Core.Logic.{inl, inr}
use mathlib.Core.Path.{◌∙◌, sym}
use Rattle.job.proofs.Charges.{rule_outside, rule_inside}
use Rattle.job.proofs.quota.check.Goals as goal
use Rattle.job.proofs.quota.check.Goals.{then-quota-gt-MAX_CHANNELS-via-then-quota-gt-MAX_CHANNELS, then-quota-gt-MAX_CHANNELS-via-else-quota-gt-MAX_CHANNELS+then-channel-lt1, then-quota-gt-MAX_CHANNELS-via-else-quota-gt-MAX_CHANNELS+else-channel-lt1+then-quota-channel}

pub returns-then-quota-gt-MAX_CHANNELS : goal.returns-then-quota-gt-MAX_CHANNELS
returns-then-quota-gt-MAX_CHANNELS c =
    c.refused.ensures
    ∙ sym (elim c.then-quota-gt-MAX_CHANNELS.branch [
      | then-quota-gt-MAX_CHANNELS-via-then-quota-gt-MAX_CHANNELS w ↦ rule_outside _ _ (inl w.if-quota-gt-MAX_CHANNELS.true)
      | then-quota-gt-MAX_CHANNELS-via-else-quota-gt-MAX_CHANNELS+then-channel-lt1 w ↦ rule_outside _ _ (inr (inl w.if-channel-lt1.true))
      | then-quota-gt-MAX_CHANNELS-via-else-quota-gt-MAX_CHANNELS+else-channel-lt1+then-quota-channel w ↦ rule_outside _ _ (inr (inr w.if-quota-channel.true))
    ])

pub returns : goal.returns
returns c = sym (rule_inside _ _ c.if-quota-gt-MAX_CHANNELS.false c.if-channel-lt1.false c.if-quota-channel.false)
