-- An allowance of passes that channels share (02, T-10: a round; its lanes, their floors and the pool).
--     max_channels          the most channels
--     kept q               the reserves, 0 past the channels
--     open_verdict q        25 where a quota is opened
--     open_quota q          the quota with all of its allowance left; open_as v q: by the verdict
--     lacks q i            a quota of too many channels, or one without channel i; channel_rule q i: 25 where a call is handed such a one
--     left_of q i           what is left of channel i's reserve; reserve_of q i: the reserve
--     available q i        the passes that channel i may still make
--     charged q i          the quota with one pass less, from the channel's reserve first; charged_for n q i: with n less
-- Assumes nothing.
use Rattle.std.specs.Prelude.{Bool, cond, not, ◌||◌, List, ℕ, zero, suc, ◌+◌, ◌-◌, ltb, get_or, set, Ok, Err}
use Rattle.history.specs.declared.Quota.{Quota}
use Rattle.image.specs.Size.{within}
use Rattle.seq.specs.Lists.{sum_of}
use Rattle.seq.specs.Tab.{tab}
use Rattle.verdict.specs.Rules.{refuse_if, Verdict}
use Rattle.verdict.specs.declared.Rule.TheVariants as why

abbrev pub max_channels : ℕ
max_channels = 4

-- those past the channels are unread
unfoldable pub kept : Quota → List ℕ
kept q = tab (λ k. cond (ltb k q.channels) (get_or q.reserves k 0) 0) max_channels

-- the sum is one of numbers: nothing wraps
unfoldable pub open_verdict : Quota → Verdict
open_verdict q = refuse_if (not (within max_channels q.channels) || ltb q.allowance (sum_of (kept q))) why.QuotaRange 0

abbrev pub open_as : Verdict → Quota → Quota
open_as (Ok tt) q =
    record { channels = q.channels; allowance = q.allowance; reserves = kept q; left = kept q; pool = q.allowance - sum_of (kept q) }
open_as (Err r) q = q

unfoldable pub open_quota : Quota → Quota
open_quota q = open_as (open_verdict q) q

unfoldable pub lacks : Quota → ℕ → Bool
lacks q i = ltb max_channels q.channels || not (within q.channels i)

unfoldable pub channel_rule : Quota → ℕ → Verdict
channel_rule q i = refuse_if (lacks q i) why.QuotaRange 0

abbrev pub left_of : Quota → ℕ → ℕ
left_of q i = get_or q.left (i - 1) 0

abbrev pub reserve_of : Quota → ℕ → ℕ
reserve_of q i = get_or q.reserves (i - 1) 0

unfoldable pub available : Quota → ℕ → ℕ
available q i = left_of q i + q.pool

unfoldable pub charged : Quota → ℕ → Quota
charged q i =
    cond (ltb 0 (left_of q i))
    (record {
      channels = q.channels;
      allowance = q.allowance;
      reserves = q.reserves;
      left = set q.left (i - 1) (left_of q i - 1);
      pool = q.pool;
    })
    (record { channels = q.channels; allowance = q.allowance; reserves = q.reserves; left = q.left; pool = q.pool - 1 })

abbrev pub charged_for : ℕ → Quota → ℕ → Quota
charged_for zero q i = q
charged_for (suc n) q i = charged_for n (charged q i) i
