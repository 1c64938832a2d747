-- What the code of a quota rests on (02, T-10).
--     charged_as, charged_for_lem            one charge, and n at once: from the channel's reserve first, the others from the pool
--     charged_taken                      the same by what was taken of the reserve
--     rule_channel                       a channel that 25 lets pass is one of the four places
--     rule_outside, rule_inside          25 by the code's tests
--     kept_places, kept_at, kept_tab     the reserves that are read: four places, each of them, and all
--     open_split                         opening is refused by 25 of a call of the last channel, or where the reserves are above the allowance
--     open_above, open_within            by the sum of the reserves
--     opened_refused, opened_whole       what opening hands back
-- Assumes nothing.
use Rattle.std.specs.Prelude.{Ok, Err}
use mathlib.Core.Bool.{Bool, true, false, cond, not, ◌||◌, ◌&&◌}
use mathlib.Core.List.{List}
use mathlib.Core.Logic.{◌⊎◌, inl, inr, ⊎_elim}
use mathlib.Core.Path.{◌≡◌, refl, sym, ap, ap₂, ◌∙◌}
use Prim.Native.Nat.{ℕ, zero, suc, ◌-◌, ◌≤◌, ◌<◌, min}
use native.Mathlib.Omega.{arith}
use borrow.Author.Tests.{ltb-true, ltb-false, le-leb, lt-leb, lt-ltb, le-ltb}
use lib.Dec.{ltb, leb}
use lib.ListN.{length, get_or, set}
use lib.Seq.{set-get_or, set-set}
use Rattle.history.specs.declared.Quota.{Quota}
use Rattle.history.specs.Quota.{max_channels, kept, open_verdict, open_quota, lacks, channel_rule, left_of, charged, charged_for}
use Rattle.verdict.specs.declared.Rule.TheVariants as why
use Rattle.history.proofs.Quotas.{left_charged, rule_range, opened_accepted}
use Rattle.image.specs.Size.{within}
use Rattle.job.specs.Channels.{opened}
use Rattle.job.specs.Code.Channels.{opened_with}
use Rattle.seq.proofs.Lists.{either}
use Rattle.seq.proofs.Tab.{length_tab, get_d_tab, tab_get_d}
use Rattle.seq.proofs.Tests.{lt_or_le}
use Rattle.seq.specs.Lists.{sum_of}
use Rattle.seq.specs.Tab.{tab}
use Rattle.verdict.specs.Rules.{refusal, refuse_if, or_else, Refusal}

-- a quota with other numbers left of the reserves, and another pool
abbrev holding : Quota → List ℕ → ℕ → Quota
holding q l p = record { channels = q.channels; allowance = q.allowance; reserves = q.reserves; left = l; pool = p }

-- one number is another
abbrev with : Quota → ℕ → ℕ → ℕ → Quota
with q i l p = holding q (set q.left (i - 1) l) p

charged_as : (q : Quota) (i : ℕ) → charged q i ≡ with q i (left_of q i - 1) (q.pool - (1 - left_of q i))
unfolding charged
charged_as q i = ⊎_elim reserve pool (either (ltb 0 (left_of q i)))
  where
    reserve : ltb 0 (left_of q i) ≡ true → charged q i ≡ with q i (left_of q i - 1) (q.pool - (1 - left_of q i))
    reserve p =
        let e : q.pool ≡ q.pool - (1 - left_of q i) = let k = ltb-true 0 (left_of q i) p in omega arith in
        rw p (ap (with q i (left_of q i - 1)) e)

    pool : ltb 0 (left_of q i) ≡ false → charged q i ≡ with q i (left_of q i - 1) (q.pool - (1 - left_of q i))
    pool p =
        let k = ltb-false 0 (left_of q i) p in
        let e : q.pool - 1 ≡ q.pool - (1 - left_of q i) = omega arith in
        let same : q.left ≡ set q.left (i - 1) (left_of q i - 1) =
        sym (set-get_or q.left (i - 1) 0) ∙ ap (set q.left (i - 1)) (omega arith) in
        rw p
        (ap₂ (holding q) same e)

pool_after : (p x n : ℕ) → p - (1 - x) - (n - (x - 1)) ≡ p - (suc n - x)
pool_after p zero n = omega arith
pool_after p (suc x) n = rw (none, less) rest
  where
    none : 1 - suc x ≡ 0
    none = omega arith

    less : suc x - 1 ≡ x
    less = omega arith

    rest : p - 0 - (n - x) ≡ p - (suc n - suc x)
    rest = omega arith

charged_for_lem : (n : ℕ) (q : Quota) (i : ℕ) → charged_for n q i ≡ with q i (left_of q i - n) (q.pool - (n - left_of q i))
charged_for_lem zero q i =
    ap₂ (holding q)
    (sym (set-get_or q.left (i - 1) 0) ∙ ap (set q.left (i - 1)) (omega arith))
    (omega arith)
charged_for_lem (suc n) q i = charged_for_lem n (charged q i) i ∙ rw (charged_as q i) (ap₂ (holding q) places pool)
  where
    own : ℕ
    own = left_of (with q i (left_of q i - 1) (q.pool - (1 - left_of q i))) i

    less : own ≡ left_of q i - 1
    less = rw (charged_as q i) at (left_charged q i)

    places : set (set q.left (i - 1) (left_of q i - 1)) (i - 1) (own - n) ≡ set q.left (i - 1) (left_of q i - suc n)
    places = set-set q.left (i - 1) (left_of q i - 1) (own - n) ∙ ap (set q.left (i - 1)) (omega (arith, less))

    pool : q.pool - (1 - left_of q i) - (n - own) ≡ q.pool - (suc n - left_of q i)
    pool = rw less (pool_after q.pool (left_of q i) n)

-- what was taken of the reserve, and the others of the pool
pub charged_taken : (q : Quota) (i n t : ℕ) → t ≡ min (left_of q i) n → with q i (left_of q i - t) (q.pool - (n - t)) ≡ charged_for n q i
charged_taken q i n t e =
    let left : left_of q i - t ≡ left_of q i - n = omega (arith, e) in
    let pool : n - t ≡ n - left_of q i = omega (arith, e) in
    rw (left, pool) (sym (charged_for_lem n q i))

pub rule_channel : (q : Quota) (i : ℕ) → channel_rule q i ≡ Ok tt → (1 ≤ i) × (i ≤ max_channels)
rule_channel q i e = let range = rule_range q i e in (range.0, omega (arith, range.1, range.2))

-- 25 by the code's tests
module _ (q : Quota) (i : ℕ) where
  pub rule_outside : (max_channels < q.channels) ⊎ ((i < 1) ⊎ (q.channels < i)) → channel_rule q i ≡ Err (refusal why.QuotaRange 0)
  unfolding channel_rule lacks within
  rule_outside (inl l) = rw (lt-ltb max_channels q.channels l)
  rule_outside (inr (inl l)) = rw (lt-leb 1 i l) (by (ltb max_channels q.channels))
    where
      by : (b : Bool) → refuse_if (b || true) why.QuotaRange 0 ≡ Err (refusal why.QuotaRange 0)
      by true = refl
      by false = refl
  rule_outside (inr (inr l)) = rw (lt-leb i q.channels l) (by (ltb max_channels q.channels) (leb 1 i))
    where
      by : (b t : Bool) → refuse_if (b || not (t && false)) why.QuotaRange 0 ≡ Err (refusal why.QuotaRange 0)
      by true t = refl
      by false true = refl
      by false false = refl

  pub rule_inside : q.channels ≤ max_channels → 1 ≤ i → i ≤ q.channels → channel_rule q i ≡ Ok tt
  unfolding channel_rule lacks within
  rule_inside few some last = rw (le-ltb max_channels q.channels few, le-leb 1 i some, le-leb i q.channels last)

pub kept_places : (q : Quota) → length (kept q) ≡ max_channels
unfolding kept
kept_places q = length_tab (λ k. cond (ltb k q.channels) (get_or q.reserves k 0) 0) max_channels

pub kept_at : (q : Quota) (k : ℕ) → k < max_channels → get_or (kept q) k 0 ≡ cond (ltb k q.channels) (get_or q.reserves k 0) 0
unfolding kept
kept_at q k l = get_d_tab (λ j. cond (ltb j q.channels) (get_or q.reserves j 0) 0) max_channels k 0 l

pub kept_tab : (q : Quota) → tab (λ k. get_or (kept q) k 0) max_channels ≡ kept q
kept_tab q = ap (tab (λ k. get_or (kept q) k 0)) (sym (kept_places q)) ∙ tab_get_d (kept q) 0

-- 1 to 4 channels are those of a quota that has its last channel
count_rule_lem : (n : ℕ) → (ltb max_channels n || not (within n n)) ≡ not (within max_channels n)
unfolding within
count_rule_lem n = ⊎_elim many few (lt_or_le max_channels n)
  where
    many : max_channels < n → (ltb max_channels n || not (leb 1 n && leb n n)) ≡ not (leb 1 n && leb n max_channels)
    many l = let one : 1 ≤ n = omega arith in rw (lt-ltb max_channels n l, le-leb 1 n one, lt-leb n max_channels l)

    few : n ≤ max_channels → (ltb max_channels n || not (leb 1 n && leb n n)) ≡ not (leb 1 n && leb n max_channels)
    few l = let own : n ≤ n = omega arith in rw (le-ltb max_channels n l, le-leb n n own, le-leb n max_channels l)

pub open_split : (q : Quota) → open_verdict q ≡ or_else (channel_rule q q.channels) (refuse_if (ltb q.allowance (sum_of (kept q))) why.QuotaRange 0)
unfolding open_verdict channel_rule lacks
open_split q = rw (count_rule_lem q.channels) (by (not (within max_channels q.channels)) (ltb q.allowance (sum_of (kept q))))
  where
    by : (a b : Bool) → refuse_if (a || b) why.QuotaRange 0 ≡ or_else (refuse_if a why.QuotaRange 0) (refuse_if b why.QuotaRange 0)
    by true b = refl
    by false b = refl

module _ (q : Quota) (e : channel_rule q q.channels ≡ Ok tt) where
  pub open_above : q.allowance < sum_of (kept q) → open_verdict q ≡ Err (refusal why.QuotaRange 0)
  open_above l = open_split q ∙ rw (e, lt-ltb _ _ l)

  pub open_within : sum_of (kept q) ≤ q.allowance → open_verdict q ≡ Ok tt
  open_within l = open_split q ∙ rw (e, le-ltb _ _ l)

module _ (q : Quota) where
  pub opened_refused : {r : Refusal} → open_verdict q ≡ Err r → opened q ≡ record { answer = Err r; quota = q }
  unfolding open_quota
  opened_refused e = rw e

  pub opened_whole : open_verdict q ≡ Ok tt → opened q ≡ opened_with q (kept q) (q.allowance - sum_of (kept q))
  opened_whole e = rw (e, opened_accepted q e)
