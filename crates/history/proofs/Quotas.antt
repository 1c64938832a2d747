-- Laws of a quota (02, T-10).
--     place_inside            a place that holds something lies in the list
--     rule_charged            25 does not see a charge; rule_charged_for: nor several
--     left_charged, pool_charged    what a charge leaves of the channel's reserve, and of the pool
--     available_charged       one pass less is left; available_charged_for: n less
--     left_charged_for        what n charges leave of the reserve
--     rule_range              channels that 25 lets through
--     SameShape, shape_charged       a charge leaves channels, allowance and reserves, and how many places there are
--     left_other, left_other_for     and what is left to the other channels
--     total q, total_charged_for     all that is left: n charges take n of it
--     opened_accepted, opened_fits   what opening gives, and that its reserves are within the allowance
--     kept_unread, opened_unread     reserves past the channels are unread
--     kept_again, opened_again       a quota that was opened keeps its reserves, and opened again is as it was
-- Assumes nothing.
use Rattle.std.specs.Prelude.{Ok}
use mathlib.Core.Bool.{Bool, true, false, cond, not, ◌&&◌, ◌||◌}
use mathlib.Core.List.{List}
use mathlib.Core.Logic.{⊎_elim, ◌≢◌}
use mathlib.Core.Path.{◌≡◌, refl, sym, ◌∙◌}
use Prim.Native.Nat.{ℕ, zero, suc, ◌+◌, ◌-◌, ◌<◌, ◌≤◌}
use native.Mathlib.Omega.{arith}
use borrow.Author.Tests.{ltb-true, ltb-false, not-false}
use lib.Dec.{ltb, leb}
use lib.ListN.{length, length-set, get_or, get_or-eq_default}
use lib.Seq.{get_or-set_same, get_or-set_other}
use Rattle.history.specs.declared.Quota.{Quota}
use Rattle.history.specs.Quota.{max_channels, kept, open_verdict, open_quota, lacks, channel_rule, left_of, available, charged, charged_for}
use Rattle.image.specs.Size.{within}
use Rattle.seq.specs.Lists.{sum_of}
use Rattle.verdict.specs.declared.Rule.TheVariants as why
use Rattle.seq.proofs.Lists.{either, sum_of_set}
use Rattle.seq.proofs.Tab.{tab_ext}
use Rattle.seq.proofs.Tests.{between, or_none_left, or_none_right}
use Rattle.verdict.proofs.Rules.{refuse_if_accepted}

place_inside : (l : List ℕ) (k : ℕ) → 0 < get_or l k 0 → k < length l
place_inside l k p = ⊎_elim (ltb-true k (length l)) (λ e. absurd (let z = get_or-eq_default l 0 {n = k} (ltb-false k (length l) e) in omega arith)) (either (ltb k (length l)))

module _ (q : Quota) (i : ℕ) where
  pub left_charged : left_of (charged q i) i ≡ left_of q i - 1
  unfolding charged
  left_charged = ⊎_elim reserve pool (either (ltb 0 (left_of q i)))
    where
      reserve : ltb 0 (left_of q i) ≡ true → left_of (charged q i) i ≡ left_of q i - 1
      reserve p = rw p (get_or-set_same q.left (i - 1) (left_of q i - 1) 0 (place_inside q.left (i - 1) (ltb-true 0 (left_of q i) p)))

      pool : ltb 0 (left_of q i) ≡ false → left_of (charged q i) i ≡ left_of q i - 1
      pool p = let k = ltb-false 0 (left_of q i) p in rw p (omega arith)

  pub pool_charged : (charged q i).pool ≡ q.pool - (1 - left_of q i)
  unfolding charged
  pool_charged = ⊎_elim (λ p. let k = ltb-true 0 (left_of q i) p in rw p (omega arith)) (λ p. let k = ltb-false 0 (left_of q i) p in rw p (omega arith)) (either (ltb 0 (left_of q i)))

  pub available_charged : (m : ℕ) → available q i ≡ suc m → available (charged q i) i ≡ m
  unfolding available
  available_charged m e = let l = left_charged in let p = pool_charged in omega (arith, l, p)

-- 25 does not see a charge
pub rule_charged : (q : Quota) (i j : ℕ) → channel_rule (charged q i) j ≡ channel_rule q j
unfolding channel_rule lacks charged
rule_charged q i j = ⊎_elim (λ p. rw p) (λ p. rw p) (either (ltb 0 (left_of q i)))

pub rule_charged_for : (n : ℕ) (q : Quota) (i j : ℕ) → channel_rule (charged_for n q i) j ≡ channel_rule q j
rule_charged_for zero q i j = refl
rule_charged_for (suc n) q i j = rule_charged_for n (charged q i) i j ∙ rule_charged q i j

-- n charges at once
pub left_charged_for : (n : ℕ) (q : Quota) (i : ℕ) → left_of (charged_for n q i) i ≡ left_of q i - n
left_charged_for zero q i = omega arith
left_charged_for (suc n) q i = omega (arith, left_charged_for n (charged q i) i, left_charged q i)

pub available_charged_for : (n : ℕ) (q : Quota) (i : ℕ) → n ≤ available q i → available (charged_for n q i) i + n ≡ available q i
available_charged_for zero q i l = omega arith
available_charged_for (suc n) q i l =
    let c : available (charged q i) i ≡ available q i - 1 = available_charged q i (available q i - 1) (omega arith) in
    let rest = available_charged_for n (charged q i) i (omega arith) in
    omega arith

-- from 1 to the channels, at most four
pub rule_range : (q : Quota) (i : ℕ) → channel_rule q i ≡ Ok tt → (1 ≤ i) × (i ≤ q.channels) × (q.channels ≤ max_channels)
unfolding channel_rule lacks within
rule_range q i e =
    let bad : (ltb max_channels q.channels || not (leb 1 i && leb i q.channels)) ≡ false = refuse_if_accepted (lacks q i) why.QuotaRange 0 e in
    let inside = between 1 i q.channels (not-false _ (or_none_right (ltb max_channels q.channels) _ bad)) in
    (inside.0, inside.1, ltb-false max_channels q.channels (or_none_left (ltb max_channels q.channels) _ bad))

-- what a charge leaves as it is
pub record SameShape (q p : Quota) : Type 0 where
  pub channels : p.channels ≡ q.channels
  pub allowance : p.allowance ≡ q.allowance
  pub reserves : p.reserves ≡ q.reserves
  pub long : length p.left ≡ length q.left

shape_charged : (q : Quota) (i : ℕ) → SameShape q (charged q i)
unfolding charged
shape_charged q i = ⊎_elim (λ e. rw e (record { channels = refl; allowance = refl; reserves = refl; long = length-set q.left (i - 1) (left_of q i - 1) })) (λ e. rw e (record { channels = refl; allowance = refl; reserves = refl; long = refl })) (either (ltb 0 (left_of q i)))

pub shape_charged_for : (n : ℕ) (q : Quota) (i : ℕ) → SameShape q (charged_for n q i)
shape_charged_for zero q i = record { channels = refl; allowance = refl; reserves = refl; long = refl }
shape_charged_for (suc n) q i =
    let a = shape_charged q i in
    let b = shape_charged_for n (charged q i) i in
    record { channels = b.channels ∙ a.channels; allowance = b.allowance ∙ a.allowance; reserves = b.reserves ∙ a.reserves; long = b.long ∙ a.long }

-- the others keep what they have
left_other : (q : Quota) (i k : ℕ) → k ≢ i - 1 → get_or (charged q i).left k 0 ≡ get_or q.left k 0
unfolding charged
left_other q i k n = ⊎_elim (λ e. rw e (get_or-set_other q.left (i - 1) k (left_of q i - 1) 0 n)) (λ e. rw e) (either (ltb 0 (left_of q i)))

pub left_other_for : (n : ℕ) (q : Quota) (i k : ℕ) → k ≢ i - 1 → get_or (charged_for n q i).left k 0 ≡ get_or q.left k 0
left_other_for zero q i k h = refl
left_other_for (suc n) q i k h = left_other_for n (charged q i) i k h ∙ left_other q i k h

-- all that is left
abbrev pub total : Quota → ℕ
total q = sum_of q.left + q.pool

total_charged : (q : Quota) (i : ℕ) → 0 < available q i → total (charged q i) + 1 ≡ total q
unfolding available charged
total_charged q i l = ⊎_elim reserve pool (either (ltb 0 (left_of q i)))
  where
    reserve : ltb 0 (left_of q i) ≡ true → total (charged q i) + 1 ≡ total q
    reserve e =
        let k = ltb-true 0 (left_of q i) e in
        let z = sum_of_set q.left (i - 1) (left_of q i - 1) (place_inside q.left (i - 1) k) in
        rw e (omega arith)

    pool : ltb 0 (left_of q i) ≡ false → total (charged q i) + 1 ≡ total q
    pool e = let k = ltb-false 0 (left_of q i) e in rw e (omega arith)

pub total_charged_for : (n : ℕ) (q : Quota) (i : ℕ) → n ≤ available q i → total (charged_for n q i) + n ≡ total q
total_charged_for zero q i l = omega arith
total_charged_for (suc n) q i l =
    let one : available (charged q i) i ≡ available q i - 1 = available_charged q i (available q i - 1) (omega arith) in
    let rest = total_charged_for n (charged q i) i (omega arith) in
    let first = total_charged q i (omega arith) in
    omega arith

-- what opening an accepted quota gives
pub opened_accepted : (q : Quota) → open_verdict q ≡ Ok tt
    → open_quota q ≡ record { channels = q.channels; allowance = q.allowance; reserves = kept q; left = kept q; pool = q.allowance - sum_of (kept q) }
unfolding open_quota
opened_accepted q ok = rw ok

-- reserves past the channels are unread
pub kept_unread : (q p : Quota) → q.channels ≡ p.channels → ((k : ℕ) → k < q.channels → get_or q.reserves k 0 ≡ get_or p.reserves k 0) → kept q ≡ kept p
unfolding kept
kept_unread q p c h =
    tab_ext (λ k. cond (ltb k q.channels) (get_or q.reserves k 0) 0) (λ k. cond (ltb k p.channels) (get_or p.reserves k 0) 0) max_channels
    (λ k l. same k)
  where
    same : (k : ℕ) → cond (ltb k q.channels) (get_or q.reserves k 0) 0 ≡ cond (ltb k p.channels) (get_or p.reserves k 0) 0
    same k = rw (sym c) (⊎_elim (λ e. rw e (h k (ltb-true k q.channels e))) (λ e. rw e) (either (ltb k q.channels)))

pub opened_unread : (q p : Quota) → q.channels ≡ p.channels → q.allowance ≡ p.allowance
    → ((k : ℕ) → k < q.channels → get_or q.reserves k 0 ≡ get_or p.reserves k 0)
    → (open_verdict q ≡ open_verdict p) × (open_verdict q ≡ Ok tt → open_quota q ≡ open_quota p)
unfolding open_verdict
opened_unread q p c a h =
    let k = kept_unread q p c h in
    let same : open_verdict q ≡ open_verdict p = rw (k, c, a) in
    (same, λ ok. opened_accepted q ok ∙ rw (k, c, a) (sym (opened_accepted p (sym same ∙ ok))))

-- an opened quota, opened again
cut_again : (b : Bool) (n : ℕ) → cond b (cond b n 0) 0 ≡ cond b n 0
cut_again true n = refl
cut_again false n = refl

pub kept_again : (q p : Quota) → p.channels ≡ q.channels → p.reserves ≡ kept q → kept p ≡ kept q
unfolding kept
kept_again q p c r =
    rw (c, r)
    (rw (cut_again (ltb 0 q.channels) (get_or q.reserves 0 0), cut_again (ltb 1 q.channels) (get_or q.reserves 1 0), cut_again (ltb 2 q.channels) (get_or q.reserves 2 0), cut_again (ltb 3 q.channels) (get_or q.reserves 3 0)))

pub opened_again : (q p : Quota) → p.channels ≡ q.channels → p.allowance ≡ q.allowance → p.reserves ≡ kept q → open_verdict q ≡ Ok tt
    → open_quota p ≡ open_quota q
unfolding open_verdict
opened_again q p c a r ok =
    let k = kept_again q p c r in
    let same : open_verdict p ≡ open_verdict q = rw (k, c, a) in
    opened_accepted p (same ∙ ok) ∙ rw (k, c, a) (sym (opened_accepted q ok))

-- the reserves are within the allowance
pub opened_fits : (q : Quota) → open_verdict q ≡ Ok tt → sum_of (kept q) ≤ q.allowance
unfolding open_verdict
opened_fits q ok =
    let bad = refuse_if_accepted (not (within max_channels q.channels) || ltb q.allowance (sum_of (kept q))) why.QuotaRange 0 ok in
    ltb-false q.allowance (sum_of (kept q)) (or_none_right (not (within max_channels q.channels)) _ bad)
