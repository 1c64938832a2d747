-- Masks that a file's numbers make, and the rules on them.
--     numbers_at, numbers_past       a place that is in use, and one past these
--     numbers_are                    the list that has these numbers, and zeros behind them
--     bad_number                     the rule on a mask of a file, by the number before it
--     masks_rules_lem                    the rules on the masks of a record that a file makes are those on the file's numbers
--     mask_good, mask_in_range       where these accept, each mask is good, and has no bit above position 24
--     numbers_good                   and so are the places of the record
-- Assumes nothing.
use Rattle.std.specs.Prelude.{None, Ok}
use mathlib.Core.Bool.{Bool, false, cond, not, ◌&&◌, ◌||◌}
use mathlib.Core.List.Memᴰ
use mathlib.Core.List.{List, [], ◌∷◌, ◌++◌}
use mathlib.Core.Logic.{◌⊎◌, inl, inr}
use mathlib.Core.Path.{◌≡◌, refl, ap, ap₂, ◌∙◌}
use Prim.Native.Nat.{ℕ, zero, suc, ◌+◌, ◌-◌, ◌^◌, ◌≤◌, ◌<◌}
use native.Mathlib.Nat.{lt_of_lt_of_le}
use native.Mathlib.Omega.{arith}
use borrow.Author.Tests.{lt-ltb, le-ltb, eq-eqb, not-false}
use lib.Dec.{leb, ltb}
use lib.ListN.{length, get_or}
use Rattle.seq.specs.Bits.{bit}
use Rattle.seq.specs.Lists.{join}
use Rattle.seq.specs.Tab.{first, up_to}
use Rattle.seq.proofs.Lists.{join_intro, map_intro}
use Rattle.seq.proofs.Members.{map_ext}
use Rattle.seq.proofs.Tab.{get_d_tab, tab_of, up_to_intro, up_to_elim, first_none}
use Rattle.seq.proofs.Tests.{lt_or_le, or_none_left, or_none_right}
use Rattle.table.specs.declared.mask.Kind.{Kind}
use Rattle.table.specs.Code.Reading.{before, masks_judged}
use Rattle.table.specs.Code.Search.{leaves_centre, range_rule, bad_after, bad_of}
use Rattle.table.specs.File.{rest, number, numbers, masks_rules}
use Rattle.table.specs.Mask.{position_count, centre, valid_mask}
use Rattle.table.specs.Number.{number_rules}
use Rattle.table.specs.Record.{bad_place}
use Rattle.table.proofs.Places.{bad_first, bad_next, bad_within, bad_past}
use Rattle.table.proofs.Positions.{mask_lt}
use Rattle.verdict.specs.Rules.{refuse_if, judge, Verdict}
use Rattle.verdict.proofs.Rules.{judge_accepted, refuse_if_accepted}

module _ (h : List ℕ) (n m k : ℕ) (l : k < m) where
  pub numbers_at : k < n → get_or (numbers h n m) k 0 ≡ number h k
  unfolding numbers
  numbers_at i = get_d_tab (λ j. cond (ltb j n) (number h j) 0) m k 0 l ∙ simp (lt-ltb k n i)

  pub numbers_past : n ≤ k → get_or (numbers h n m) k 0 ≡ 0
  unfolding numbers
  numbers_past i = get_d_tab (λ j. cond (ltb j n) (number h j) 0) m k 0 l ∙ simp (le-ltb k n i)

pub numbers_are : (h ms : List ℕ) (n m : ℕ) → length ms ≡ m → ((k : ℕ) → k < n → get_or ms k 0 ≡ number h k) → ((k : ℕ) → n ≤ k → k < m → get_or ms k 0 ≡ 0)
    → ms ≡ numbers h n m
unfolding numbers
numbers_are h ms n m e used left = tab_of (λ j. cond (ltb j n) (number h j) 0) ms m 0 e (λ k l. step k l (lt_or_le k n))
  where
    step : (k : ℕ) → k < m → (k < n) ⊎ (n ≤ k) → get_or ms k 0 ≡ cond (ltb k n) (number h k) 0
    step k l (inl i) = rw (lt-ltb k n i) (used k i)
    step k l (inr i) = rw (le-ltb k n i) (left k i l)

pub bad_number : (kind : Kind) (h : List ℕ) (n m k : ℕ) → n ≤ m → k < n → bad_of kind (numbers h n m) k ≡ bad_after kind (before h k) (number h k)
bad_number kind h n m zero l i =
    bad_first kind (numbers h n m) 0 refl ∙ ap (bad_after kind 0) (numbers_at h n m 0 (lt_of_lt_of_le i l) i)
bad_number kind h n m (suc k) l i =
    bad_next kind (numbers h n m) (suc k) (omega arith)
    ∙ ap₂ (bad_after kind)
    (ap (λ (j : ℕ). get_or (numbers h n m) j 0) again ∙ numbers_at h n m k (omega arith) (omega arith))
    (numbers_at h n m (suc k) (lt_of_lt_of_le i l) i)
  where
    again : suc k - 1 ≡ k
    again = omega arith

pub masks_rules_lem : (kind : Kind) (h : List ℕ) (p n m : ℕ) → n ≤ m
    → judge (masks_rules h p n (bad_of kind (numbers h n m)) (range_rule kind)) ≡ masks_judged kind h p n
masks_rules_lem kind h p n m l =
    ap (λ (ls : List (List Verdict)). judge (join ls)) (map_ext _ _ (up_to n)
    (λ k i. ap (λ (b : Bool). number_rules (p + k) (rest h k) ++ refuse_if b (range_rule kind) (p + k) ∷ []) (bad_number kind h n m k l (up_to_elim n i))))

module _ (kind : Kind) (h : List ℕ) (p n : ℕ) (e : masks_judged kind h p n ≡ Ok tt) (k : ℕ) (i : k < n) where
  pub mask_good : bad_after kind (before h k) (number h k) ≡ false
  mask_good =
      refuse_if_accepted (bad_after kind (before h k) (number h k)) (range_rule kind) (p + k)
      (judge_accepted e
      (join_intro (Memᴰ.append_right (number_rules (p + k) (rest h k)) (Memᴰ.head refl))
      (map_intro (λ j. number_rules (p + j) (rest h j) ++ refuse_if (bad_after kind (before h j) (number h j)) (range_rule kind) (p + j) ∷ []) (up_to_intro i))))

  pub mask_in_range : number h k < 2 ^ position_count
  unfolding bad_after
  mask_in_range =
      let valid-rising = or_none_right (leaves_centre kind && bit (number h k) centre) (not (valid_mask (number h k)) || leb (number h k) (before h k)) mask_good in
      mask_lt (number h k) (not-false (valid_mask (number h k)) (or_none_left (not (valid_mask (number h k))) (leb (number h k) (before h k)) valid-rising))

pub numbers_good : (kind : Kind) (h : List ℕ) (p n m : ℕ) → n ≤ m → masks_judged kind h p n ≡ Ok tt
    → first (bad_place (numbers h n m) n (bad_of kind (numbers h n m))) m ≡ None
numbers_good kind h p n m l e = first_none (bad_place (numbers h n m) n (bad_of kind (numbers h n m))) m (λ k i. step k i (lt_or_le k n))
  where
    step : (k : ℕ) → k < m → (k < n) ⊎ (n ≤ k) → bad_place (numbers h n m) n (bad_of kind (numbers h n m)) k ≡ false
    step k i (inl j) = bad_within _ n _ k j ∙ bad_number kind h n m k l j ∙ mask_good kind h p n e k j
    step k i (inr j) = bad_past _ n _ k j ∙ ap not (eq-eqb _ 0 (numbers_past h n m k i j))
