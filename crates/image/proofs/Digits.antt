-- The laws of the digits that bytes start with.
--     digits_prefix, digits_few, digits_part  how many they are, as the library counts them; they lie among the bytes; they alone
--     digits_at                               each of the digits is one
--     digit_range                             a digit's bytes
--     Valued, value_none, value_more    a loop that makes the value of the digits
--     strict_loose, strict_one, strict_more                     the strict form by the number of digits
-- Assumes nothing.
use Rattle.std.specs.Char.{is_ascii_digit}
use Rattle.std.specs.List.{prefix_len}
use mathlib.Core.Bool.{Bool, true, false, cond, not, ◌&&◌}
use mathlib.Core.List.{List, [], ◌∷◌}
use mathlib.Core.Path.{◌≡◌, refl, sym, ap, ap₂, ◌∙◌}
use Prim.Native.Nat.{ℕ, zero, suc, ◌+◌, ◌-◌, ◌*◌, ◌^◌, ◌≤◌, ◌<◌}
use native.Mathlib.Nat.{not-suc-le-zero, le_of_suc-le-suc, add-zero, pow-suc}
use native.Mathlib.Numerals.{add-one}
use native.Mathlib.Omega.{arith}
use borrow.Author.Tests.{leb-true, ltb-true, ne_eqb}
use lib.Dec.{leb, ltb, eqb, leb-suc-suc}
use lib.ListN.{length, get_or, take, drop}
use lib.Seq.{drop-cons, get_or-drop}
use Rattle.image.specs.Header.{is_digit, digits, decimal_from, decimal_value, strict}
use Rattle.image.specs.Size.{within}
use Rattle.seq.proofs.Lists.{and_left, and_right}

-- the library's test of a byte
digit_same : (b : ℕ) → is_ascii_digit b ≡ is_digit b
unfolding is_digit
digit_same b = ap (λ (t : Bool). leb 48 b && t) (sym (leb-suc-suc b 57))

pub digits_prefix : (bs : List ℕ) → prefix_len is_ascii_digit bs ≡ digits bs
digits_prefix [] = refl
digits_prefix (b ∷ bs) = ap₂ (λ (t : Bool) (n : ℕ). cond t n 0) (digit_same b) (omega (arith, digits_prefix bs))

pub digits_few : (bs : List ℕ) → digits bs ≤ length bs
digits_few [] = omega arith
digits_few (b ∷ bs) = step (is_digit b) (digits_few bs)
  where
    step : (t : Bool) → digits bs ≤ length bs → cond t (suc (digits bs)) 0 ≤ suc (length bs)
    step true h = omega arith
    step false h = omega arith

pub digits_part : (bs : List ℕ) → digits (take (digits bs) bs) ≡ digits bs
digits_part [] = refl
digits_part (b ∷ bs) = step (is_digit b) refl (digits_part bs)
  where
    step : (t : Bool) → is_digit b ≡ t → digits (take (digits bs) bs) ≡ digits bs → digits (take (cond t (suc (digits bs)) 0) (b ∷ bs)) ≡ cond t (suc (digits bs)) 0
    step true e h = rw e (ap suc h)
    step false e h = refl

pub digits_at : (bs : List ℕ) (k : ℕ) → k < digits bs → is_digit (get_or bs k 0) ≡ true
digits_at [] k h = absurd (not-suc-le-zero h)
digits_at (b ∷ bs) k h = step (is_digit b) refl k h (digits_at bs)
  where
    step : (t : Bool) → is_digit b ≡ t → (k : ℕ) → k < cond t (suc (digits bs)) 0 → ((j : ℕ) → j < digits bs → is_digit (get_or bs j 0) ≡ true)
        → is_digit (get_or (b ∷ bs) k 0) ≡ true
    step true e zero h below = e
    step true e (suc k) h below = below k (le_of_suc-le-suc h)
    step false e k h below = absurd (not-suc-le-zero h)

pub digit_range : (b : ℕ) → is_digit b ≡ true → (48 ≤ b) × (b < 58)
unfolding is_digit
digit_range b e = (leb-true 48 b (and_left (leb 48 b) (ltb b 58) e), ltb-true b 58 (and_right (leb 48 b) (ltb b 58) e))

-- A loop that goes along digits and has come to index i with the value n: with the digits that are left it makes the whole number.
pub record Valued (ds : List ℕ) (n i : ℕ) : Type 0 where
  pub within : i ≤ length ds
  pub small : n < 10 ^ i
  pub whole : decimal_from n (drop i ds) ≡ decimal_value ds

pub value_none : (ds : List ℕ) → Valued ds 0 0
unfolding decimal_value
value_none ds = record { within = omega arith; small = omega arith; whole = refl }

pub value_more : {ds : List ℕ} {n i : ℕ} → Valued ds n i → i < length ds → get_or ds i 0 < 58 → Valued ds (10 * n + (get_or ds i 0 - 48)) (i + 1)
value_more {ds} {n} {i} v h d = record {
  within = omega arith;
  small = rw (add-one, pow-suc) (omega (arith, v.small));
  whole = rw add-one (rw (drop-cons ds i 0 h) at v.whole);
}

-- the strict form, by the number n of digits
module _ (bs : List ℕ) {n : ℕ} (e : n ≡ digits bs) where
  pub strict_loose : within 3 n ≡ false → strict bs ≡ false
  unfolding strict within
  strict_loose w = simp (rw e at w)

  pub strict_one : n ≡ 1 → strict bs ≡ true
  unfolding strict
  strict_one q = simp (sym e ∙ q)

-- the first byte is the one at the position where the digits start
pub strict_more : (f : List ℕ) (at : ℕ) {n b : ℕ} → n ≡ digits (drop at f) → within 3 n ≡ true → (n ≡ 1 → ⊥) → b ≡ get_or f at 0
    → not (eqb b 48) ≡ strict (drop at f)
unfolding strict within
strict_more f at {n} {b} q w m e = simp (← q, w, ne_eqb n 1 m, get_or-drop, add-zero, e)
