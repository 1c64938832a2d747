-- Decimal numbers there and back: a number below 1000 has one strict form.
--     digits_append, digits_take      the digits before a byte that is none; the digits themselves are nothing but digits
--     strict_front                    the strict form looks at the digits only
--     decimal_digits, decimal_strict, decimal_back     the digits of a number are digits, in strict form, and make the number
--     canonical                       strict digits are the digits of their number
-- Assumes nothing.
use mathlib.Core.Bool.{Bool, true, false, cond, not}
use mathlib.Core.List.{List, [], ◌∷◌, ◌++◌}
use mathlib.Core.Logic.{◌⊎◌, inl, inr, ⊎_elim}
use mathlib.Core.Path.{◌≡◌, refl, sym, ap}
use Prim.Native.Nat.{ℕ, suc, ◌+◌, ◌-◌, ◌*◌, ◌/◌, ◌%◌, ◌≤◌, ◌<◌}
use native.Mathlib.Nat.{suc_inj, div-div-eq-div-mul}
use native.Mathlib.Omega.{arith}
use borrow.Author.Tests.{ltb-true, ltb-false, eqb-false, le-leb, lt-ltb, ne_eqb, not-true}
use lib.Dec.{ltb, eqb}
use lib.ListN.{length, take}
use Rattle.image.specs.Header.{is_digit, digits, decimal_value, strict, digit_at, decimal}
use Rattle.image.proofs.Decimal.{decimal_one, decimal_two, decimal_three}
use Rattle.image.proofs.Digits.{digit_range}
use Rattle.image.proofs.NumberAt.{strict_count}
use Rattle.seq.proofs.Lists.{clash, either}

-- a list of digits that starts with d
first_digit : (d : ℕ) (ds : List ℕ) → digits (d ∷ ds) ≡ suc (length ds) → (is_digit d ≡ true) × (digits ds ≡ length ds)
first_digit d ds e = step (is_digit d) refl e
  where
    step : (t : Bool) → is_digit d ≡ t → cond t (suc (digits ds)) 0 ≡ suc (length ds) → (is_digit d ≡ true) × (digits ds ≡ length ds)
    step true q e = (q, suc_inj e)
    step false q e = absurd (omega arith)

pub digits_append : (ds : List ℕ) (b : ℕ) (t : List ℕ) → digits ds ≡ length ds → is_digit b ≡ false → digits (ds ++ b ∷ t) ≡ length ds
digits_append [] b t e n = rw n
digits_append (d ∷ ds) b t e n = let q = first_digit d ds e in rw q.0 (ap suc (digits_append ds b t q.1 n))

pub digits_take : (bs : List ℕ) → (digits (take (digits bs) bs) ≡ digits bs) × (length (take (digits bs) bs) ≡ digits bs)
digits_take [] = (refl, refl)
digits_take (b ∷ bs) = step (is_digit b) refl (digits_take bs)
  where
    step : (t : Bool) → is_digit b ≡ t → (digits (take (digits bs) bs) ≡ digits bs) × (length (take (digits bs) bs) ≡ digits bs)
        → (digits (take (cond t (suc (digits bs)) 0) (b ∷ bs)) ≡ cond t (suc (digits bs)) 0)
        × (length (take (cond t (suc (digits bs)) 0) (b ∷ bs)) ≡ cond t (suc (digits bs)) 0)
    step true q e = (rw q (ap suc e.0), ap suc e.1)
    step false q e = (refl, refl)

pub strict_front : (ds : List ℕ) (b : ℕ) (t : List ℕ) → digits ds ≡ length ds → digits (ds ++ b ∷ t) ≡ length ds → strict (ds ++ b ∷ t) ≡ strict ds
unfolding strict
strict_front [] b t e n = rw n
strict_front (d ∷ ds) b t e n = rw (n, e)

digit_is : (x : ℕ) → is_digit (48 + x % 10) ≡ true
unfolding is_digit
digit_is x = let l : 48 ≤ 48 + x % 10 = omega arith in let h : 48 + x % 10 < 58 = omega arith in simp (le-leb _ _ l, lt-ltb _ _ h)

-- how many digits a number has
sizes : (n : ℕ) → (n < 10) ⊎ (((10 ≤ n) × (n < 100)) ⊎ (100 ≤ n))
sizes n =
    ⊎_elim (λ a. inl (ltb-true n 10 a))
    (λ a. inr (⊎_elim (λ b. inl (ltb-false n 10 a, ltb-true n 100 b)) (λ b. inr (ltb-false n 100 b)) (either (ltb n 100)))) (either (ltb n 10))

pub decimal_digits : (n : ℕ) → digits (decimal n) ≡ length (decimal n)
decimal_digits n =
    ⊎_elim (λ h. rw (decimal_one n h, digit_is (n / 1)))
    (⊎_elim (λ h. rw (decimal_two n h.0 h.1, digit_is (n / 10), digit_is (n / 1)))
    (λ h. rw (decimal_three n h, digit_is (n / 100), digit_is (n / 10), digit_is (n / 1)))) (sizes n)

module _ (n : ℕ) (below : n < 1000) where
  pub decimal_strict : strict (decimal n) ≡ true
  unfolding strict
  decimal_strict =
      ⊎_elim (λ h. rw (decimal_one n h, digit_is (n / 1)))
      (⊎_elim (λ h. rw (decimal_two n h.0 h.1, digit_is (n / 10), digit_is (n / 1), ne_eqb (48 + n / 10 % 10) 48 (omega (arith, h))))
      (λ h. rw (decimal_three n h, digit_is (n / 100), digit_is (n / 10), digit_is (n / 1), ne_eqb (48 + n / 100 % 10) 48 (omega arith)))) (sizes n)

  pub decimal_back : decimal_value (decimal n) ≡ n
  unfolding decimal_value
  decimal_back =
      ⊎_elim (λ h. rw (decimal_one n h) (omega arith))
      (⊎_elim (λ h. rw (decimal_two n h.0 h.1) (two h.1)) (λ h. rw (decimal_three n h) three)) (sizes n)
    where
      two : n < 100 → 10 * (0 + (48 + n / 10 % 10 - 48)) + (48 + n / 1 % 10 - 48) ≡ n
      two h = let p : n / 10 % 10 ≡ n / 10 = omega arith in let r : 10 * (n / 10) + n / 1 % 10 ≡ n = omega arith in omega arith

      -- n is its lowest digit and ten times the number of the others
      three : 10 * (10 * (0 + (48 + n / 100 % 10 - 48)) + (48 + n / 10 % 10 - 48)) + (48 + n / 1 % 10 - 48) ≡ n
      three =
          let p : n / 100 % 10 ≡ n / 10 / 10 = rw (sym (div-div-eq-div-mul n 10 10)) (omega arith) in
          let q : 10 * (n / 10 / 10) + n / 10 % 10 ≡ n / 10 = omega arith in
          let r : 10 * (n / 10) + n / 1 % 10 ≡ n = omega arith in
          omega arith

-- digits as the digits of the number that they make
two_digits : (a b n : ℕ) → (48 < a) × (a < 58) → (48 ≤ b) × (b < 58) → n ≡ 10 * (a - 48) + (b - 48) → decimal n ≡ a ∷ b ∷ []
two_digits a b n p q e =
    let u : digit_at 10 n ≡ a = omega arith in
    let v : digit_at 1 n ≡ b = omega arith in
    rw (decimal_two n (omega arith) (omega arith), u, v)

three_digits : (a b c n : ℕ) → (48 < a) × (a < 58) → (48 ≤ b) × (b < 58) → (48 ≤ c) × (c < 58) → n ≡ 10 * (10 * (a - 48) + (b - 48)) + (c - 48)
    → decimal n ≡ a ∷ b ∷ c ∷ []
three_digits a b c n p q r e =
    let t : digit_at 100 n ≡ a = omega arith in
    let u : digit_at 10 n ≡ b = omega arith in
    let v : digit_at 1 n ≡ c = omega arith in
    rw (decimal_three n (omega arith), t, u, v)

-- several digits, of which the first is not 0
not_zero : (a : ℕ) → is_digit a ≡ true → not (eqb a 48) ≡ true → (48 < a) × (a < 58)
not_zero a d s = let n = eqb-false a 48 (not-true (eqb a 48) s) in let r = digit_range a d in (omega arith, omega arith)

pub canonical : (ds : List ℕ) → digits ds ≡ length ds → strict ds ≡ true → decimal (decimal_value ds) ≡ ds
unfolding strict decimal_value
canonical [] e s = clash s refl
canonical (a ∷ []) e s =
    let r = digit_range a (first_digit a [] e).0 in
    let u : digit_at 1 (0 + (a - 48)) ≡ a = omega arith in
    rw (decimal_one (0 + (a - 48)) (omega arith), u)
canonical (a ∷ b ∷ []) e s =
    let p = first_digit a (b ∷ []) e in
    let q = first_digit b [] p.1 in
    two_digits a b _ (not_zero a p.0 (rw e at s)) (digit_range b q.0) (omega arith)
canonical (a ∷ b ∷ c ∷ []) e s =
    let p = first_digit a (b ∷ c ∷ []) e in
    let q = first_digit b (c ∷ []) p.1 in
    let r = first_digit c [] q.1 in
    three_digits a b c _ (not_zero a p.0 (rw e at s)) (digit_range b q.0) (digit_range c r.0) (omega arith)
canonical (a ∷ b ∷ c ∷ d ∷ ds) e s = absurd (omega (arith, e, strict_count (a ∷ b ∷ c ∷ d ∷ ds) s))
