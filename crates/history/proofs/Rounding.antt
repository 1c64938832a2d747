-- `nearest` is the nearest whole number, and there is no other (02, T-05).
--     nearest_low, nearest_high, nearest_half    by what is left: less than a half, more, an exact half
--     nearest_is                                 it is the nearest, and the even one of two
--     nearest_only                               no other number is
-- Assumes nothing.
use mathlib.Core.Bool.{Bool, true, false}
use mathlib.Core.Logic.{inl, inr, ⊎_elim}
use mathlib.Core.Path.{◌≡◌, refl, ap, ◌∙◌, subst}
use Prim.Native.Nat.{ℕ, ◌+◌, ◌*◌, ◌/◌, ◌%◌, ◌≤◌, ◌<◌}
use native.Mathlib.Nat.{mul-le-mul_right, mod-lt, div-add-mod'}
use native.Mathlib.Omega.{arith}
use borrow.Author.Tests.{le-ltb, lt-ltb, ne_eqb, eq-eqb}
use lib.Dec.{eqb}
use Rattle.history.specs.Rounding.{rounds_up, nearest, Nearest}
use Rattle.seq.specs.Lists.{one}
use Rattle.seq.proofs.Bits.{one_digit}
use Rattle.seq.proofs.Tests.{lt_or_le}

module _ (a n : ℕ) where
  nearest_by : {t : Bool} → rounds_up a n ≡ t → nearest a n ≡ a / n + one t
  unfolding nearest
  nearest_by e = ap (λ (t : Bool). a / n + one t) e

  pub nearest_low : 2 * (a % n) < n → nearest a n ≡ a / n
  nearest_low l = nearest_by down ∙ omega arith
    where
      down : rounds_up a n ≡ false
      down = rw (le-ltb n (2 * (a % n)) (omega arith), ne_eqb (2 * (a % n)) n (λ e. omega arith)) refl

  pub nearest_high : n < 2 * (a % n) → nearest a n ≡ a / n + 1
  nearest_high l = nearest_by up
    where
      up : rounds_up a n ≡ true
      up = rw (lt-ltb n (2 * (a % n)) l) refl

  pub nearest_half : 2 * (a % n) ≡ n → nearest a n ≡ a / n + a / n % 2
  nearest_half e = nearest_by odd ∙ ap (◌+◌ (a / n)) (one_digit (a / n % 2) (omega arith))
    where
      odd : rounds_up a n ≡ eqb (a / n % 2) 1
      odd = rw (le-ltb n (2 * (a % n)) (omega arith), eq-eqb (2 * (a % n)) n e) refl

module _ (a n : ℕ) (pos : 0 < n) where
  -- a lies a % n above a / n · n, and that is less than n
  split : a / n * n + a % n ≡ a
  split = div-add-mod' a n

  left : a % n < n
  left = mod-lt a pos

  down : 2 * (a % n) ≤ n → (2 * (a % n) ≡ n → a / n % 2 ≡ 0) → Nearest a n (a / n)
  down l e = let s = split in let r = left in record {
    above = omega arith;
    below = omega arith;
    even = ⊎_elim (λ p. absurd (omega arith)) (λ p. e (omega arith));
  }

  up : n ≤ 2 * (a % n) → (2 * (a % n) ≡ n → (a / n + 1) % 2 ≡ 0) → Nearest a n (a / n + 1)
  up l e = let s = split in let r = left in record {
    above = omega arith;
    below = omega arith;
    even = ⊎_elim (λ p. e (omega arith)) (λ p. absurd (omega arith));
  }

  pub nearest_is : Nearest a n (nearest a n)
  nearest_is = ⊎_elim low (λ l. ⊎_elim high (λ m. half (omega arith)) (lt_or_le n (2 * (a % n)))) (lt_or_le (2 * (a % n)) n)
    where
      low : 2 * (a % n) < n → Nearest a n (nearest a n)
      low l = rw (nearest_low a n l) (down (omega arith) (λ e. absurd (omega arith)))

      high : n < 2 * (a % n) → Nearest a n (nearest a n)
      high l = rw (nearest_high a n l) (up (omega arith) (λ e. absurd (omega arith)))

      half : 2 * (a % n) ≡ n → Nearest a n (nearest a n)
      half e = rw (nearest_half a n e) (⊎_elim stays rises (lt_or_le (a / n % 2) 1))
        where
          stays : a / n % 2 < 1 → Nearest a n (a / n + a / n % 2)
          stays l = subst (Nearest a n) (omega arith) (down (omega arith) (λ p. omega arith))

          rises : 1 ≤ a / n % 2 → Nearest a n (a / n + a / n % 2)
          rises l = subst (Nearest a n) (omega arith) (up (omega arith) (λ p. omega arith))

  -- of two such numbers both would be a half away, so they would be even and next to each other
  apart : {c d : ℕ} → Nearest a n c → Nearest a n d → c < d → ⊥
  apart {c} {d} x y l = ⊎_elim far near (lt_or_le (c + 1) d)
    where
      far : c + 1 < d → ⊥
      far m = let q : c + 2 ≤ d = omega arith in omega (arith, mul-le-mul_right n q, x.below, y.above)

      near : d ≤ c + 1 → ⊥
      near m =
          let z : d ≡ c + 1 = omega arith in
          let w : d * n ≡ c * n + n = rw z (omega arith) in
          let f = x.below in
          let g = y.above in
          omega (arith, x.even (inr (omega arith)), y.even (inl (omega arith)))

  pub nearest_only : {c : ℕ} → Nearest a n c → c ≡ nearest a n
  nearest_only {c} x =
      let y = nearest_is in
      ⊎_elim
      (λ l. absurd (apart x y l))
      (λ l. ⊎_elim (λ m. absurd (apart y x m)) (λ m. omega arith) (lt_or_le (nearest a n) c))
      (lt_or_le c (nearest a n))
