-- A number made of bits, the first the highest (Horner's rule).
--     bits_value v n     the number of the bits v 0, .., v (n − 1)
--     bits_lt           it is below 2 ^ n
--     bits_high         without its last m bits it is the number of those before
--     bits_at           a bit of the number is the bit that was put there
--     bits_zeros        m zeros at the end are a factor 2 ^ m
--     bits_back         the bits of a number below 2 ^ n make that number
--     low_zero          below a factor 2 ^ m every bit is 0
--     clear_low, clear_high     a number without its last m bits: these are 0, and the others are as they were
-- Assumes nothing.
use mathlib.Core.Path.{◌≡◌, sym, ap, ◌∙◌}
use Prim.Native.Nat.{ℕ, zero, suc, ◌+◌, ◌-◌, ◌*◌, ◌/◌, ◌%◌, ◌^◌, ◌≤◌, ◌<◌}
use native.Mathlib.Nat.{add-zero, add-suc, sub-zero, sub_self, mul-one, mul_assoc, mul-mod_left, pow-zero, pow-suc, pow-succ', zero-div, div-one, div-eq_of_lt, div-div-eq-div-mul}
use native.Mathlib.Omega.{arith}
use lib.Pow.{split, field, mod-mod-pow, shl-shr, shr-shr}

unfoldable pub bits_value : (ℕ → ℕ) → ℕ → ℕ
bits_value v zero = 0
bits_value v (suc n) = 2 * bits_value v n + v n

module _ (v : ℕ → ℕ) where
  pub bits_zeros : (n m : ℕ) → ((k : ℕ) → n ≤ k → k < n + m → v k ≡ 0) → bits_value v (n + m) ≡ bits_value v n * 2 ^ m
  unfolding bits_value
  bits_zeros n zero h = rw (add-zero, pow-zero, mul-one)
  bits_zeros n (suc m) h =
      let e = bits_zeros n m (λ k a b. h k a (omega arith)) in
      let z = h (n + m) (omega arith) (omega arith) in
      rw (add-suc, pow-suc) (omega (arith, e, z, mul_assoc (bits_value v n) (2 ^ m) 2))

  module _ (small : (k : ℕ) → v k ≤ 1) where
    pub bits_lt : (n : ℕ) → bits_value v n < 2 ^ n
    unfolding bits_value
    bits_lt zero = omega arith
    bits_lt (suc n) = rw (pow-suc 2 n) (omega (arith, bits_lt n, small n))

    pub bits_high : (n m : ℕ) → bits_value v (n + m) / 2 ^ m ≡ bits_value v n
    unfolding bits_value
    bits_high n zero = rw (add-zero, pow-zero, div-one)
    bits_high n (suc m) =
        let half : (2 * bits_value v (n + m) + v (n + m)) / 2 ≡ bits_value v (n + m) = omega (arith, small (n + m)) in
        rw (add-suc, pow-succ' 2 m, ← div-div-eq-div-mul) (ap (λ (x : ℕ). x / 2 ^ m) half ∙ bits_high n m)

    pub bits_at : (n k : ℕ) → k < n → bits_value v n / 2 ^ (n - 1 - k) % 2 ≡ v k
    unfolding bits_value
    bits_at n k h =
        let e : n ≡ suc k + (n - 1 - k) = omega arith in
        ap (λ (m : ℕ). bits_value v m / 2 ^ (n - 1 - k) % 2) e ∙ ap (λ (x : ℕ). x % 2) (bits_high (suc k) (n - 1 - k)) ∙ omega (arith, small k)

-- the first m of them make what is left of b without the others
module _ (b n : ℕ) (h : b < 2 ^ n) where
  front : (m : ℕ) → m ≤ n → bits_value (λ k. b / 2 ^ (n - 1 - k) % 2) m ≡ b / 2 ^ (n - m)
  unfolding bits_value
  front zero l = sym (rw (sub-zero) (div-eq_of_lt h))
  front (suc m) l =
      let x = b / 2 ^ (n - 1 - m) in
      let e : n - m ≡ suc (n - 1 - m) = omega arith in
      let e' : n - suc m ≡ n - 1 - m = omega arith in
      let half : b / 2 ^ (n - m) ≡ x / 2 = rw (e, pow-suc) (sym (div-div-eq-div-mul b (2 ^ (n - 1 - m)) 2)) in
      rw e' (omega (arith, front m (omega arith), half))

  pub bits_back : bits_value (λ k. b / 2 ^ (n - 1 - k) % 2) n ≡ b
  bits_back = front n (omega arith) ∙ rw (sub_self, pow-zero) (div-one b)

pub low_zero : (b m k : ℕ) → b % 2 ^ m ≡ 0 → k < m → b / 2 ^ k % 2 ≡ 0
low_zero b m k e h =
    let a : m ≡ m - k + k = omega arith in
    let c : m - k ≡ m - k - 1 + 1 = omega arith in
    let z : b / 2 ^ k % 2 ^ (m - k) ≡ 0 =
    sym (field b (m - k) k) ∙ ap (λ (x : ℕ). x / 2 ^ k) (ap (λ (j : ℕ). b % 2 ^ j) (sym a) ∙ e) ∙ zero-div (2 ^ k) in
    sym (mod-mod-pow (b / 2 ^ k) (m - k - 1) 1) ∙ ap (λ (x : ℕ). x % 2) (ap (λ (j : ℕ). b / 2 ^ k % 2 ^ j) (sym c) ∙ z)

module _ (b m : ℕ) where
  high : b - b % 2 ^ m ≡ b / 2 ^ m * 2 ^ m
  high = omega (arith, split b m)

  pub clear_low : (b - b % 2 ^ m) % 2 ^ m ≡ 0
  clear_low = ap (λ (x : ℕ). x % 2 ^ m) high ∙ mul-mod_left (b / 2 ^ m) (2 ^ m)

  pub clear_high : (j : ℕ) → m ≤ j → (b - b % 2 ^ m) / 2 ^ j ≡ b / 2 ^ j
  clear_high j h =
      let e : j ≡ m + (j - m) = omega arith in
      ap (λ (i : ℕ). (b - b % 2 ^ m) / 2 ^ i) e
      ∙ sym (shr-shr (b - b % 2 ^ m) m (j - m))
      ∙ ap (λ (x : ℕ). x / 2 ^ (j - m)) (ap (λ (x : ℕ). x / 2 ^ m) high ∙ shl-shr (b / 2 ^ m) m)
      ∙ shr-shr b m (j - m)
      ∙ ap (λ (i : ℕ). b / 2 ^ i) (sym e)
