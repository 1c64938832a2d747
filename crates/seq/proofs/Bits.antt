-- The laws of bits.
--     one_digit                     a digit is 1 or 0 as the test whether it is 1
--     bit_one, bit_none, one_bit    a bit by its digit, both ways
--     bit_half, bit_shr             the bits of a half, and after a shift to the right
--     bit_shl, bit_low              the bits after a shift to the left
--     and_digit, or_digit           a digit of a bitwise and is the lesser of two, of a bitwise or the greater
--     bit_and_lem, bit_or_lem, bit_xor_lem      a bit of a bitwise and, or, exclusive or
--     bit_above                     no bit stands at or above k in a number below 2 ^ k
--     bits_ext                      numbers below 2 ^ k with the same bits below k are equal
--     bits_of_intro, bits_of_elim     membership in the list of bits
--     and_apart, apart_and          the bitwise and is 0 exactly when no place is in both
--     and_within, within_and        `e and m` is e exactly when every bit of e is one of m
--     any_and, all_and              some place of e, every place of e is in a set that is given as a mask f
-- Assumes nothing.
use mathlib.Core.Bool.{Bool, true, false, not, ◌&&◌, ◌||◌}
use mathlib.Core.List.{Memᴰ}
use mathlib.Core.Path.{◌≡◌, refl, sym, ap, ◌∙◌}
use Prim.Native.Nat.{ℕ, zero, suc, ◌+◌, ◌-◌, ◌*◌, ◌/◌, ◌%◌, ◌^◌, ◌≤◌, ◌<◌, min, max, zero-le, suc-le-suc}
use native.Mathlib.Nat.{div-one, div-eq_of_lt, pow-suc, lt_of_lt_of_le, lt_of_le_of_lt, mul_assoc}
use native.Mathlib.Omega.{arith}
use borrow.Author.Tests.{eq-eqb, ne_eqb, eqb-true, eqb-false, not-true, not-false}
use lib.Arith.{lt-one}
use lib.Bits.{bit_and, bit_or, bit_xor, differ, and_step, or_step, xor_step, and_shr, or_shr, xor_shr, and_le_l}
use lib.Dec.{eqb}
use lib.Pow.{pow_pos, pow_mono, pow-add, shr-shr, shl-shr}
use Rattle.seq.specs.Bits.{bit, bits_of}
use Rattle.seq.specs.Lists.{any, all, one, same}
use Rattle.seq.specs.Tab.{up_to}
use Rattle.seq.proofs.Lists.{clash, not_true_false, bool_ext, and_right, and_intro, any_intro, any_elim, all_intro, all_elim, keep_intro, keep_elim}
use Rattle.seq.proofs.Tab.{up_to_intro, up_to_elim}

pub one_digit : (d : ℕ) → d < 2 → one (eqb d 1) ≡ d
one_digit zero l = refl
one_digit (suc zero) l = refl
one_digit (suc (suc d)) l = absurd (omega arith)

pub bit_one : (m n : ℕ) → m / 2 ^ n % 2 ≡ 1 → bit m n ≡ true
unfolding bit
bit_one m n e = eq-eqb _ _ e

pub one_bit : (m n : ℕ) → bit m n ≡ true → m / 2 ^ n % 2 ≡ 1
unfolding bit
one_bit m n e = eqb-true _ _ e

pub bit_none : (m n : ℕ) → (m / 2 ^ n % 2 ≡ 1 → ⊥) → bit m n ≡ false
unfolding bit
bit_none m n e = ne_eqb _ _ e

pub none_bit : (m n : ℕ) → bit m n ≡ false → m / 2 ^ n % 2 ≡ 0
unfolding bit
none_bit m n e = sym (one_digit _ (omega arith)) ∙ ap one e

-- bits of equal digits are equal
same_digit : (m n j k : ℕ) → m / 2 ^ j % 2 ≡ n / 2 ^ k % 2 → bit m j ≡ bit n k
unfolding bit
same_digit m n j k e = ap (λ (d : ℕ). eqb d 1) e

pub bit_shr : (m j n : ℕ) → bit (m / 2 ^ j) n ≡ bit m (j + n)
bit_shr m j n = same_digit (m / 2 ^ j) m n (j + n) (ap (λ (d : ℕ). d % 2) (shr-shr m j n))

pub bit_half : (m n : ℕ) → bit (m / 2) n ≡ bit m (suc n)
bit_half m n = bit_shr m 1 n ∙ ap (bit m) (omega arith)

pub bit_shl : (m j n : ℕ) → bit (m * 2 ^ j) (j + n) ≡ bit m n
bit_shl m j n = sym (bit_shr (m * 2 ^ j) j n) ∙ ap (λ (x : ℕ). bit x n) (shl-shr m j)

-- below a shift to the left all is 0
pub bit_low : (m j n : ℕ) → n < j → bit (m * 2 ^ j) n ≡ false
bit_low m j n l =
    bit_none (m * 2 ^ j) n
    (λ e. let d : m * 2 ^ j / 2 ^ n ≡ m * 2 ^ (j - n - 1) * 2 = ap (λ (x : ℕ). x / 2 ^ n) moved ∙ shl-shr (m * 2 ^ (j - n - 1) * 2) n in
    omega (arith, ap (λ (x : ℕ). x % 2) d))
  where
    moved : m * 2 ^ j ≡ m * 2 ^ (j - n - 1) * 2 * 2 ^ n
    moved =
        ap (λ (x : ℕ). m * 2 ^ x) (omega arith)
        ∙ ap (λ (x : ℕ). m * x) (pow-add 2 (j - n - 1) (1 + n) ∙ ap (λ (x : ℕ). 2 ^ (j - n - 1) * x) (pow-add 2 1 n))
        ∙ sym (mul_assoc m (2 ^ (j - n - 1)) (2 ^ 1 * 2 ^ n))
        ∙ sym (mul_assoc (m * 2 ^ (j - n - 1)) 2 (2 ^ n))

pub bit_above : (m k n : ℕ) → m < 2 ^ k → k ≤ n → bit m n ≡ false
bit_above m k n h l =
    bit_none m n
    (λ e. let z : m / 2 ^ n ≡ 0 = div-eq_of_lt (lt_of_lt_of_le h (pow_mono l)) in
    omega (arith, ap (λ (d : ℕ). d % 2) z))

pub and_digit : (e f n : ℕ) → bit_and e f / 2 ^ n % 2 ≡ min (e / 2 ^ n % 2) (f / 2 ^ n % 2)
and_digit e f n = ap (λ (x : ℕ). x % 2) (and_shr e f n ∙ and_step (e / 2 ^ n) (f / 2 ^ n)) ∙ omega arith

pub or_digit : (e f n : ℕ) → bit_or e f / 2 ^ n % 2 ≡ max (e / 2 ^ n % 2) (f / 2 ^ n % 2)
or_digit e f n = ap (λ (x : ℕ). x % 2) (or_shr e f n ∙ or_step (e / 2 ^ n) (f / 2 ^ n)) ∙ omega arith

pub bit_and_lem : (e f n : ℕ) → bit (bit_and e f) n ≡ (bit e n && bit f n)
unfolding bit
bit_and_lem e f n = ap (λ (d : ℕ). eqb d 1) (and_digit e f n) ∙ both (e / 2 ^ n % 2) (f / 2 ^ n % 2) (omega arith) (omega arith)
  where
    both : (a b : ℕ) → a < 2 → b < 2 → eqb (min a b) 1 ≡ (eqb a 1 && eqb b 1)
    both zero zero p q = refl
    both zero (suc zero) p q = refl
    both zero (suc (suc b)) p q = absurd (omega arith)
    both (suc zero) zero p q = refl
    both (suc zero) (suc zero) p q = refl
    both (suc zero) (suc (suc b)) p q = absurd (omega arith)
    both (suc (suc a)) b p q = absurd (omega arith)

pub bit_or_lem : (e f n : ℕ) → bit (bit_or e f) n ≡ (bit e n || bit f n)
unfolding bit
bit_or_lem e f n = ap (λ (d : ℕ). eqb d 1) (or_digit e f n) ∙ either_digit (e / 2 ^ n % 2) (f / 2 ^ n % 2) (omega arith) (omega arith)
  where
    either_digit : (a b : ℕ) → a < 2 → b < 2 → eqb (max a b) 1 ≡ (eqb a 1 || eqb b 1)
    either_digit zero zero p q = refl
    either_digit zero (suc zero) p q = refl
    either_digit zero (suc (suc b)) p q = absurd (omega arith)
    either_digit (suc zero) zero p q = refl
    either_digit (suc zero) (suc zero) p q = refl
    either_digit (suc zero) (suc (suc b)) p q = absurd (omega arith)
    either_digit (suc (suc a)) b p q = absurd (omega arith)

pub bit_xor_lem : (e f n : ℕ) → bit (bit_xor e f) n ≡ not (same (bit e n) (bit f n))
unfolding bit
bit_xor_lem e f n = ap (λ (d : ℕ). eqb d 1) digit ∙ unlike (e / 2 ^ n % 2) (f / 2 ^ n % 2) (omega arith) (omega arith)
  where
    digit : bit_xor e f / 2 ^ n % 2 ≡ differ (e / 2 ^ n % 2) (f / 2 ^ n % 2)
    digit =
        ap (λ (x : ℕ). x % 2) (xor_shr e f n ∙ xor_step (e / 2 ^ n) (f / 2 ^ n)) ∙ omega (arith, small (e / 2 ^ n % 2) (f / 2 ^ n % 2) (omega arith) (omega arith))
      where
        small : (a b : ℕ) → a < 2 → b < 2 → differ a b < 2
        small zero zero p q = omega arith
        small zero (suc zero) p q = omega arith
        small zero (suc (suc b)) p q = absurd (omega arith)
        small (suc zero) zero p q = omega arith
        small (suc zero) (suc zero) p q = omega arith
        small (suc zero) (suc (suc b)) p q = absurd (omega arith)
        small (suc (suc a)) b p q = absurd (omega arith)

    unlike : (a b : ℕ) → a < 2 → b < 2 → eqb (differ a b) 1 ≡ not (same (eqb a 1) (eqb b 1))
    unlike zero zero p q = refl
    unlike zero (suc zero) p q = refl
    unlike zero (suc (suc b)) p q = absurd (omega arith)
    unlike (suc zero) zero p q = refl
    unlike (suc zero) (suc zero) p q = refl
    unlike (suc zero) (suc (suc b)) p q = absurd (omega arith)
    unlike (suc (suc a)) b p q = absurd (omega arith)

-- a number's parity is its lowest bit
parity : (e f : ℕ) → bit e 0 ≡ bit f 0 → e % 2 ≡ f % 2
parity e f h = lowest (bit e 0) refl
  where
    whole : (m : ℕ) → m / 2 ^ 0 % 2 ≡ m % 2
    whole m = ap (λ (x : ℕ). x % 2) (div-one m)

    lowest : (b : Bool) → bit e 0 ≡ b → e % 2 ≡ f % 2
    lowest true p = omega (arith, whole e, whole f, one_bit e 0 p, one_bit f 0 (sym h ∙ p))
    lowest false p = omega (arith, whole e, whole f, none_bit e 0 p, none_bit f 0 (sym h ∙ p))

pub bits_ext : (k e f : ℕ) → e < 2 ^ k → f < 2 ^ k → ((n : ℕ) → n < k → bit e n ≡ bit f n) → e ≡ f
bits_ext zero e f he hf h = lt-one he ∙ sym (lt-one hf)
bits_ext (suc k) e f he hf h =
    let halves = bits_ext k (e / 2) (f / 2) (low e he) (low f hf) (λ n l. bit_half e n ∙ h (suc n) (suc-le-suc l) ∙ sym (bit_half f n)) in
    omega (arith, parity e f (h 0 (suc-le-suc zero-le)))
  where
    low : (m : ℕ) → m < 2 ^ suc k → m / 2 < 2 ^ k
    low m l = omega (arith, pow-suc 2 k)

pub bits_of_intro : (k m : ℕ) {n : ℕ} → n < k → bit m n ≡ true → Memᴰ n (bits_of k m)
unfolding bits_of
bits_of_intro k m l e = keep_intro (bit m) (up_to_intro l) e

pub bits_of_elim : (k m : ℕ) {n : ℕ} → Memᴰ n (bits_of k m) → (n < k) × (bit m n ≡ true)
unfolding bits_of
bits_of_elim k m i = let w = keep_elim (bit m) (up_to k) i in (up_to_elim k w.0, w.1)

-- no bit stands in 0
pub bit_zero : (n : ℕ) → bit 0 n ≡ false
bit_zero n = bit_above 0 0 n (suc-le-suc zero-le) zero-le

pub and_apart : (e f n : ℕ) → bit_and e f ≡ 0 → bit e n ≡ true → bit f n ≡ false
and_apart e f n z p =
    not_true_false (bit f n) (λ q. clash (and_intro p q) (sym (bit_and_lem e f n) ∙ ap (λ (x : ℕ). bit x n) z ∙ bit_zero n))

pub apart_and : (k e f : ℕ) → e < 2 ^ k → ((n : ℕ) → n < k → bit e n ≡ true → bit f n ≡ false) → bit_and e f ≡ 0
apart_and k e f he h =
    bits_ext k (bit_and e f) 0 (lt_of_le_of_lt (and_le_l e f) he) (pow_pos k)
    (λ n l. bit_and_lem e f n ∙ none n l (bit e n) refl ∙ sym (bit_zero n))
  where
    none : (n : ℕ) → n < k → (b : Bool) → bit e n ≡ b → (b && bit f n) ≡ false
    none n l true p = h n l p
    none n l false p = refl

pub and_within : (e m n : ℕ) → bit_and e m ≡ e → bit e n ≡ true → bit m n ≡ true
and_within e m n z p = and_right (bit e n) (bit m n) (sym (bit_and_lem e m n) ∙ ap (λ (x : ℕ). bit x n) z ∙ p)

pub within_and : (k e m : ℕ) → e < 2 ^ k → ((n : ℕ) → n < k → bit e n ≡ true → bit m n ≡ true) → bit_and e m ≡ e
within_and k e m he h =
    bits_ext k (bit_and e m) e (lt_of_le_of_lt (and_le_l e m) he) he (λ n l. bit_and_lem e m n ∙ kept n l (bit e n) refl)
  where
    kept : (n : ℕ) → n < k → (b : Bool) → bit e n ≡ b → (b && bit m n) ≡ b
    kept n l true p = h n l p
    kept n l false p = refl

-- one `and` and one comparison test a mask against a set of places that is given as a mask
pub any_and : (p : ℕ → Bool) (k e f : ℕ) → e < 2 ^ k → ((n : ℕ) → n < k → bit f n ≡ p n) → any p (bits_of k e) ≡ not (eqb (bit_and e f) 0)
any_and p k e f he h = bool_ext (any p (bits_of k e)) (not (eqb (bit_and e f) 0)) shared found
  where
    shared : any p (bits_of k e) ≡ true → not (eqb (bit_and e f) 0) ≡ true
    shared a =
        let w = any_elim p (bits_of k e) a in
        let m = bits_of_elim k e w.1 in
        ap not (ne_eqb (bit_and e f) 0 (λ z. clash (h w.0 m.0 ∙ w.2) (and_apart e f w.0 z m.1)))

    found : not (eqb (bit_and e f) 0) ≡ true → any p (bits_of k e) ≡ true
    found q =
        not-false (any p (bits_of k e))
        (not_true_false (not (any p (bits_of k e)))
        (λ none. eqb-false (bit_and e f) 0 (not-true _ q) (apart_and k e f he (λ n l b. h n l ∙ lacks none n l b))))
      where
        lacks : not (any p (bits_of k e)) ≡ true → (n : ℕ) → n < k → bit e n ≡ true → p n ≡ false
        lacks none n l b = not_true_false (p n) (λ t. clash (any_intro p (bits_of_intro k e l b) t) (not-true _ none))

pub all_and : (p : ℕ → Bool) (k e f : ℕ) → e < 2 ^ k → ((n : ℕ) → n < k → bit f n ≡ p n) → all p (bits_of k e) ≡ eqb (bit_and e f) e
all_and p k e f he h = bool_ext (all p (bits_of k e)) (eqb (bit_and e f) e) kept held
  where
    kept : all p (bits_of k e) ≡ true → eqb (bit_and e f) e ≡ true
    kept a = eq-eqb (bit_and e f) e (within_and k e f he (λ n l b. h n l ∙ all_elim p a (bits_of_intro k e l b)))

    held : eqb (bit_and e f) e ≡ true → all p (bits_of k e) ≡ true
    held q =
        all_intro p (bits_of k e)
        (λ n m. let w = bits_of_elim k e m in sym (h n w.0) ∙ and_within e f n (eqb-true (bit_and e f) e q) w.1)
