-- The laws of a word of eight bytes and its bits.
--     bit_mod, bit_byte            a bit of the low bits, and of one byte
--     code_at, bit_code            the code of one lane of a byte of the word, and its bits
--     set_le                       a number with a bit is at least that bit's value
--     clear_same, clear_other      the bits after one that is set is taken away
--     trailing                     the lowest bit that is set
--     word_end                      words are the numbers below it
--     place s, place_is            bit s as a number, as the code makes it
--     Lowest x s, lowest           bit s is the lowest of a word x that is not 0
--     five_codes                   the codes of a lane in the first five bytes of a word
-- Assumes nothing.
use mathlib.Core.Bool.{true, false}
use mathlib.Core.List.{List, [], ◌∷◌}
use mathlib.Core.Path.{◌≡◌, refl, sym, ap, ◌∙◌}
use Prim.Native.Nat.{ℕ, zero, suc, ◌+◌, ◌-◌, ◌*◌, ◌/◌, ◌%◌, ◌^◌, ◌≤◌, ◌<◌, suc-le-suc}
use native.Mathlib.Nat.{add_comm, mod-eq_of_lt, pow-suc}
use native.Mathlib.Omega.{arith}
use lib.Count.{count_trailing_zeros, under}
use lib.Dec.{eqb}
use lib.ListN.{length, get_or, set}
use lib.Pow.{pow_pos, pow-lt, shr-shr, field, mod-mod-pow}
use Rattle.seq.specs.Bits.{bit}
use Rattle.seq.specs.Loops.{Swept}
use Rattle.seq.specs.Tab.{tab}
use Rattle.seq.proofs.Bits.{bit_one, one_bit, bit_none, bit_half, bit_shr}
use Rattle.seq.proofs.Loops.{sweep_more}
use Rattle.seq.proofs.Tab.{tab_ext}
use Rattle.filter.specs.Code.Elements.{code_of}
use Rattle.filter.specs.Code.Judge.{Bytes}

-- a bit of the low b + 1 + j bits
bit_low_part : (y j b : ℕ) → bit (y % 2 ^ (j + 1 + b)) b ≡ bit y b
unfolding bit
bit_low_part y j b = ap (λ (d : ℕ). eqb (d % 2) 1) (field y (j + 1) b) ∙ ap (λ (d : ℕ). eqb d 1) (mod-mod-pow (y / 2 ^ b) j 1)

pub bit_mod : (y k b : ℕ) → b < k → bit (y % 2 ^ k) b ≡ bit y b
bit_mod y k b l = let e : k ≡ k - b - 1 + 1 + b = omega arith in rw e (bit_low_part y (k - b - 1) b)

pub bit_byte : (x i b : ℕ) → b < 8 → bit (x / 2 ^ (8 * i) % 256) b ≡ bit x (8 * i + b)
bit_byte x i b l = bit_mod (x / 2 ^ (8 * i)) 8 b l ∙ bit_shr x (8 * i) b

-- a lane of a word, in one of its bytes
pub code_at : (w l x : ℕ) → l < 4 → w / 2 ^ (2 * l) / 2 ^ (8 * x) % 4 ≡ code_of (w / 2 ^ (8 * x) % 256) l
code_at w l x h =
    ap (λ (y : ℕ). y % 4) (shr-shr w (2 * l) (8 * x) ∙ ap (λ (n : ℕ). w / 2 ^ n) (add_comm (2 * l) (8 * x)) ∙ sym (shr-shr w (8 * x) (2 * l)))
    ∙ lane (w / 2 ^ (8 * x)) l h
  where
    lane : (y l : ℕ) → l < 4 → y / 2 ^ (2 * l) % 4 ≡ code_of (y % 256) l
    lane y zero h = omega arith
    lane y (suc zero) h = omega arith
    lane y (suc (suc zero)) h = omega arith
    lane y (suc (suc (suc zero))) h = omega arith
    lane y (suc (suc (suc (suc l)))) h = absurd (omega arith)

pub bit_code : (x l v : ℕ) → l < 4 → v < 2 → bit (code_of x l) v ≡ bit x (2 * l + v)
bit_code x l v hl hv = bit_mod (x / 4 ^ l) 2 v hv ∙ ap (λ (y : ℕ). bit (x / y) v) (four l hl) ∙ bit_shr x (2 * l) v
  where
    four : (l : ℕ) → l < 4 → 4 ^ l ≡ 2 ^ (2 * l)
    four zero h = refl
    four (suc zero) h = refl
    four (suc (suc zero)) h = refl
    four (suc (suc (suc zero))) h = refl
    four (suc (suc (suc (suc l)))) h = absurd (omega arith)

-- the digit of a bit that is set
odd : (x : ℕ) → bit x 0 ≡ true → x % 2 ≡ 1
odd x h = omega (arith, one_bit x 0 h)

pub set_le : (x s : ℕ) → bit x s ≡ true → 2 ^ s ≤ x
set_le x zero h = omega (arith, odd x h)
set_le x (suc s) h = omega (arith, pow-suc 2 s, set_le (x / 2) s (bit_half x s ∙ h))

-- the half of what is left
half_clear : (x s : ℕ) → bit x (suc s) ≡ true → ((x - 2 ^ suc s) / 2 ≡ x / 2 - 2 ^ s) × ((x - 2 ^ suc s) % 2 ≡ x % 2)
half_clear x s h = let q = set_le (x / 2) s (bit_half x s ∙ h) in (omega (arith, pow-suc 2 s), omega (arith, pow-suc 2 s))

pub clear_same : (x s : ℕ) → bit x s ≡ true → bit (x - 2 ^ s) s ≡ false
clear_same x zero h = bit_none (x - 1) 0 (λ e. omega (arith, odd x h))
clear_same x (suc s) h = sym (bit_half (x - 2 ^ suc s) s) ∙ rw (half_clear x s h).0 (clear_same (x / 2) s (bit_half x s ∙ h))

-- a bit by parity, or by the half
same_low : (x y : ℕ) → x % 2 ≡ y % 2 → bit x 0 ≡ bit y 0
unfolding bit
same_low x y e = let q : x / 1 % 2 ≡ y / 1 % 2 = omega arith in ap (λ (d : ℕ). eqb d 1) q

same_half : (x y n : ℕ) → x / 2 ≡ y / 2 → bit x (suc n) ≡ bit y (suc n)
same_half x y n e = sym (bit_half x n) ∙ ap (λ (z : ℕ). bit z n) e ∙ bit_half y n

pub clear_other : (x s n : ℕ) → bit x s ≡ true → (n ≡ s → ⊥) → bit (x - 2 ^ s) n ≡ bit x n
clear_other x zero zero h q = absurd (q refl)
clear_other x zero (suc n) h q = same_half (x - 1) x n (omega (arith, odd x h))
clear_other x (suc s) zero h q = same_low (x - 2 ^ suc s) x (half_clear x s h).1
clear_other x (suc s) (suc n) h q =
    sym (bit_half (x - 2 ^ suc s) n) ∙ rw (half_clear x s h).0 (clear_other (x / 2) s n (bit_half x s ∙ h) (λ e. q (ap suc e)) ∙ bit_half x n)

pub trailing : (k x : ℕ) → 0 < x → x < 2 ^ k → (count_trailing_zeros k x < k) × (bit x (count_trailing_zeros k x) ≡ true)
unfolding count_trailing_zeros
trailing zero x p l = absurd (omega arith)
trailing (suc k) x p l = step (x % 2) refl (trailing k (x / 2))
  where
    step : (d : ℕ) → x % 2 ≡ d → (0 < x / 2 → x / 2 < 2 ^ k → (count_trailing_zeros k (x / 2) < k) × (bit (x / 2) (count_trailing_zeros k (x / 2)) ≡ true))
        → (under d (count_trailing_zeros k (x / 2)) < suc k) × (bit x (under d (count_trailing_zeros k (x / 2))) ≡ true)
    step zero e below =
        let w = below (omega arith) (omega (arith, pow-suc 2 k)) in
        (suc-le-suc w.0, sym (bit_half x (count_trailing_zeros k (x / 2))) ∙ w.1)
    step (suc d) e below = (omega arith, bit_one x 0 (omega arith))

abbrev pub word_end : ℕ
word_end = 18446744073709551616

abbrev pub place : ℕ → ℕ
place s = 1 * 2 ^ s % word_end

pub place_is : (s : ℕ) → s < 64 → place s ≡ 2 ^ s
place_is s l = let q : 1 * 2 ^ s ≡ 2 ^ s = omega arith in rw q (mod-eq_of_lt (pow-lt {i = s} {j = 64} l))

pub record Lowest (x s : ℕ) : Type 0 where
  pub small : s < 64
  pub has : bit x s ≡ true
  pub some : 0 < place s
  pub within : place s ≤ x

pub lowest : (x : ℕ) → (x ≡ 0 → ⊥) → x < word_end → Lowest x (count_trailing_zeros 64 x)
lowest x z l =
    let w = trailing 64 x (omega arith) l in
    let e = place_is (count_trailing_zeros 64 x) w.0 in
    record {
      small = w.0;
      has = w.1;
      some = omega (arith, pow_pos (count_trailing_zeros 64 x));
      within = omega (arith, set_le x (count_trailing_zeros 64 x) w.1);
    }

-- the lane of five bytes in a word that is shifted down
pub five_codes : (b : List ℕ) (at w l : ℕ) → l < 4 → Bytes 8 b at w → {p q r s t : ℕ} → p ≡ w / 2 ^ (2 * l) % 4 → q ≡ w / 2 ^ (2 * l) / 256 % 4
    → r ≡ w / 2 ^ (2 * l) / 65536 % 4 → s ≡ w / 2 ^ (2 * l) / 16777216 % 4 → t ≡ w / 2 ^ (2 * l) / 4294967296 % 4
    → p ∷ q ∷ r ∷ s ∷ t ∷ [] ≡ tab (λ x. code_of (get_or b (at + x) 0) l) 5
five_codes b at w l h e hp hq hr hs ht = let hz : _ ≡ w / 2 ^ (2 * l) / 1 % 4 = hp ∙ omega arith in rw (hz, hq, hr, hs, ht) codes
  where
    codes : tab (λ x. w / 2 ^ (2 * l) / 2 ^ (8 * x) % 4) 5 ≡ tab (λ x. code_of (get_or b (at + x) 0) l) 5
    codes =
        tab_ext (λ x. w / 2 ^ (2 * l) / 2 ^ (8 * x) % 4) (λ x. code_of (get_or b (at + x) 0) l) 5
        (λ x q. code_at w l x h ∙ ap (λ (y : ℕ). code_of y l) (e x (omega arith)))

module _ (x : ℕ) (d : List ℕ) (at : ℕ) (h : at + 8 ≤ length d) where
  store : {l : List ℕ} {v : ℕ} (k : ℕ) → Swept (λ j. x / 2 ^ (8 * (j - at)) % 256) d l at (at + k) → k < 8 → v ≡ x / 2 ^ (8 * k) % 256
      → Swept (λ j. x / 2 ^ (8 * (j - at)) % 256) d (set l (at + k) v) at (at + (k + 1))
  store k w l e = let q : at + k - at ≡ k = omega arith in sweep_more _ w (omega arith) (omega arith) (rw q e) (omega arith)
