-- The element test: a window as a mask, and elements against it.
--     row_bits row v            which values of a row have bit v, as five bits
--     row_bits_lem       the code's way from five bytes to five bits
--     mask_bits                the rows' bits, one row above the other, are those of the window
--     matched_within           elements against the mask of a window
-- Assumes nothing.
use mathlib.Core.Bool.{Bool, true}
use mathlib.Core.List.{List, [], ◌∷◌}
use mathlib.Core.Path.{◌≡◌, refl, sym, ap, ap₂, ◌∙◌}
use Prim.Native.Nat.{ℕ, zero, suc, ◌+◌, ◌*◌, ◌/◌, ◌%◌, ◌^◌, ◌<◌}
use native.Mathlib.Omega.{arith}
use borrow.Author.Tests.{eqb-true}
use lib.Bits.{bit_and, and_block, and_mask, and_zero_r}
use lib.Dec.{eqb}
use lib.ListN.{get_or}
use Rattle.operator.specs.Preview.{from_bits}
use Rattle.operator.specs.Window.{window_at}
use Rattle.seq.specs.Bits.{bit}
use Rattle.seq.specs.Lists.{any, all, one}
use Rattle.seq.specs.Tab.{tab, up_to}
use Rattle.table.specs.Mask.{position_count, largest_mask, positions, valid_mask}
use Rattle.operator.proofs.Pattern.{bits_tab}
use Rattle.seq.proofs.Bits.{one_digit, all_and}
use Rattle.seq.proofs.Lists.{one_le, any_ext, all_elim}
use Rattle.seq.proofs.Tab.{up_to_test}
use Rattle.seq.proofs.Tests.{between}
use Rattle.filter.specs.Code.Elements.{matched}

abbrev pub row_bits : List ℕ → ℕ → ℕ
row_bits row v = from_bits (tab (λ x. one (bit (get_or row x 0) v)) 5)

-- bytes as a number, the first the lowest
abbrev from_bytes : List ℕ → ℕ
from_bytes [] = 0
from_bytes (b ∷ bs) = b + 256 * from_bytes bs

-- the lowest bit of each of k bytes
abbrev each_byte : ℕ → ℕ
each_byte zero = 0
each_byte (suc k) = each_byte k * 256 + 1

-- the lowest k bits of a number in a byte each
abbrev spread : ℕ → ℕ → ℕ
spread zero n = 0
spread (suc k) n = n % 2 + 256 * spread k (n / 2)

-- the lowest byte against 1, and the rest
and_low : (x m : ℕ) → bit_and x (m * 256 + 1) ≡ x % 2 + 256 * bit_and (x / 256) m
and_low x m =
    let e : x ≡ x / 256 * 256 + x % 256 = omega arith in
    ap (λ (y : ℕ). bit_and y (m * 256 + 1)) e
    ∙ and_block 8 (x / 256) m (x % 256) 1 (omega arith) (omega arith)
    ∙ ap (λ (y : ℕ). bit_and (x / 256) m * 256 + y) (and_mask (x % 256) 1)
    ∙ omega arith

and_byte : (a r v m : ℕ) → a < 256 → v < 2 → bit_and ((a + 256 * r) / 2 ^ v) (m * 256 + 1) ≡ one (bit a v) + 256 * bit_and (r / 2 ^ v) m
unfolding bit
and_byte a r v m la lv =
    and_low ((a + 256 * r) / 2 ^ v) m
    ∙ ap₂ (λ (x y : ℕ). x + 256 * bit_and y m) (first v lv ∙ sym (one_digit (a / 2 ^ v % 2) (omega arith))) (rest v lv)
  where
    first : (v : ℕ) → v < 2 → (a + 256 * r) / 2 ^ v % 2 ≡ a / 2 ^ v % 2
    first zero l = omega arith
    first (suc zero) l = omega arith
    first (suc (suc v)) l = absurd (omega arith)

    rest : (v : ℕ) → v < 2 → (a + 256 * r) / 2 ^ v / 256 ≡ r / 2 ^ v
    rest zero l = omega arith
    rest (suc zero) l = omega arith
    rest (suc (suc v)) l = absurd (omega arith)

-- bit v of each of k bytes
and_bytes : (f : ℕ → ℕ) (v k : ℕ) → v < 2 → ((i : ℕ) → i < k → f i < 256)
    → bit_and (from_bytes (tab f k) / 2 ^ v) (each_byte k) ≡ from_bytes (tab (λ i. one (bit (f i) v)) k)
and_bytes f v zero lv h = and_zero_r (0 / 2 ^ v)
and_bytes f v (suc k) lv h =
    and_byte (f 0) (from_bytes (tab (λ i. f (suc i)) k)) v (each_byte k) (h 0 (omega arith)) lv
    ∙ ap (λ (x : ℕ). one (bit (f 0) v) + 256 * x) (and_bytes (λ i. f (suc i)) v k lv (λ i l. h (suc i) (omega arith)))

-- these are the bits of one number
spread_bits : (p : ℕ → Bool) (k : ℕ) → from_bytes (tab (λ i. one (p i)) k) ≡ spread k (from_bits (tab (λ i. one (p i)) k))
spread_bits p zero = refl
spread_bits p (suc k) =
    let n = from_bits (tab (λ i. one (p (suc i))) k) in
    let r = one_le (p 0) in
    let q : (one (p 0) + 2 * n) / 2 ≡ n = omega arith in
    rw q (omega (arith, spread_bits (λ i. p (suc i)) k))

-- the code's product brings five bits together that stand in a byte each
abbrev together : ℕ → ℕ
together x = x * 270549121 / 268435456 % 32

together_bits : (n : ℕ) → n < 32 → together (spread 5 n) ≡ n
unfolding up_to
together_bits n l = eqb-true _ _ (up_to_test (λ n. eqb (together (spread 5 n)) n) 32 refl n l)

-- the code's sum of five bytes
abbrev five : ℕ → ℕ → ℕ → ℕ → ℕ → ℕ
five a b c d e = a + 256 * b + 65536 * c + 16777216 * d + 4294967296 * e

abbrev Byte : ℕ → ℕ → Type 0
Byte a x = (a ≡ x) × (a < 256)

module _ (row : List ℕ) (v : ℕ) {a b c d e : ℕ} (lv : v < 2) (ha : Byte a (get_or row 0 0)) (hb : Byte b (get_or row 1 0)) (hc : Byte c (get_or row 2 0))
    (hd : Byte d (get_or row 3 0)) (he : Byte e (get_or row 4 0)) where
  row_lt : row_bits row v < 32
  row_lt =
      omega
      (arith, one_le (bit (get_or row 0 0) v), one_le (bit (get_or row 1 0) v), one_le (bit (get_or row 2 0) v), one_le (bit (get_or row 3 0) v), one_le (bit (get_or row 4 0) v))

  row_byte_lem : (i : ℕ) → i < 5 → get_or row i 0 < 256
  row_byte_lem zero l = omega arith
  row_byte_lem (suc zero) l = omega arith
  row_byte_lem (suc (suc zero)) l = omega arith
  row_byte_lem (suc (suc (suc zero))) l = omega arith
  row_byte_lem (suc (suc (suc (suc zero)))) l = omega arith
  row_byte_lem (suc (suc (suc (suc (suc i))))) l = absurd (omega arith)

  picked : bit_and (five a b c d e / 2 ^ v) (each_byte 5) ≡ spread 5 (row_bits row v)
  picked =
      let s : five a b c d e ≡ from_bytes (tab (λ i. get_or row i 0) 5) = omega arith in
      rw s (and_bytes (λ i. get_or row i 0) v 5 lv row_byte_lem ∙ spread_bits (λ i. bit (get_or row i 0) v) 5)

  pub row_bits_lem : (x : ℕ) → x ≡ together (bit_and (five a b c d e / 2 ^ v) (each_byte 5)) → (x ≡ row_bits row v) × (x < 32)
  row_bits_lem x q =
      let s : x ≡ row_bits row v = q ∙ ap together picked ∙ together_bits (row_bits row v) row_lt in
      (s, omega (arith, row_lt))

-- five rows, each above the one before, are the 25 positions
pub mask_bits : (win : List (List ℕ)) (v : ℕ) {a b c d e : ℕ} → a ≡ row_bits (get_or win 0 []) v → b ≡ row_bits (get_or win 1 []) v → c ≡ row_bits (get_or win 2 []) v
    → d ≡ row_bits (get_or win 3 []) v → e ≡ row_bits (get_or win 4 []) v
    → (n : ℕ) → n < position_count → bit (a + 32 * b + 1024 * c + 32768 * d + 1048576 * e) n ≡ bit (window_at win n) v
mask_bits win v {a} {b} {c} {d} {e} ha hb hc hd he n l =
    ap (λ (m : ℕ). bit m n) whole ∙ bits_tab (λ n. bit (window_at win n) v) position_count n l
  where
    whole : a + 32 * b + 1024 * c + 32768 * d + 1048576 * e ≡ from_bits (tab (λ n. one (bit (window_at win n) v)) position_count)
    whole = omega arith

pub matched_within : (es : List ℕ) → all valid_mask es ≡ true → (win : List (List ℕ)) (v m : ℕ)
    → ((n : ℕ) → n < position_count → bit m n ≡ bit (window_at win n) v) → any (λ e. eqb (bit_and e m) e) es ≡ matched es win v
unfolding matched positions valid_mask
matched_within es valid win v m h =
    any_ext (λ e. eqb (bit_and e m) e) (λ e. all (λ n. bit (window_at win n) v) (positions e)) es
    (λ e i. let r = between 1 e largest_mask (all_elim valid_mask valid i) in
    sym (all_and (λ n. bit (window_at win n) v) position_count e m (omega arith) h))
