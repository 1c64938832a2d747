-- Pixels that are packed into bytes, a byte bit by bit and a row byte by byte.
--     packed_bits          the byte of eight values is their number
--     packing_more, packing_small, packing_all    a loop over a byte's bits, of which b has the highest k: a value more, a bound, and its end, past which all values are 0
--     pixel_small, packed_ext    a pixel is at most 1; bytes of equal values are equal
--     pack_more, pack_rest, pack_all    a loop over a row's bytes: a whole byte, the byte with the rest of the row, its end
-- Assumes nothing.
use mathlib.Core.Bool.{Bool, true, false, cond}
use mathlib.Core.List.{List}
use mathlib.Core.Logic.{◌⊎◌, inl, inr, ⊎_elim}
use mathlib.Core.Path.{◌≡◌, refl, sym, ap, ◌∙◌}
use Prim.Native.Nat.{ℕ, suc, ◌+◌, ◌-◌, ◌*◌, ◌/◌, ◌%◌, ◌^◌, ◌≤◌, ◌<◌}
use native.Mathlib.Nat.{mod-eq_of_lt, mul-add, mul-le-mul_right, mul-lt-mul_of_pos_right, pow-suc}
use native.Mathlib.Numerals.{add-one}
use native.Mathlib.Omega.{arith}
use lib.Dec.{ltb, lit<}
use lib.ListN.{length, get_or, take, drop, set, length-take, length-drop, get_or-eq_default}
use lib.Pow.{pow_pos, pow_mono, pow-add}
use lib.Seq.{get_or-take, get_or-drop}
use Rattle.image.specs.Code.Rows.{Binary, packed_row}
use Rattle.image.specs.File.{in_row, packed}
use Rattle.image.specs.Size.{row_bytes}
use Rattle.seq.proofs.HighFirst.{bits_value, bits_lt, bits_zeros}
use Rattle.seq.proofs.Tab.{fill_more, fill_whole}
use Rattle.seq.proofs.Tests.{lt_or_le}
use Rattle.seq.specs.Tab.{tab, Filled}

-- the byte of eight values is their number
pub packed_bits : (v : ℕ → ℕ) → bits_value v 8 ≡ packed v
unfolding bits_value
packed_bits v = omega arith

module _ (v : ℕ → ℕ) (small : (k : ℕ) → v k ≤ 1) {b k : ℕ} (s : b ≡ bits_value v k * 2 ^ (8 - k)) where
  pub packing_more : {a : ℕ} → a ≡ v k → k < 8 → b + a * 2 ^ (7 - k) % 256 ≡ bits_value v (k + 1) * 2 ^ (8 - (k + 1))
  unfolding bits_value
  packing_more {a} e l =
      let here : 8 - k ≡ suc (7 - k) = omega arith in
      let next : 8 - (k + 1) ≡ 7 - k = omega arith in
      let place : 2 ^ (7 - k) ≤ 128 = pow_mono {i = 7 - k} {j = 7} (omega arith) in
      let bit : v k * 2 ^ (7 - k) ≤ 1 * 2 ^ (7 - k) = mul-le-mul_right (2 ^ (7 - k)) (small k) in
      rw (next, add-one, e, mod-eq_of_lt {n = v k * 2 ^ (7 - k)} {m = 256} (omega (arith, place, bit)))
      (omega (arith, rw (here, pow-suc) at s, mul-add (2 ^ (7 - k)) (2 * bits_value v k) (v k)))

  pub packing_small : k ≤ 8 → b < 256
  packing_small l =
      let eight : 8 ≡ k + (8 - k) = omega arith in
      let whole : 256 ≡ 2 ^ k * 2 ^ (8 - k) = ap (λ (n : ℕ). 2 ^ n) eight ∙ pow-add 2 k (8 - k) in
      omega (arith, s, whole, mul-lt-mul_of_pos_right (bits_lt v small k) (pow_pos (8 - k)))

  pub packing_all : k ≤ 8 → ((j : ℕ) → k ≤ j → v j ≡ 0) → b ≡ packed v
  packing_all l zero =
      let whole : k + (8 - k) ≡ 8 = omega arith in
      s ∙ sym (bits_zeros v k (8 - k) (λ j p q. zero j p)) ∙ ap (bits_value v) whole ∙ packed_bits v

cond_small : (t : Bool) (n : ℕ) → n ≤ 1 → cond t n 0 ≤ 1
cond_small true n h = h
cond_small false n h = omega arith

pub pixel_small : {px : List ℕ} → Binary px → (w row col : ℕ) → in_row w px row col ≤ 1
pixel_small {px} b w row col = cond_small (ltb col w) (get_or px (row * w + col) 0) (b.small (row * w + col))

pub packed_ext : (u v : ℕ → ℕ) → ((k : ℕ) → k < 8 → u k ≡ v k) → packed u ≡ packed v
packed_ext u v h =
    let a : (u 0 ≡ v 0) × (u 1 ≡ v 1) × (u 2 ≡ v 2) × (u 3 ≡ v 3) = (h 0 (lit< tt), h 1 (lit< tt), h 2 (lit< tt), h 3 (lit< tt)) in
    let b : (u 4 ≡ v 4) × (u 5 ≡ v 5) × (u 6 ≡ v 6) × (u 7 ≡ v 7) = (h 4 (lit< tt), h 5 (lit< tt), h 6 (lit< tt), h 7 (lit< tt)) in
    omega arith

-- the byte of eight pixels, or of all that are left, is the row's byte
byte_is : (row : List ℕ) (j n : ℕ) → (n ≡ 8) ⊎ (n ≡ length row - 8 * j) → packed (λ k. get_or (take n (drop (8 * j) row)) k 0) ≡ packed_row row j
byte_is row j n e = packed_ext (λ k. get_or (take n (drop (8 * j) row)) k 0) (λ k. get_or row (8 * j + k) 0) (λ k b. ⊎_elim (inner k) (past k b) (lt_or_le k n))
  where
    inner : (k : ℕ) → k < n → get_or (take n (drop (8 * j) row)) k 0 ≡ get_or row (8 * j + k) 0
    inner k l = get_or-take n (drop (8 * j) row) k 0 l ∙ get_or-drop (8 * j) row k 0

    past : (k : ℕ) → k < 8 → n ≤ k → get_or (take n (drop (8 * j) row)) k 0 ≡ get_or row (8 * j + k) 0
    past k b l =
        let left : n ≡ length row - 8 * j = ⊎_elim (λ q. absurd (omega arith)) (λ q. q) e in
        get_or-eq_default (take n (drop (8 * j) row)) 0 (simp (length-take, length-drop) (omega arith))
        ∙ sym (get_or-eq_default row 0 (omega arith))

module _ (row : List ℕ) {d out : List ℕ} {j : ℕ} (s : Filled (packed_row row) d out j) (n : length d ≡ row_bytes (length row)) where
  pub pack_more : {b : ℕ} → j < length row / 8 → b ≡ packed (λ k. get_or (take (8 * j + 8 - 8 * j) (drop (8 * j) row)) k 0)
      → Filled (packed_row row) d (set out j b) (j + 1)
  unfolding row_bytes
  pack_more l e =
      let eight : 8 * j + 8 - 8 * j ≡ 8 = omega arith in
      fill_more s (omega (arith, n)) (e ∙ byte_is row j _ (inl eight))

  pub pack_rest : {b : ℕ} → j ≡ length row / 8 → length row / 8 < length d
      → b ≡ packed (λ k. get_or (take (length row - 8 * (length row / 8)) (drop (8 * (length row / 8)) row)) k 0)
      → set out (length row / 8) b ≡ tab (packed_row row) (length d)
  unfolding row_bytes
  pack_rest q l e =
      let end : length row / 8 + 1 ≡ length d = omega (arith, n) in
      fill_whole (rw end at (fill_more (rw q at s) l (e ∙ byte_is row (length row / 8) _ (inr refl))))

  pub pack_all : j ≡ length row / 8 → length d ≤ length row / 8 → out ≡ tab (packed_row row) (length d)
  unfolding row_bytes
  pack_all q l = let end : j ≡ length d = omega (arith, n) in fill_whole (rw end at s)
