-- The laws of packing an image row by row.
--     Agrees w px from src i     the pixels of src from i on are the row's that begins at from, and white behind it
--     row_packed                 the bands of such a row are folded and the bytes beside them made anew: the row is packed
--     full_row, line_row         a row of full width agrees with itself, and so does a line that it was copied to
--     line_white    the line stays white behind the row
--     zero_line                  a line of zeros is white
--     image_binary     the pixels of an image are 0 or 1
--     rows_none, rows_more       the loop over the rows: at the start, after one more
--     packed_all                 zeros above, the rows, zeros below
-- Assumes nothing.
use mathlib.Core.Bool.{Bool, true, false, ◌&&◌}
use mathlib.Core.List.{List}
use mathlib.Core.Logic.{⊎_elim}
use mathlib.Core.Path.{◌≡◌, refl, ap, ◌∙◌}
use Prim.Native.Nat.{ℕ, zero, suc, ◌+◌, ◌-◌, ◌*◌, ◌≤◌, ◌<◌}
use native.Mathlib.Omega.{arith}
use borrow.Author.Tests.{ltb-true, le-leb, lt-leb, lt-ltb, le-ltb}
use lib.Dec.{ltb, eqb}
use lib.ListN.{length, get_or, replicate, length-replicate, get_or-replicate, get_or-eq_default}
use Rattle.operator.specs.Image.{IsImage}
use Rattle.operator.proofs.Image.{black_of, binary_value}
use Rattle.image.specs.Size.{max_side}
use Rattle.seq.specs.Bits.{bit}
use Rattle.seq.specs.Lists.{one}
use Rattle.seq.specs.Loops.{Swept}
use Rattle.seq.proofs.Bits.{bit_zero}
use Rattle.seq.proofs.Lists.{one_le}
use Rattle.seq.proofs.Tests.{lt_or_le}
use Rattle.filter.specs.Code.Plane.{band, halo, step, rim, within, framed_is, quad, folded, inside_at, Inside, White, row_is, Refreshed, RowPacked, RowsPacked, Packed}
use Rattle.filter.proofs.PlaneLaws.{quad_bits, refreshed_row}

-- the code of a pixel that lies inside or not
code_bits : (b : Bool) (x v : ℕ) → x ≤ one b → v < 2 → bit (x + one b) v ≡ (b && eqb x v)
unfolding bit
code_bits true zero zero p q = refl
code_bits true zero (suc zero) p q = refl
code_bits true zero (suc (suc v)) p q = absurd (omega arith)
code_bits true (suc zero) zero p q = refl
code_bits true (suc zero) (suc zero) p q = refl
code_bits true (suc zero) (suc (suc v)) p q = absurd (omega arith)
code_bits true (suc (suc x)) v p q = absurd (omega arith)
code_bits false zero zero p q = refl
code_bits false zero (suc zero) p q = refl
code_bits false zero (suc (suc v)) p q = absurd (omega arith)
code_bits false (suc x) v p q = absurd (omega arith)

pub record Agrees (w : ℕ) (px : List ℕ) (from : ℕ) (src : List ℕ) (i : ℕ) : Type 0 where
  pub small : (c : ℕ) → c < max_side → get_or src (i + c) 0 ≤ one (ltb c w)
  pub equal : (c : ℕ) → c < w → get_or src (i + c) 0 ≡ get_or px (from + c) 0

-- the code of column k of band m
abbrev code : ℕ → List ℕ → ℕ → ℕ → ℕ → ℕ
code w src i k m = get_or src (i + (band * m + k)) 0 + one (ltb (band * m + k) w)

folded_codes : (w : ℕ) (src : List ℕ) (i k : ℕ) → folded src i k + inside_at w k ≡ quad (code w src i k 0) (code w src i k 1) (code w src i k 2) (code w src i k 3)
folded_codes w src i k =
    let z : 0 + k ≡ k = omega arith in
    let a : i + (64 + k) ≡ i + 64 + k = omega arith in
    let b : i + (128 + k) ≡ i + 128 + k = omega arith in
    let c : i + (192 + k) ≡ i + 192 + k = omega arith in
    rw (z, a, b, c) (omega arith)

module _ {w : ℕ} {px : List ℕ} {from : ℕ} where
  code_small : {src : List ℕ} {i : ℕ} → Agrees w px from src i → (k m : ℕ) → k < band → m < 4 → code w src i k m < 3
  code_small g k m h a = omega (arith, g.small (band * m + k) (omega arith), one_le (ltb (band * m + k) w))

  folded_bits : {src : List ℕ} {i : ℕ} → Agrees w px from src i → (k n v : ℕ) → k < band → n < 4 → v < 2
      → bit (folded src i k + inside_at w k) (2 * n + v) ≡ (ltb (band * n + k) w && eqb (get_or px (from + (band * n + k)) 0) v)
  folded_bits {src} {i} g k n v h p q =
      ap (λ (x : ℕ). bit x (2 * n + v)) (folded_codes w src i k) ∙ quad_bits (code w src i k) (λ m a. omega (arith, code_small g k m h a)) n v p q
      ∙ code_bits (ltb C w) (get_or src (i + C) 0) v (g.small C (omega arith)) q ∙ same (ltb C w) refl
    where
      C : ℕ
      C = band * n + k

      same : (b : Bool) → ltb C w ≡ b → (b && eqb (get_or src (i + C) 0) v) ≡ (b && eqb (get_or px (from + C) 0) v)
      same true e = ap (λ (x : ℕ). eqb x v) (g.equal C (ltb-true C w e))
      same false e = refl

  pub row_packed : {src inside d e l : List ℕ} {i : ℕ} (to : ℕ) → w ≤ max_side → Agrees w px from src i → Inside w inside
      → Swept (λ j. folded src i (j - (to + halo)) + get_or inside (j - (to + halo)) 0) d e (to + halo) (to + halo + band) → Refreshed e l to
      → RowPacked w px from d l to
  unfolding row_is
  row_packed {src} {inside} {d} {e} {l} {i} to h g t s r =
      record {
        long = r.long ∙ s.long;
        coded = refreshed_row to (row_is w px from) r low high small coded;
        before = λ j a. r.before j a ∙ s.before j (omega arith);
        after = λ j a. r.after j a ∙ s.after j (omega arith);
      }
    where
      byte : (k : ℕ) → k < band → get_or e (to + halo + k) 0 ≡ folded src i k + inside_at w k
      byte k a =
          let q : to + halo + k - (to + halo) ≡ k = omega arith in
          (rw q at (s.inner (to + halo + k) (omega arith) (omega arith))) ∙ ap (λ (x : ℕ). folded src i k + x) (t.column k a)

      small : (k : ℕ) → k < band → get_or e (to + halo + k) 0 < 256
      small k a =
          let p : code w src i k 0 < 3 = code_small g k 0 a (omega arith) in
          let q : code w src i k 1 < 3 = code_small g k 1 a (omega arith) in
          let u : code w src i k 2 < 3 = code_small g k 2 a (omega arith) in
          let v : code w src i k 3 < 3 = code_small g k 3 a (omega arith) in
          omega (arith, byte k a, folded_codes w src i k)

      low : (v C : ℕ) → C < halo → row_is w px from v C ≡ false
      low v C a = rw (lt-leb halo C a)

      high : (v C : ℕ) → max_side + halo ≤ C → row_is w px from v C ≡ false
      high v C a = rw (le-leb halo C (omega arith), le-ltb (C - halo) w (omega arith))

      coded : (k n v : ℕ) → k < band → n < 4 → v < 2 → bit (get_or e (to + halo + k) 0) (2 * n + v) ≡ row_is w px from v (band * n + (halo + k))
      coded k n v a b c =
          let z : band * n + (halo + k) - halo ≡ band * n + k = omega arith in
          ap (λ (x : ℕ). bit x (2 * n + v)) (byte k a) ∙ folded_bits g k n v a b c ∙ rw (le-leb halo (band * n + (halo + k)) (omega arith), z)

  module _ (binary : (j : ℕ) → get_or px j 0 ≤ 1) where
    pub full_row : w ≡ max_side → Agrees w px from px from
    full_row e = record { small = λ c a. rw (lt-ltb c w (omega arith)) (binary (from + c)); equal = λ c a. refl }

    pub line_row : {b l : List ℕ} → Swept (λ j. get_or px (from + (j - 0)) 0) b l 0 (0 + w) → White w b → Agrees w px from l 0
    line_row {b} {l} s t = record { small = λ c a. ⊎_elim (inner c) (outer c) (lt_or_le c w); equal = equal }
      where
        equal : (c : ℕ) → c < w → get_or l (0 + c) 0 ≡ get_or px (from + c) 0
        equal c a =
            let e : from + (0 + c - 0) ≡ from + c = omega arith in
            rw e at (s.inner (0 + c) (omega arith) (omega arith))

        inner : (c : ℕ) → c < w → get_or l (0 + c) 0 ≤ one (ltb c w)
        inner c a = rw (lt-ltb c w a, equal c a) (binary (from + c))

        outer : (c : ℕ) → w ≤ c → get_or l (0 + c) 0 ≤ one (ltb c w)
        outer c a = omega (arith, s.after (0 + c) (omega arith), t.behind (0 + c) (omega arith))

pub line_white : {f : ℕ → ℕ} {w : ℕ} {b l : List ℕ} → Swept f b l 0 (0 + w) → White w b → White w l
line_white s t = record { behind = λ j a. s.after j (omega arith) ∙ t.behind j a }

pub zero_line : (n w : ℕ) → White w (replicate n 0)
zero_line n w = record { behind = λ j a. ⊎_elim (λ q. get_or-replicate n j 0 0 q) (λ q. get_or-eq_default (replicate n 0) 0 (rw (length-replicate n) q)) (lt_or_le j n) }

pub image_binary : {w h : ℕ} {img : List ℕ} → IsImage w h img → (j : ℕ) → get_or img j 0 ≤ 1
image_binary {img = img} m j = rw (binary_value m j) (one_le (black_of img j))

pub rows_none : (w : ℕ) (img d : List ℕ) → RowsPacked w img 0 d d
rows_none w img d = record { long = refl; rows = λ r k i v a. absurd (omega arith); above = λ j a. refl; below = λ j a. refl }

pub rows_more : {w from to : ℕ} {img d m l : List ℕ} (r : ℕ) → RowsPacked w img r d m → from ≡ r * w → to ≡ step * (rim + r) → RowPacked w img from m l to
    → RowsPacked w img (r + 1) d l
rows_more {w} {from} {to} {img} {d} {m} {l} r s f g t =
    record {
      long = t.long ∙ s.long;
      rows = rows;
      above = λ j a. t.before j (omega arith) ∙ s.above j a;
      below = λ j a. t.after j (omega arith) ∙ s.below j (omega arith);
    }
  where
    rows : (q k i v : ℕ) → q < r + 1 → k < step → i < 4 → v < 2 → bit (get_or l (step * (rim + q) + k) 0) (2 * i + v) ≡ row_is w img (q * w) v (band * i + k)
    rows q k i v a b c e = ⊎_elim old new (lt_or_le q r)
      where
        old : q < r → bit (get_or l (step * (rim + q) + k) 0) (2 * i + v) ≡ row_is w img (q * w) v (band * i + k)
        old u = ap (λ (x : ℕ). bit x (2 * i + v)) (t.before (step * (rim + q) + k) (omega arith)) ∙ s.rows q k i v u b c e

        new : r ≤ q → bit (get_or l (step * (rim + q) + k) 0) (2 * i + v) ≡ row_is w img (q * w) v (band * i + k)
        new u =
            let z : q ≡ r = omega arith in
            rw (z, ← f, ← g) (t.coded k i v b c e)

pub packed_all : {w h : ℕ} {img a b m l : List ℕ} {k : ℕ} → Swept (λ j. 0) a b 0 (0 + rim * step) → RowsPacked w img h b m → k ≡ (rim + h) * step
    → Swept (λ j. 0) m l k (k + rim * step) → step * (h + 2 * rim) ≤ length a → Packed w h img l
unfolding framed_is row_is
packed_all {w} {h} {img} {a} {b} {m} {l} {k} s t e u room =
    record {
      long = omega (arith, u.long, t.long, s.long);
      coded = λ R k i v p q c d. ⊎_elim (above R k i v q) (λ f. ⊎_elim (inner R k i v f q c d) (below R k i v p q) (lt_or_le R (rim + h))) (lt_or_le R rim);
    }
  where
    outside : (R C v : ℕ) (x i : ℕ) → x ≡ 0 → within rim h R ≡ false → bit x i ≡ framed_is w h img v R C
    outside R C v x i z f = rw (z, f) (bit_zero i)

    above : (R k i v : ℕ) → k < step → R < rim → bit (get_or l (step * R + k) 0) (2 * i + v) ≡ framed_is w h img v R (band * i + k)
    above R k i v q f =
        outside R (band * i + k) v _ (2 * i + v)
        (u.before (step * R + k) (omega arith) ∙ t.above (step * R + k) (omega arith) ∙ s.inner (step * R + k) (omega arith) (omega arith))
        (rw (lt-leb rim R f))

    below : (R k i v : ℕ) → R < h + 2 * rim → k < step → rim + h ≤ R → bit (get_or l (step * R + k) 0) (2 * i + v) ≡ framed_is w h img v R (band * i + k)
    below R k i v p q f =
        outside R (band * i + k) v _ (2 * i + v) (u.inner (step * R + k) (omega arith) (omega arith))
        (rw (le-leb rim R (omega arith), le-ltb (R - rim) h (omega arith)))

    inner : (R k i v : ℕ) → rim ≤ R → k < step → i < 4 → v < 2 → R < rim + h
        → bit (get_or l (step * R + k) 0) (2 * i + v) ≡ framed_is w h img v R (band * i + k)
    inner R k i v f q c d g =
        let z : rim + (R - rim) ≡ R = omega arith in
        ap (λ (x : ℕ). bit x (2 * i + v)) (u.before (step * R + k) (omega arith))
        ∙ (rw z at (t.rows (R - rim) k i v (omega arith) q c d))
        ∙ rw (le-leb rim R f, lt-ltb (R - rim) h (omega arith))
