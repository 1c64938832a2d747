-- Codes exchanged where the pixel changes (the module `turn`).
--     toggled x f m v                    code v of lane m of a byte x, exchanged where a flip stands in f
--     exchanged_more     one byte more
--     row_packed                         the plane after one row more is turned
-- Assumes nothing.
use mathlib.Core.Bool.{Bool, true, false, cond, not, ◌&&◌, ◌||◌}
use mathlib.Core.List.{List}
use mathlib.Core.Logic.{⊎_elim}
use mathlib.Core.Path.{◌≡◌, refl, sym, ap, ap₂, ◌∙◌}
use Prim.Native.Nat.{ℕ, zero, suc, ◌+◌, ◌-◌, ◌*◌, ◌≤◌, ◌<◌}
use native.Mathlib.Nat.{eq-or-lt_of_le}
use native.Mathlib.Omega.{arith}
use borrow.Author.Tests.{lt-ltb, le-ltb, le-leb, ltb-true, leb-true}
use lib.Bits.{bit_or, bit_xor}
use lib.Dec.{leb, ltb, eqb}
use lib.ListN.{length, get_or, set, length-set}
use lib.Seq.{get_or-set_same, get_or-set_other}
use Rattle.seq.specs.Bits.{bit}
use Rattle.seq.specs.Lists.{same}
use Rattle.seq.proofs.Bits.{bit_or_lem, bit_xor_lem}
use Rattle.seq.proofs.Lists.{not_true_false, and_left, and_right}
use Rattle.seq.proofs.Members.{and_cong}
use Rattle.seq.proofs.Tests.{lt_or_le}
use Rattle.image.specs.Size.{max_side}
use Rattle.image.proofs.PixelsOf.{binary_at}
use Rattle.operator.specs.Image.{pixel, IsImage}
use Rattle.filter.specs.Code.Plane.{band, halo, step, rim, in_frame, within, framed_is, Packed}
use Rattle.filter.specs.Code.Turn.{flip_is, turned, Exchanged, RowTurned}
use Rattle.filter.proofs.PlaneLaws.{refreshed_row}
use Rattle.filter.proofs.TurnImage.{before, passed, turned_at, turned_at_lem}

abbrev pub toggled : ℕ → ℕ → ℕ → ℕ → Bool
toggled x f m v = not (same (bit x (2 * m + v)) (bit f (2 * m + v) || bit f (2 * m + (1 - v))))

module _ {flips : List ℕ} {from : ℕ} {d l : List ℕ} {at n : ℕ} (s : Exchanged flips from d l at n) (room : at + n < length d) (o : ℕ)
    (opposite : (m v : ℕ) → m < 4 → v < 2 → bit o (2 * m + v) ≡ bit (get_or flips (from + n) 0) (2 * m + (1 - v))) where
  abbrev toggled_byte : ℕ
  toggled_byte = bit_xor (get_or l (at + n) 0) (bit_or (get_or flips (from + n) 0) o)

  abbrev stored : List ℕ
  stored = set l (at + n) toggled_byte

  kept : (j : ℕ) → (j ≡ at + n → ⊥) → get_or stored j 0 ≡ get_or l j 0
  kept j q = get_or-set_other l (at + n) j toggled_byte 0 q

  here : (m v : ℕ) → m < 4 → v < 2 → bit (get_or stored (at + n) 0) (2 * m + v) ≡ toggled (get_or d (at + n) 0) (get_or flips (from + n) 0) m v
  here m v p q =
      rw (get_or-set_same l (at + n) toggled_byte 0 (omega (arith, s.long)), bit_xor_lem, bit_or_lem, opposite m v p q, s.after (at + n) (omega arith))

  pub exchanged_more : Exchanged flips from d (set l (at + n) (bit_xor (get_or l (at + n) 0) (bit_or (get_or flips (from + n) 0) o))) at (n + 1)
  exchanged_more = record {
    long = length-set l (at + n) _ ∙ s.long;
    coded = coded;
    before = λ j p. kept j (omega arith) ∙ s.before j p;
    after = λ j p. kept j (omega arith) ∙ s.after j (omega arith);
  }
    where
      coded : (k m v : ℕ) → k < n + 1 → m < 4 → v < 2
          → bit (get_or stored (at + k) 0) (2 * m + v) ≡ toggled (get_or d (at + k) 0) (get_or flips (from + k) 0) m v
      coded k m v p q r =
          ⊎_elim (λ e. rw e (here m v q r)) (λ b. ap (λ (x : ℕ). bit x (2 * m + v)) (kept (at + k) (omega arith)) ∙ s.coded k m v b q r) (eq-or-lt_of_le (omega arith))

-- a code of value v, of a pixel x that lies inside or not and changes or not
toggled_code : (b : Bool) (x v : ℕ) (s : Bool) → x ≤ 1 → v < 2
    → not (same (b && eqb x v) ((b && (eqb x (1 - v) && s)) || (b && (eqb x (1 - (1 - v)) && s)))) ≡ (b && eqb (cond s (1 - x) x) v)
toggled_code false x v s p q = refl
toggled_code true zero zero true p q = refl
toggled_code true zero zero false p q = refl
toggled_code true zero (suc zero) true p q = refl
toggled_code true zero (suc zero) false p q = refl
toggled_code true zero (suc (suc v)) s p q = absurd (omega arith)
toggled_code true (suc zero) zero true p q = refl
toggled_code true (suc zero) zero false p q = refl
toggled_code true (suc zero) (suc zero) true p q = refl
toggled_code true (suc zero) (suc zero) false p q = refl
toggled_code true (suc zero) (suc (suc v)) s p q = absurd (omega arith)
toggled_code true (suc (suc x)) v s p q = absurd (omega arith)

inside : (w h R C : ℕ) → in_frame w h R C ≡ true → (rim ≤ R) × (R - rim < h) × (halo ≤ C) × (C - halo < w)
inside w h R C t =
    let a = along rim h R (and_left (within rim h R) (within halo w C) t) in
    let b = along halo w C (and_right (within rim h R) (within halo w C) t) in
    (a.0, a.1, b.0, b.1)
  where
    along : (m size j : ℕ) → within m size j ≡ true → (m ≤ j) × (j - m < size)
    along m size j e = (leb-true m j (and_left _ _ e), ltb-true (j - m) size (and_right (leb m j) _ e))

module _ (w h : ℕ) where
  -- the codes of row n, inside and beside it
  framed_row : (img : List ℕ) (v n c : ℕ) → n < h → framed_is w h img v (n + rim) (halo + c) ≡ (ltb c w && eqb (pixel w img n c) v)
  unfolding framed_is
  framed_row img v n c l =
      let r : n + rim - rim ≡ n = omega arith in
      let k : halo + c - halo ≡ c = omega arith in
      rw (r, k, le-leb rim (n + rim) (omega arith), le-leb halo (halo + c) (omega arith), lt-ltb n h l)

  framed_beside : (img : List ℕ) (v R C : ℕ) → (halo ≤ C → C < halo + w → ⊥) → framed_is w h img v R C ≡ false
  unfolding framed_is
  framed_beside img v R C b =
      not_true_false _ (λ t. let s = inside w h R C (and_left (in_frame w h R C) _ t) in b s.2 (omega arith))

  -- two images of which the plane has the same codes in a row
  framed_same : (a b : List ℕ) (v R C : ℕ) → ((r c : ℕ) → R ≡ r + rim → r < h → c < w → pixel w a r c ≡ pixel w b r c)
      → framed_is w h a v R C ≡ framed_is w h b v R C
  unfolding framed_is
  framed_same a b v R C e =
      and_cong (in_frame w h R C)
      (λ t. let s = inside w h R C t in
      ap (λ (x : ℕ). eqb x v) (e (R - rim) (C - halo) (omega arith) s.1 s.3))

module _ (S : ℕ → ℕ → Bool) {w h : ℕ} {img : List ℕ} (i : IsImage w h img) (narrow : w ≤ max_side) {n : ℕ} (below : n < h) where
  abbrev old : List ℕ
  old = turned (before n S) w h img

  abbrev new : List ℕ
  new = turned (before (n + 1) S) w h img

  old_row : (c : ℕ) → c < w → pixel w old n c ≡ pixel w img n c
  old_row c l = turned_at_lem w h img (before n S) n c below l ∙ rw (le-ltb n n (omega arith))

  new_row : (c : ℕ) → c < w → pixel w new n c ≡ turned_at S w img n c
  new_row c l = turned_at_lem w h img (before (n + 1) S) n c below l ∙ rw (lt-ltb n (n + 1) (omega arith))

  other_row : (r c : ℕ) → (r ≡ n → ⊥) → r < h → c < w → pixel w old r c ≡ pixel w new r c
  other_row r c q p l =
      turned_at_lem w h img (before n S) r c p l
      ∙ ap (λ (b : Bool). cond (b && S r c) (1 - pixel w img r c) (pixel w img r c)) (passed r n q)
      ∙ sym (turned_at_lem w h img (before (n + 1) S) r c p l)

  module _ {flips d l : List ℕ} (packed : Packed w h old d) (t : RowTurned flips (n * band) d l ((n + rim) * step))
      (flipped : (k m v : ℕ) → k < band → m < 4 → v < 2 → bit (get_or flips (band * n + k) 0) (2 * m + v) ≡ flip_is S w img v n (band * m + k)) where
    -- the codes of the bands, before and after
    abbrev start : ℕ
    start = (n + rim) * step

    coded : (k m v : ℕ) → k < band → m < 4 → v < 2
        → bit (get_or t.bands (start + halo + k) 0) (2 * m + v) ≡ framed_is w h new v (n + rim) (band * m + (halo + k))
    unfolding flip_is
    coded k m v p q r =
        t.exchanged.coded k m v p q r
        ∙ ap₂ (λ (a b : Bool). not (same a b)) found (ap₂ ◌||◌ (flip v r) (flip (1 - v) (omega arith)))
        ∙ toggled_code (ltb c w) (pixel w img n c) v (S n c) (binary_at img (n * w + c) i.binary) r
        ∙ sym (at_row new ∙ and_cong (ltb c w) (λ e. ap (λ (x : ℕ). eqb x v) (new_row c (ltb-true c w e))))
      where
        c : ℕ
        c = band * m + k

        at_row : (a : List ℕ) → framed_is w h a v (n + rim) (band * m + (halo + k)) ≡ (ltb c w && eqb (pixel w a n c) v)
        at_row a = let e : band * m + (halo + k) ≡ halo + c = omega arith in rw e (framed_row w h a v n c below)

        flip : (u : ℕ) → u < 2 → bit (get_or flips (n * band + k) 0) (2 * m + u) ≡ (ltb c w && (eqb (pixel w img n c) (1 - u) && S n c))
        flip u z = let e : n * band + k ≡ band * n + k = omega arith in rw e (flipped k m u p q z)

        found : bit (get_or d (start + halo + k) 0) (2 * m + v) ≡ (ltb c w && eqb (pixel w img n c) v)
        found =
            let e : start + halo + k ≡ step * (n + rim) + (halo + k) = omega arith in
            rw e
            (packed.coded (n + rim) (halo + k) m v (omega arith) (omega arith) q r
            ∙ at_row old
            ∙ and_cong (ltb c w) (λ b. ap (λ (x : ℕ). eqb x v) (old_row c (ltb-true c w b))))

    pub row_packed : Packed w h new l
    row_packed = record { long = omega (arith, packed.long, t.exchanged.long, t.refreshed.long); coded = codes }
      where
        here : (k m v : ℕ) → k < step → m < 4 → v < 2 → bit (get_or l (step * (n + rim) + k) 0) (2 * m + v) ≡ framed_is w h new v (n + rim) (band * m + k)
        here k m v p q r =
            let e : step * (n + rim) + k ≡ start + k = omega arith in
            rw e
            (refreshed_row start (λ u C. framed_is w h new u (n + rim) C) t.refreshed
            (λ u C a. framed_beside w h new u (n + rim) C (λ y z. omega arith))
            (λ u C a. framed_beside w h new u (n + rim) C (λ y z. omega arith))
            (λ j a. t.bytes (start + halo + j)) coded k m v p q r)

        away : (R k m v : ℕ) → (R ≡ n + rim → ⊥) → R < h + 2 * rim → k < step → m < 4 → v < 2 → get_or l (step * R + k) 0 ≡ get_or d (step * R + k) 0
            → bit (get_or l (step * R + k) 0) (2 * m + v) ≡ framed_is w h new v R (band * m + k)
        away R k m v z b p q r e =
            ap (λ (x : ℕ). bit x (2 * m + v)) e
            ∙ packed.coded R k m v b p q r
            ∙ framed_same w h old new v R (band * m + k) (λ y c f g a. other_row y c (λ u. z (omega arith)) g a)

        codes : (R k m v : ℕ) → R < h + 2 * rim → k < step → m < 4 → v < 2 → bit (get_or l (step * R + k) 0) (2 * m + v) ≡ framed_is w h new v R (band * m + k)
        codes R k m v b p q r =
            ⊎_elim
            (λ a. away R k m v (omega arith) b p q r (t.refreshed.before _ (omega arith) ∙ t.exchanged.before _ (omega arith)))
            (λ a. ⊎_elim (λ e. rw e at (here k m v p q r))
            (λ g. away R k m v (omega arith) b p q r (t.refreshed.after _ (omega arith) ∙ t.exchanged.after _ (omega arith))) (eq-or-lt_of_le a))
            (lt_or_le R (n + rim))
