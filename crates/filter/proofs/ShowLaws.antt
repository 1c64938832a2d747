-- The plane's rows as pixels again.
--     Unfolding plane d l from to s     where the loop that unfolds a row stands after s stores: store 4 k + n is the pixel of lane n of byte k
--     unfold_more, unfold_all     one store, its end
--     coded_pixel                       the code's bit for the value 1 is the pixel
--     shown_more, shown_row, shown_skip     one row more: any, one with a mark, one with none
--     Showing w h marks plane d l r from to     where the walk along the rows stands at row r
--     showing_next, showing_row, showing_skip     one row more: any, one with a mark, one with none
-- Assumes nothing.
use mathlib.Core.List.{List}
use mathlib.Core.Logic.{⊎_elim}
use mathlib.Core.Path.{◌≡◌, refl, sym, ap, ◌∙◌, subst}
use Prim.Native.Nat.{ℕ, ◌+◌, ◌-◌, ◌*◌, ◌/◌, ◌%◌, ◌^◌, ◌≤◌, ◌<◌}
use native.Mathlib.Nat.{eq-or-lt_of_le, mul_comm}
use native.Mathlib.Omega.{arith}
use borrow.Author.Tests.{le-leb, lt-ltb}
use lib.Arith.{digits_lt}
use lib.Dec.{eqb}
use lib.ListN.{length, get_or, set, length-set}
use lib.Seq.{get_or-set_same, get_or-set_other}
use Rattle.filter.specs.Code.Plane.{band, halo, step, rim, framed_is, Packed, Shown}
use Rattle.filter.specs.Code.Rows.{Marked}
use Rattle.filter.specs.Code.Show.{unfolded}
use Rattle.image.proofs.PixelsOf.{binary_at}
use Rattle.image.specs.Size.{max_side}
use Rattle.operator.specs.Image.{pixel, IsImage}
use Rattle.seq.proofs.Bits.{one_digit}
use Rattle.seq.specs.Bits.{bit}
use Rattle.seq.specs.Lists.{one}
use Rattle.seq.specs.Loops.{Swept}

pub record Unfolding (plane d l : List ℕ) (from to s : ℕ) : Type 0 where
  pub long : length l ≡ length d
  pub pixels : (k n : ℕ) → k < band → n < 4 → 4 * k + n < s → get_or l (to + (band * n + k)) 0 ≡ get_or plane (from + k) 0 / 2 ^ (2 * n + 1) % 2
  pub before : (j : ℕ) → j < to → get_or l j 0 ≡ get_or d j 0
  pub after : (j : ℕ) → to + max_side ≤ j → get_or l j 0 ≡ get_or d j 0

module _ {plane d : List ℕ} {from to : ℕ} where
  unfold_more : {l : List ℕ} {s : ℕ} (k n next at v : ℕ) → Unfolding plane d l from to s → to + max_side ≤ length d → k < band → n < 4 → s ≡ 4 * k + n
      → next ≡ 4 * k + n + 1 → at ≡ to + (band * n + k) → v ≡ get_or plane (from + k) 0 / 2 ^ (2 * n + 1) % 2 → Unfolding plane d (set l at v) from to next
  unfold_more {l} k n next at v u room a b e f p q =
      record {
        long = length-set l at v ∙ u.long;
        pixels = λ i m x y z. ⊎_elim (stored i m x y) (kept i m x y) (eq-or-lt_of_le (omega arith));
        before = λ j x. other j (omega arith) ∙ u.before j x;
        after = λ j x. other j (omega arith) ∙ u.after j x;
      }
    where
      other : (j : ℕ) → (j ≡ at → ⊥) → get_or (set l at v) j 0 ≡ get_or l j 0
      other j x = get_or-set_other l at j v 0 x

      Right : ℕ → ℕ → Type 0
      Right i m = get_or (set l at v) (to + (band * m + i)) 0 ≡ get_or plane (from + i) 0 / 2 ^ (2 * m + 1) % 2

      here : Right k n
      here = rw (← p) (get_or-set_same l at v 0 (omega (arith, u.long)) ∙ q)

      stored : (i m : ℕ) → i < band → m < 4 → 4 * i + m ≡ 4 * k + n → Right i m
      stored i m x y z =
          let g : k ≡ i = omega arith in
          let h : n ≡ m = omega arith in
          subst (λ (c : ℕ). Right c m) g (subst (λ (c : ℕ). Right k c) h here)

      kept : (i m : ℕ) → i < band → m < 4 → 4 * i + m < 4 * k + n → Right i m
      kept i m x y z = other _ (omega arith) ∙ u.pixels i m x y (omega arith)

  pub unfold_all : {l : List ℕ} {s : ℕ} → Unfolding plane d l from to s → 4 * band ≤ s → Swept (λ j. unfolded plane from (j - to)) d l to (to + max_side)
  unfolding unfolded
  unfold_all {l} u q = record { long = u.long; inner = inner; before = u.before; after = u.after }
    where
      inner : (j : ℕ) → to ≤ j → j < to + max_side → get_or l j 0 ≡ get_or plane (from + (j - to) % band) 0 / 2 ^ (2 * ((j - to) / band) + 1) % 2
      inner j a b =
          let e : to + (band * ((j - to) / band) + (j - to) % band) ≡ j = omega arith in
          rw e at (u.pixels ((j - to) % band) ((j - to) / band) (omega arith) (omega arith) (omega arith))

pub coded_pixel : {w h : ℕ} {img plane : List ℕ} {from : ℕ} → IsImage w h img → Packed w h img plane → w ≤ max_side
    → (r c : ℕ) → r < h → c < w → from ≡ (r + rim) * step + halo → unfolded plane from c ≡ pixel w img r c
unfolding unfolded framed_is bit
coded_pixel {w} {h} {img} {plane} {from} i p fits r c a b e =
    let place : step * (r + rim) + (halo + c % band) ≡ from + c % band = omega arith in
    let column : band * (c / band) + (halo + c % band) ≡ c + halo = omega arith in
    let coded = rw (place, column) at (p.coded (r + rim) (halo + c % band) (c / band) 1 (omega arith) (omega arith) (omega arith) (omega arith)) in
    sym (one_digit _ (omega arith)) ∙ ap one (coded ∙ inner) ∙ one_digit (pixel w img r c) (omega (arith, binary_at img (r * w + c) i.binary))
  where
    inner : framed_is w h img 1 (r + rim) (c + halo) ≡ eqb (pixel w img r c) 1
    inner =
        let g : r + rim - rim ≡ r = omega arith in
        let f : c + halo - halo ≡ c = omega arith in
        rw (le-leb rim (r + rim) (omega arith), le-leb halo (c + halo) (omega arith), g, f, lt-ltb r h a, lt-ltb c w b) refl

module _ {w n : ℕ} {img marks d l : List ℕ} (s : Shown w n img marks d l) where
  -- a row more, of which all is said that is asked
  shown_more : {m : List ℕ} → length m ≡ length l → ((j : ℕ) → j < n * w → get_or m j 0 ≡ get_or l j 0) → ((j : ℕ) → n * w + w ≤ j → get_or m j 0 ≡ get_or l j 0)
      → ((c : ℕ) → c < w → Marked marks n → get_or m (n * w + c) 0 ≡ pixel w img n c)
      → ((c : ℕ) → c < w → get_or marks n 0 ≡ 0 → get_or m (n * w + c) 0 ≡ get_or l (n * w + c) 0) → Shown w (n + 1) img marks d m
  shown_more {m} long above below new same = record { long = long ∙ s.long; marked = marked; other = other; behind = behind }
    where
      marked : (r c : ℕ) → r < n + 1 → c < w → Marked marks r → get_or m (r * w + c) 0 ≡ pixel w img r c
      marked r c a b k =
          ⊎_elim (λ e. subst (λ (i : ℕ). Marked marks i → get_or m (i * w + c) 0 ≡ pixel w img i c) (sym e) (new c b) k)
          (λ q. above (r * w + c) (digits_lt q b) ∙ s.marked r c q b k) (eq-or-lt_of_le (omega arith))

      behind : (j : ℕ) → w * (n + 1) ≤ j → get_or m j 0 ≡ get_or d j 0
      behind j a = below j (omega (arith, mul_comm w n)) ∙ s.behind j (omega arith)

      other : (r c : ℕ) → r < n + 1 → c < w → get_or marks r 0 ≡ 0 → get_or m (r * w + c) 0 ≡ get_or d (r * w + c) 0
      other r c a b k =
          ⊎_elim (λ e. subst (λ (i : ℕ). get_or marks i 0 ≡ 0 → get_or m (i * w + c) 0 ≡ get_or d (i * w + c) 0) (sym e)
          (λ z. same c b z ∙ s.behind (n * w + c) (omega (arith, mul_comm w n))) k)
          (λ q. above (r * w + c) (digits_lt q b) ∙ s.other r c q b k) (eq-or-lt_of_le (omega arith))

  shown_row : (plane : List ℕ) (from : ℕ) {m : List ℕ} {to : ℕ} → Swept (λ j. unfolded plane from (j - to)) l m to (to + w) → to ≡ n * w
      → ((c : ℕ) → c < w → unfolded plane from c ≡ pixel w img n c) → Marked marks n → Shown w (n + 1) img marks d m
  shown_row plane from {m} {to} t e p k =
      shown_more t.long (λ j a. t.before j (omega arith)) (λ j a. t.after j (omega arith)) (λ c a _. stored c a) (λ c a z. absurd (k z))
    where
      stored : (c : ℕ) → c < w → get_or m (n * w + c) 0 ≡ pixel w img n c
      stored c a =
          let g : n * w + c - to ≡ c = omega arith in
          t.inner (n * w + c) (omega arith) (omega arith) ∙ rw g (p c a)

  shown_skip : get_or marks n 0 ≡ 0 → Shown w (n + 1) img marks d l
  shown_skip z = shown_more refl (λ j a. refl) (λ j a. refl) (λ c a k. absurd (k z)) (λ c a _. refl)

-- a walk along the rows stands at row r: where its bands begin in the plane, and its first pixel
pub record Showing (w h : ℕ) (marks plane d l : List ℕ) (r from to : ℕ) : Type 0 where
  pub plane_place : from ≡ (r + rim) * step + halo
  pub flat_place : to ≡ r * w
  pub within_rows : r ≤ h
  pub long : length l ≡ length d
  pub shown : (img : List ℕ) → IsImage w h img → Packed w h img plane → Shown w r img marks d l

module _ {w h : ℕ} {marks plane d l : List ℕ} {r from to : ℕ} (s : Showing w h marks plane d l r from to) where
  showing_next : {m : List ℕ} → r < h → length m ≡ length l → ((img : List ℕ) → IsImage w h img → Packed w h img plane → Shown w (r + 1) img marks d m)
      → Showing w h marks plane d m (r + 1) (from + step) (to + w)
  showing_next q e f =
      record { plane_place = omega arith; flat_place = omega arith; within_rows = omega arith; long = e ∙ s.long; shown = f }

  pub showing_row : {m : List ℕ} → r < h → w ≤ max_side → Marked marks r → Swept (λ j. unfolded plane from (j - to)) l m to (to + w)
      → Showing w h marks plane d m (r + 1) (from + step) (to + w)
  showing_row q fits k t =
      showing_next q t.long
      (λ img i p. shown_row (s.shown img i p) plane from t s.flat_place (λ c a. coded_pixel i p fits r c q a s.plane_place) k)

  pub showing_skip : r < h → get_or marks r 0 ≡ 0 → Showing w h marks plane d l (r + 1) (from + step) (to + w)
  showing_skip q z = showing_next q refl (λ img i p. shown_skip (s.shown img i p) z)
