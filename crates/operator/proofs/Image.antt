-- Images as lists of pixels, and as sets of black pixels.
--     eqb_one, one_not, same_black, value_one     truth values as the pixels 1 and 0
--     black_of img           the black pixels of a list, by their index
--     Shows w h img X       img is the list of the w · h pixels of X
--     binary_value, outside_white      the pixels of an image, and none outside
--     image_shows, shows_image         an image shows its black pixels; a list that shows something is an image
--     shows_equal                      lists that show the same are equal
--     shows_black, shows_pixel, shows_value     a pixel by its index, by row and column, and the test for a value
--     shows_tab, shows_pixels          a list given by its elements, by rows and columns
--     shows_exchange                   exchanged colours show the complement
--     differs_shows, differs_inside    where two lists differ
-- Assumes nothing.
use mathlib.Core.Bool.{Bool, true, false, not}
use mathlib.Core.List.{List}
use mathlib.Core.Logic.{⊎_elim}
use mathlib.Core.Path.{◌≡◌, refl, sym, ap, ◌∙◌, subst}
use Prim.Native.Nat.{ℕ, zero, suc, ◌+◌, ◌-◌, ◌*◌, ◌/◌, ◌%◌, ◌≤◌, ◌<◌}
use native.Mathlib.Omega.{arith}
use lib.Dec.{leb, ltb, eqb}
use lib.ListN.{length, get_or, length-map, get_or-eq_default}
use lib.Seq.{ext_get_or}
use borrow.Author.Tests.{leb-true, ltb-true, ltb-false, le-leb}
use Rattle.operator.specs.Image.{pixel, IsImage, differs_at, exchange}
use Rattle.morph.specs.System.{Image}
use Rattle.morph.specs.Exchange.{complement}
use Rattle.seq.specs.Lists.{all, one, same}
use Rattle.seq.specs.Tab.{tab}
use Rattle.seq.proofs.Grid.{cell_below, grid_at, by_cell}
use Rattle.seq.proofs.Lists.{clash, either, one_le}
use Rattle.seq.proofs.Members.{all_get_d, all_tab, get_d_map}
use Rattle.seq.proofs.Tab.{length_tab, get_d_tab, tab_get_d}

pub eqb_one : (a b : Bool) → eqb (one a) (one b) ≡ same a b
eqb_one true true = refl
eqb_one true false = refl
eqb_one false true = refl
eqb_one false false = refl

pub one_not : (a : Bool) → 1 - one a ≡ one (not a)
one_not true = refl
one_not false = refl

pub same_black : (x : Bool) → same x true ≡ x
same_black true = refl
same_black false = refl

pub value_one : (v : ℕ) → v ≤ 1 → v ≡ one (eqb v 1)
value_one zero h = refl
value_one (suc zero) h = refl
value_one (suc (suc v)) h = absurd (omega arith)

unfoldable pub black_of : List ℕ → Image ℕ
black_of img i = eqb (get_or img i 0) 1

pub record Shows (w h : ℕ) (img : List ℕ) (X : Image ℕ) : Type 0 where
  pub pixels : length img ≡ w * h
  pub value : (i : ℕ) → i < w * h → get_or img i 0 ≡ one (X i)

-- a pixel of an image is 0 or 1
pub binary_value : {w h : ℕ} {img : List ℕ} → IsImage w h img → (i : ℕ) → get_or img i 0 ≡ one (black_of img i)
unfolding black_of
binary_value {img = img} m i = value_one _ (leb-true _ 1 (all_get_d (λ v. leb v 1) img 0 m.binary refl i))

pub outside_white : {w h : ℕ} {img : List ℕ} → IsImage w h img → (i : ℕ) → w * h ≤ i → black_of img i ≡ false
unfolding black_of
outside_white {img = img} m i l = rw (get_or-eq_default img 0 {n = i} (omega (arith, m.sized)))

pub image_shows : {w h : ℕ} {img : List ℕ} → IsImage w h img → Shows w h img (black_of img)
image_shows m = record { pixels = m.sized; value = λ i l. binary_value m i }

pub shows_image : {w h : ℕ} {img : List ℕ} {X : Image ℕ} → 1 ≤ w → 1 ≤ h → Shows w h img X → IsImage w h img
shows_image {w} {h} {img} {X} a b s = record { wide = a; high = b; sized = s.pixels; binary = binary }
  where
    low : (k : ℕ) → k < length img → leb (get_or img k 0) 1 ≡ true
    low k l = le-leb (get_or img k 0) 1 (omega (arith, s.value k (omega (arith, s.pixels)), one_le (X k)))

    binary : all (λ v. leb v 1) img ≡ true
    binary = subst (λ l. all (λ v. leb v 1) l ≡ true) (tab_get_d img 0) (all_tab (λ v. leb v 1) (λ k. get_or img k 0) (length img) low)

pub shows_equal : {w h : ℕ} {a b : List ℕ} {X Y : Image ℕ} → Shows w h a X → Shows w h b Y
    → ((i : ℕ) → i < w * h → X i ≡ Y i) → a ≡ b
shows_equal {a = a} {b = b} s t e =
    ext_get_or 0 a b (s.pixels ∙ sym t.pixels)
    (λ i l. let k = rw s.pixels at l in s.value i k ∙ ap one (e i k) ∙ sym (t.value i k))

module _ {w h : ℕ} where
  pub shows_black : {img : List ℕ} {X : Image ℕ} → Shows w h img X → (i : ℕ) → i < w * h → black_of img i ≡ X i
  unfolding black_of
  shows_black {X = X} s i l = rw (s.value i l) (eqb_one (X i) true ∙ same_black (X i))

  pub shows_pixel : {img : List ℕ} {X : Image ℕ} → Shows w h img X → (r c : ℕ) → r < h → c < w → pixel w img r c ≡ one (X (r * w + c))
  shows_pixel s r c i j = s.value (r * w + c) (cell_below i j)

  -- the test for a value
  pub shows_value : {img : List ℕ} {X : Image ℕ} → Shows w h img X → (v : Bool) (r c : ℕ) → r < h → c < w
      → eqb (pixel w img r c) (one v) ≡ same (X (r * w + c)) v
  shows_value {X = X} s v r c i j = rw (shows_pixel s r c i j) (eqb_one (X (r * w + c)) v)

  pub shows_tab : {f : ℕ → ℕ} {X : Image ℕ} → ((i : ℕ) → i < w * h → f i ≡ one (X i)) → Shows w h (tab f (w * h)) X
  shows_tab {f} e = record { pixels = length_tab f (w * h); value = λ i l. get_d_tab f (w * h) i 0 l ∙ e i l }

  pub shows_pixels : {f : ℕ → ℕ → ℕ} {X : Image ℕ} → ((r c : ℕ) → r < h → c < w → f r c ≡ one (X (r * w + c)))
      → Shows w h (tab (λ i. f (i / w) (i % w)) (w * h)) X
  shows_pixels {f} {X} e =
      shows_tab (by_cell w h (λ i. f (i / w) (i % w) ≡ one (X i)) (λ r c i j. grid_at w f r c j ∙ e r c i j))

  pub shows_exchange : {img : List ℕ} {X : Image ℕ} → Shows w h img X → Shows w h (exchange img) (complement X)
  unfolding exchange
  shows_exchange {img} {X} s = record {
    pixels = length-map img (λ v. 1 - v) ∙ s.pixels;
    value = λ i l. get_d_map (λ v. 1 - v) img i 0 (rw s.pixels l) ∙ ap (λ v. 1 - v) (s.value i l) ∙ one_not (X i);
  }

  -- two pixels differ where the values do
  pub differs_shows : {a b : List ℕ} {X Y : Image ℕ} → Shows w h a X → Shows w h b Y → (i : ℕ) → i < w * h
      → differs_at a b i ≡ not (same (X i) (Y i))
  differs_shows {X = X} {Y = Y} s t i l = rw (s.value i l, t.value i l) (ap not (eqb_one (X i) (Y i)))

  -- none differs outside
  pub differs_inside : {a b : List ℕ} {X Y : Image ℕ} → Shows w h a X → Shows w h b Y → (i : ℕ) → differs_at a b i ≡ true → i < w * h
  differs_inside {a} {b} s t i d = ⊎_elim (ltb-true i (w * h)) (λ e. clash d (outside (ltb-false i (w * h) e))) (either (ltb i (w * h)))
    where
      outside : w * h ≤ i → differs_at a b i ≡ false
      outside l =
          rw (get_or-eq_default a 0 {n = i} (omega (arith, s.pixels)), get_or-eq_default b 0 {n = i} (omega (arith, t.pixels)))
