-- The image as packed codes (the module `plane`): a byte has the codes of four pixels, one of each band of 64 columns.
--
--       bits of a byte   7 6  5 4  3 2  1 0       lane l, bits 2 l and 2 l + 1: bit v is set where the pixel lies inside and has value v
--       lane               3    2    1    0       byte k of a row: lane l has column 64 l + k − 8, so that windows cross no band
--
-- Six rows of zeros stand above the image and below it, eight columns on each side. `and` and `or` of bytes work on four bands and both values.
--     band, halo, step, rim     columns of a band, columns beside it, bytes of a row, rows above and below
--     within m size i           place i of a side of that size, in a frame of breadth m, lies in the image; in_frame w h R C: along both sides
--     framed_is w h img v R C    place (R, C) of the framed image lies in the image and has the value v
--     Packed w h img plane      the plane has the codes of the framed image
--     Shown w h img marks d l   l is d with the image's pixels in every row that is marked
--     Refreshed d l at          l is d with the bytes beside the bands made anew in the row that begins at at
--     quad a b c d              four codes, or parts of them, as a byte
--     folded px i k             the pixels of column k of each band, where a row begins at i; inside_at w k: 1 where these columns lie inside
--     Inside w a                a has the bytes inside_at; White w a: a is white at and behind w
--     row_is w px from v C       place C of the framed row whose pixels begin at from lies in the image and has the value v
--     RowPacked w px from d l to     l is d with the codes of that row in the bytes that begin at to
--     RowsPacked w img n d l    l is d with the codes of the first n rows of the image
-- Assumes nothing.
use Rattle.std.specs.Prelude.{Bool, ◌&&◌, List, ◌≡◌, ℕ, ◌+◌, ◌-◌, ◌*◌, ◌/◌, ◌%◌, ◌≤◌, ◌<◌, leb, ltb, eqb, length, get_or}
use Rattle.operator.specs.Image.{pixel}
use Rattle.seq.specs.Bits.{bit}
use Rattle.seq.specs.Lists.{one}

abbrev pub band : ℕ
band = 64

abbrev pub halo : ℕ
halo = 8

abbrev pub step : ℕ
step = 80

abbrev pub rim : ℕ
rim = 6

abbrev pub within : ℕ → ℕ → ℕ → Bool
within m size i = leb m i && ltb (i - m) size

abbrev pub in_frame : ℕ → ℕ → ℕ → ℕ → Bool
in_frame w h R C = within rim h R && within halo w C

unfoldable pub framed_is : ℕ → ℕ → List ℕ → ℕ → ℕ → ℕ → Bool
framed_is w h img v R C = in_frame w h R C && eqb (pixel w img (R - rim) (C - halo)) v

pub record Packed (w h : ℕ) (img plane : List ℕ) : Type 0 where
  pub long : step * (h + 2 * rim) ≤ length plane
  pub coded : (R k l v : ℕ) → R < h + 2 * rim → k < step → l < 4 → v < 2 → bit (get_or plane (step * R + k) 0) (2 * l + v) ≡ framed_is w h img v R (band * l + k)

pub record Shown (w h : ℕ) (img marks d l : List ℕ) : Type 0 where
  pub long : length l ≡ length d
  pub marked : (r c : ℕ) → r < h → c < w → (get_or marks r 0 ≡ 0 → ⊥) → get_or l (r * w + c) 0 ≡ pixel w img r c
  pub other : (r c : ℕ) → r < h → c < w → get_or marks r 0 ≡ 0 → get_or l (r * w + c) 0 ≡ get_or d (r * w + c) 0
  pub behind : (j : ℕ) → w * h ≤ j → get_or l j 0 ≡ get_or d j 0

abbrev pub quad : ℕ → ℕ → ℕ → ℕ → ℕ
quad a b c d = a + 4 * b + 16 * c + 64 * d

abbrev pub folded : List ℕ → ℕ → ℕ → ℕ
folded px i k = quad (get_or px (i + k) 0) (get_or px (i + 64 + k) 0) (get_or px (i + 128 + k) 0) (get_or px (i + 192 + k) 0)

abbrev pub inside_at : ℕ → ℕ → ℕ
inside_at w k = quad (one (ltb k w)) (one (ltb (64 + k) w)) (one (ltb (128 + k) w)) (one (ltb (192 + k) w))

unfoldable pub row_is : ℕ → List ℕ → ℕ → ℕ → ℕ → Bool
row_is w px from v C = within halo w C && eqb (get_or px (from + (C - halo)) 0) v

pub record Inside (w : ℕ) (a : List ℕ) : Type 0 where
  pub column : (k : ℕ) → k < band → get_or a k 0 ≡ inside_at w k

pub record White (w : ℕ) (a : List ℕ) : Type 0 where
  pub behind : (j : ℕ) → w ≤ j → get_or a j 0 ≡ 0

-- the bytes beside the bands, from the bands' own
pub record Refreshed (d l : List ℕ) (at : ℕ) : Type 0 where
  pub long : length l ≡ length d
  pub left : (k : ℕ) → k < halo → get_or l (at + k) 0 ≡ get_or d (at + band + k) 0 * 4 % 256
  pub right : (k : ℕ) → k < halo → get_or l (at + halo + band + k) 0 ≡ get_or d (at + halo + k) 0 / 4
  pub bands : (k : ℕ) → k < band → get_or l (at + halo + k) 0 ≡ get_or d (at + halo + k) 0
  pub before : (j : ℕ) → j < at → get_or l j 0 ≡ get_or d j 0
  pub after : (j : ℕ) → at + step ≤ j → get_or l j 0 ≡ get_or d j 0

pub record RowPacked (w : ℕ) (px : List ℕ) (from : ℕ) (d l : List ℕ) (to : ℕ) : Type 0 where
  pub long : length l ≡ length d
  pub coded : (k n v : ℕ) → k < step → n < 4 → v < 2 → bit (get_or l (to + k) 0) (2 * n + v) ≡ row_is w px from v (band * n + k)
  pub before : (j : ℕ) → j < to → get_or l j 0 ≡ get_or d j 0
  pub after : (j : ℕ) → to + step ≤ j → get_or l j 0 ≡ get_or d j 0

pub record RowsPacked (w : ℕ) (img : List ℕ) (n : ℕ) (d l : List ℕ) : Type 0 where
  pub long : length l ≡ length d
  pub rows : (r k i v : ℕ) → r < n → k < step → i < 4 → v < 2 → bit (get_or l (step * (rim + r) + k) 0) (2 * i + v) ≡ row_is w img (r * w) v (band * i + k)
  pub above : (j : ℕ) → j < step * rim → get_or l j 0 ≡ get_or d j 0
  pub below : (j : ℕ) → step * (rim + n) ≤ j → get_or l j 0 ≡ get_or d j 0
