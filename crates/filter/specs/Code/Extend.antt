-- The edge rule in the opening map (the module `extend`): first in each row by itself, then from row to row.
-- P v c stands for what bit v has in column c of a row of w columns.
--     RowOf w P map at               the row of the map at byte at has the bits of P, 0 outside the image; in columns 4 to 75
--     Widened w P map at             every window of a column has the bits of P in that row, by the edge rule
--     Joined d l from lane at low    l is d with the code that band lane has at byte from joined into band low of the two bytes at at
--     Widening w d l at              l is d with the row at byte at widened, whatever it has
--     Widenings w d l n              l is d with the first n rows widened
--     RowsBy f d l n                 l is d with row f r of d in place of each row r before row n
-- Assumes nothing.
use Rattle.std.specs.Prelude.{Bool, ◌&&◌, ◌||◌, List, ◌≡◌, ℕ, ◌+◌, ◌-◌, ◌*◌, ◌≤◌, ◌<◌, length, get_or}
use Rattle.seq.specs.Bits.{bit}
use Rattle.operator.specs.Window.{clamp}
use Rattle.filter.specs.Code.Plane.{band, halo, step, within}

pub record RowOf (w : ℕ) (P : ℕ → ℕ → Bool) (map : List ℕ) (at : ℕ) : Type 0 where
  pub coded : (k l v : ℕ) → 4 ≤ k → k < 76 → l < 4 → v < 2
      → bit (get_or map (at + k) 0) (2 * l + v) ≡ (within halo w (band * l + k) && P v (band * l + k - halo))

pub record Widened (w : ℕ) (P : ℕ → ℕ → Bool) (map : List ℕ) (at : ℕ) : Type 0 where
  pub coded : (k l v x : ℕ) → k < band → l < 4 → v < 2 → x < 5 → band * l + k < w
      → bit (get_or map (at + (6 + k) + x) 0) (2 * l + v) ≡ P v (clamp w (band * l + k + x))

pub record Joined (d l : List ℕ) (from lane at low : ℕ) : Type 0 where
  pub long : length l ≡ length d
  pub here : (j v : ℕ) → at ≤ j → j < at + 2 → v < 2
      → bit (get_or l j 0) (2 * low + v) ≡ (bit (get_or d j 0) (2 * low + v) || bit (get_or d from 0) (2 * lane + v))
  pub others : (j i v : ℕ) → v < 2 → (i ≡ low → ⊥) → bit (get_or l j 0) (2 * i + v) ≡ bit (get_or d j 0) (2 * i + v)
  pub before : (j : ℕ) → j < at → get_or l j 0 ≡ get_or d j 0
  pub after : (j : ℕ) → at + 2 ≤ j → get_or l j 0 ≡ get_or d j 0

pub record Widening (w : ℕ) (d l : List ℕ) (at : ℕ) : Type 0 where
  pub long : length l ≡ length d
  pub widened : (P : ℕ → ℕ → Bool) → RowOf w P d at → Widened w P l at
  pub before : (j : ℕ) → j < at → get_or l j 0 ≡ get_or d j 0
  pub after : (j : ℕ) → at + step ≤ j → get_or l j 0 ≡ get_or d j 0

pub record Widenings (w : ℕ) (d l : List ℕ) (n : ℕ) : Type 0 where
  pub long : length l ≡ length d
  pub widened : (r : ℕ) (P : ℕ → ℕ → Bool) → r < n → RowOf w P d (step * r) → Widened w P l (step * r)
  pub after : (j : ℕ) → step * n ≤ j → get_or l j 0 ≡ get_or d j 0

pub record RowsBy (f : ℕ → ℕ) (d l : List ℕ) (n : ℕ) : Type 0 where
  pub long : length l ≡ length d
  pub placed : (r k : ℕ) → r < n → k < step → get_or l (step * r + k) 0 ≡ get_or d (step * f r + k) 0
  pub after : (j : ℕ) → step * n ≤ j → get_or l j 0 ≡ get_or d j 0
