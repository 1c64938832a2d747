-- The opening map of a block of rows (the module `opening`), in the plane's layout, and the windows and candidates that are read from it.
-- Row r of the map of the rows from top on has row top + r − 2 of the image. The window of the pixel in column 64 l + k of row top + r begins at
-- byte 80 r + 6 + k.
--     shift n                      how far behind its window's first byte position n lies; farthest: of the last position
--     opens ps l i s               byte i lies in a translate of ps all of whose bytes have bit s in l
--     OpenedBy Ks l top rows d f   f is the map d and what the masks Ks open in the plane l
--     held_within es map j s            some element of es has bit s of the map at all its positions, in the window at byte j
--     MapRows O w h top rows map   the map has the bits of O v r c, 0 outside the image; in columns 4 to 75 of each row
--     Mapped O w h top rows map    every window of a pixel of the block has the bits of O at its sites, by the edge rule
--     Shifts mask at               at has the shifts of the mask's positions and no other, in fours
-- Assumes nothing.
use Rattle.std.specs.Prelude.{Bool, ◌&&◌, ◌||◌, ◌≡◌, ℕ, ◌+◌, ◌-◌, ◌*◌, ◌%◌, ◌≤◌, ◌<◌, length, get_or}
use mathlib.Core.List.{List, Memᴰ}
use Rattle.filter.specs.Code.Plane.{band, halo, step, in_frame}
use Rattle.operator.specs.Window.{site_row, site_col}
use Rattle.seq.specs.Bits.{bit}
use Rattle.seq.specs.Lists.{any, all}
use Rattle.table.specs.Mask.{position_count, across, down, positions}

abbrev pub shift : ℕ → ℕ
shift n = step * down n + across n

abbrev pub farthest : ℕ
farthest = 324

unfoldable pub opens : List ℕ → List ℕ → ℕ → ℕ → Bool
opens ps l i s = any (λ b. all (λ b'. bit (get_or l (i - shift b + shift b') 0) s) ps) ps

pub record OpenedBy (Ks l : List ℕ) (top rows : ℕ) (d f : List ℕ) : Type 0 where
  pub long : length f ≡ length d
  pub coded : (j s : ℕ) → 4 ≤ j → j < step * (rows + 4) - 4 → s < 8
      → bit (get_or f j 0) s ≡ (bit (get_or d j 0) s || any (λ K. opens (positions K) l (step * top + 320 + j) s) Ks)

unfoldable pub held_within : List ℕ → List ℕ → ℕ → ℕ → Bool
held_within es map j s = any (λ e. all (λ n. bit (get_or map (j + shift n) 0) s) (positions e)) es

pub record MapRows (O : ℕ → ℕ → ℕ → Bool) (w h top rows : ℕ) (map : List ℕ) : Type 0 where
  pub long : step * (rows + 4) ≤ length map
  pub coded : (r k l v : ℕ) → r < rows + 4 → 4 ≤ k → k < 76 → l < 4 → v < 2
      → bit (get_or map (step * r + k) 0) (2 * l + v) ≡ (in_frame w h (top + r + 4) (band * l + k) && O v (top + r - 2) (band * l + k - halo))

pub record Mapped (O : ℕ → ℕ → ℕ → Bool) (w h top rows : ℕ) (map : List ℕ) : Type 0 where
  pub long : step * (rows + 4) ≤ length map
  pub coded : (r k l v n : ℕ) → r < rows → k < band → l < 4 → v < 2 → n < position_count → band * l + k < w
      → bit (get_or map (step * r + (6 + k) + shift n) 0) (2 * l + v) ≡ O v (site_row h (top + r) n) (site_col w (band * l + k) n)

pub record Shifts (mask : ℕ) (at : List ℕ) : Type 0 where
  pub whole : (b : ℕ) → Memᴰ b (positions mask) → Memᴰ (shift b) at
  pub only : (a : ℕ) → Memᴰ a at → (b : ℕ) × Memᴰ b (positions mask) × (a ≡ shift b)
  pub fours : length at % 4 ≡ 0
