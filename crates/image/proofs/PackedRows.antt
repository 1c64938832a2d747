-- An image that is packed row by row.
--     row_packed       a row's bytes, by its pixels
--     ImagePacked      where the loop over the rows stands: the rows passed are packed, and the next starts at `from` in the pixels, at `to` in the raster
--     rows_fit, rows_more, rows_all    the row at hand lies in pixels and raster; a row; the end
-- Assumes nothing.
use mathlib.Core.List.{List, ◌++◌}
use mathlib.Core.Logic.{⊎_elim}
use mathlib.Core.Path.{◌≡◌, sym, ap, ◌∙◌}
use Prim.Native.Nat.{ℕ, ◌+◌, ◌-◌, ◌*◌, ◌≤◌, ◌<◌}
use native.Mathlib.Nat.{mul_comm}
use native.Mathlib.Omega.{arith}
use borrow.Author.Tests.{lt-ltb, le-ltb}
use lib.ListN.{length, get_or, take, drop, length-take, get_or-eq_default}
use lib.Seq.{get_or-take, get_or-drop, sets}
use Rattle.image.specs.Code.Rows.{packed_row}
use Rattle.image.specs.File.{in_row, row_byte}
use Rattle.image.specs.Size.{row_bytes}
use Rattle.image.proofs.Packed.{packed_ext}
use Rattle.image.proofs.Cuts.{put_part}
use Rattle.seq.proofs.Grid.{grid, row_below, fill_row}
use Rattle.seq.proofs.Tab.{tab_ext, fill_length, fill_whole}
use Rattle.seq.proofs.Tests.{lt_or_le}
use Rattle.seq.specs.Tab.{tab, Filled}

pub row_packed : (px : List ℕ) (w row j : ℕ) → packed_row (take w (drop (row * w) px)) j ≡ row_byte w px row j
unfolding row_byte
row_packed px w row j =
    packed_ext (λ k. get_or (take w (drop (row * w) px)) (8 * j + k) 0) (λ k. in_row w px row (8 * j + k)) (λ k b. ⊎_elim (inner (8 * j + k)) (past (8 * j + k)) (lt_or_le (8 * j + k) w))
  where
    inner : (c : ℕ) → c < w → get_or (take w (drop (row * w) px)) c 0 ≡ in_row w px row c
    inner c l = get_or-take w (drop (row * w) px) c 0 l ∙ get_or-drop (row * w) px c 0 ∙ sym (simp (lt-ltb c w l))

    past : (c : ℕ) → w ≤ c → get_or (take w (drop (row * w) px)) c 0 ≡ in_row w px row c
    past c l = get_or-eq_default (take w (drop (row * w) px)) 0 (simp length-take (omega arith)) ∙ sym (simp (le-ltb c w l))

pub record ImagePacked (px : List ℕ) (w : ℕ) (d : List ℕ) (bytes : ℕ) (raster : List ℕ) (from to row : ℕ) : Type 0 where
  pub wide : bytes ≡ row_bytes w
  pub source : from ≡ row * w
  pub target : to ≡ row * row_bytes w
  pub rows : Filled (grid (row_bytes w) (row_byte w px)) d raster (row * row_bytes w)

module _ {px : List ℕ} {w : ℕ} {d : List ℕ} {bytes : ℕ} {raster : List ℕ} {from to row : ℕ} (s : ImagePacked px w d bytes raster from to row) where
  module _ {h : ℕ} (count : length px ≡ w * h) (room : length d ≡ row_bytes w * h) (l : row < h) where
    pub rows_fit : (from + w ≤ length px) × (to + bytes ≤ length raster)
    rows_fit = (omega (arith, count, row_below w l, s.source), omega (arith, room, fill_length s.rows, row_below (row_bytes w) l, s.target, s.wide))

    pub rows_more : {new : List ℕ} → new ≡ tab (packed_row (take (from + w - from) (drop from px))) (length (take (to + bytes - to) (drop to raster)))
        → ImagePacked px w d bytes (take to raster ++ (new ++ drop (to + bytes - to) (drop to raster))) (from + w) (to + bytes) (row + 1)
    rows_more {new} e = record {
      wide = s.wide;
      source = omega (arith, s.source);
      target = omega (arith, s.target, s.wide);
      rows = fill_row (row_bytes w) (row_byte w px) row s.rows (omega (arith, room, row_below (row_bytes w) l)) stored;
    }
      where
        cells : List ℕ
        cells = take (from + w - from) (drop from px)

        same : (j : ℕ) → packed_row cells j ≡ row_byte w px row j
        same j = let cut : from + w - from ≡ w = omega arith in rw (cut, s.source) (row_packed px w row j)

        stored : take to raster ++ (new ++ drop (to + bytes - to) (drop to raster)) ≡ sets raster (row * row_bytes w) (tab (row_byte w px row) (row_bytes w))
        stored =
            put_part (packed_row cells) bytes raster to (omega arith) rows_fit.1 e
            ∙ ap (sets raster to) (tab_ext (packed_row cells) (row_byte w px row) bytes (λ j b. same j))
            ∙ rw (s.target, s.wide)

pub rows_all : {px : List ℕ} {w h : ℕ} {d : List ℕ} {bytes : ℕ} {raster : List ℕ} {from to row : ℕ} → ImagePacked px w d bytes raster from to row
    → length d ≡ row_bytes w * h → row ≡ h → raster ≡ tab (grid (row_bytes w) (row_byte w px)) (row_bytes w * h)
rows_all {w = w} {h = h} {d = d} {row = row} s n e =
    let end : row * row_bytes w ≡ length d = omega (arith, n, ap (λ (k : ℕ). k * row_bytes w) e, mul_comm (row_bytes w) h) in
    rw n at (fill_whole (rw end at s.rows))
