-- The laws of unused bits.
--     used_kept, unused_zero_lem     with zeros in the unused bits of a byte, a bit that stands for a pixel is as it was, and one that does not is 0
--     cleared_below              and the byte is at most what it was
--     cleared_at                 that byte in the raster, also past its end
--     cleared_same               a raster that has no unused bit set, with zeros in them, is that raster
--     none_set                   where none of a file's is set, no row has one
--     pixels_cleared             the pixels of a raster do not depend on them
-- Assumes nothing.
use mathlib.Core.Bool.{Bool, true, false, cond}
use mathlib.Core.List.{List}
use mathlib.Core.Logic.{⊎_elim}
use mathlib.Core.Path.{◌≡◌, sym, ap, ◌∙◌}
use Prim.Native.Nat.{ℕ, ◌+◌, ◌-◌, ◌*◌, ◌/◌, ◌^◌, ◌%◌, ◌≤◌, ◌<◌}
use native.Mathlib.Omega.{arith}
use borrow.Author.Tests.{eqb-true, eq-eqb, ltb-true, ltb-false, not-false}
use lib.Dec.{eqb, ltb}
use lib.ListN.{length, get_or, get_or-eq_default}
use Rattle.image.specs.File.{raster_pixel, pixels_of}
use Rattle.image.specs.Header.{raster, width_of, height_of}
use Rattle.image.specs.Padding.{unused, padding_set, unused_zero, cleared_byte, cleared_raster}
use Rattle.image.specs.Size.{row_bytes}
use Rattle.image.proofs.RowBytes.{row_bytes_fit}
use Rattle.seq.proofs.Grid.{cell_column, by_cell, grid_ext}
use Rattle.seq.proofs.HighFirst.{low_zero, clear_low, clear_high}
use Rattle.seq.proofs.Lists.{either, not_eq_true}
use Rattle.seq.proofs.Members.{any_false}
use Rattle.seq.proofs.Tab.{length_tab, get_d_tab, tab_of, up_to_intro}

module _ (w : ℕ) (r : List ℕ) where
  -- byte j of a row, which is the last or another
  module _ (row j : ℕ) (within : j < row_bytes w) where
    abbrev place : ℕ
    place = row * row_bytes w + j

    by_place : (t : Bool) → eqb j (row_bytes w - 1) ≡ t → cleared_byte w r place ≡ cond t (get_or r place 0 - get_or r place 0 % 2 ^ unused w) (get_or r place 0)
    unfolding cleared_byte
    by_place t e =
        ap (λ (b : Bool). cond b (get_or r place 0 - get_or r place 0 % 2 ^ unused w) (get_or r place 0))
        (ap (λ (m : ℕ). eqb m (row_bytes w - 1)) (cell_column row within) ∙ e)

    pub used_kept : (k : ℕ) → k < 8 → 8 * j + k < w → cleared_byte w r place / 2 ^ (7 - k) ≡ get_or r place 0 / 2 ^ (7 - k)
    used_kept k l b =
        ⊎_elim (λ e. rw (by_place true e)
        (clear_high (get_or r place 0) (unused w) (7 - k) (omega (arith, row_bytes_fit w, eqb-true j (row_bytes w - 1) e))))
        (λ e. rw (by_place false e)) (either (eqb j (row_bytes w - 1)))

    pub unused_zero_lem : (k : ℕ) → k < 8 → w ≤ 8 * j + k → cleared_byte w r place / 2 ^ (7 - k) % 2 ≡ 0
    unused_zero_lem k l b =
        let fit = row_bytes_fit w in
        let last : j ≡ row_bytes w - 1 = omega arith in
        rw (by_place true (eq-eqb j (row_bytes w - 1) last))
        (low_zero (get_or r place 0 - get_or r place 0 % 2 ^ unused w) (unused w) (7 - k) (clear_low (get_or r place 0) (unused w)) (omega arith))

    -- with no unused bit of the row set, the byte is as it was
    byte_same : padding_set w r row ≡ false → get_or r place 0 ≡ cleared_byte w r place
    unfolding padding_set
    byte_same clean = ⊎_elim last (λ e. sym (by_place false e)) (either (eqb j (row_bytes w - 1)))
      where
        low : get_or r (row * row_bytes w + (row_bytes w - 1)) 0 % 2 ^ unused w ≡ 0
        low = eqb-true _ 0 (not-false _ clean)

        last : eqb j (row_bytes w - 1) ≡ true → get_or r place 0 ≡ cleared_byte w r place
        last e = rw (by_place true e) (omega (arith, rw (← eqb-true j (row_bytes w - 1) e) at low))

  pub cleared_below : (i : ℕ) → cleared_byte w r i ≤ get_or r i 0
  unfolding cleared_byte
  cleared_below i = by (eqb (i % row_bytes w) (row_bytes w - 1))
    where
      by : (t : Bool) → cond t (get_or r i 0 - get_or r i 0 % 2 ^ unused w) (get_or r i 0) ≤ get_or r i 0
      by true = omega arith
      by false = omega arith

  pub cleared_same : (h : ℕ) → length r ≡ row_bytes w * h → ((row : ℕ) → row < h → padding_set w r row ≡ false) → cleared_raster w r ≡ r
  cleared_same h count clean =
      rw count
      (sym (tab_of (cleared_byte w r) r (row_bytes w * h) 0 count
      (by_cell (row_bytes w) h (λ i. get_or r i 0 ≡ cleared_byte w r i) (λ row j p q. byte_same row j q (clean row p)))))

  pub cleared_at : (i : ℕ) → get_or (cleared_raster w r) i 0 ≡ cleared_byte w r i
  cleared_at i = ⊎_elim (λ e. get_d_tab (cleared_byte w r) (length r) i 0 (ltb-true i (length r) e)) (λ e. past (ltb-false i (length r) e)) (either (ltb i (length r)))
    where
      past : length r ≤ i → get_or (cleared_raster w r) i 0 ≡ cleared_byte w r i
      past l =
          let out = get_or-eq_default (cleared_raster w r) 0 {n = i} (rw (length_tab (cleared_byte w r) (length r)) l) in
          omega (arith, out, cleared_below i, get_or-eq_default r 0 l)

  pixel_cleared : (row col : ℕ) → col < w → raster_pixel w (cleared_raster w r) row col ≡ raster_pixel w r row col
  unfolding raster_pixel
  pixel_cleared row col q =
      let fit = row_bytes_fit w in
      let within : col / 8 < row_bytes w = omega arith in
      ap (λ (b : ℕ). b / 2 ^ (7 - col % 8) % 2) (cleared_at (row * row_bytes w + col / 8))
      ∙ ap (λ (x : ℕ). x % 2) (used_kept row (col / 8) within (col % 8) (omega arith) (omega arith))

  pub pixels_cleared : (h : ℕ) → pixels_of w h (cleared_raster w r) ≡ pixels_of w h r
  unfolding pixels_of
  pixels_cleared h = grid_ext w h (raster_pixel w (cleared_raster w r)) (raster_pixel w r) (λ row col p q. pixel_cleared row col q)

pub none_set : (f : List ℕ) → unused_zero f ≡ true → (row : ℕ) → row < height_of f → padding_set (width_of f) (raster f) row ≡ false
unfolding unused_zero
none_set f e row l = any_false (padding_set (width_of f) (raster f)) (not_eq_true _ e) (up_to_intro l)
