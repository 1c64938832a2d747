-- Rasters there and back.
--     rows_clean         the unused bits of an image's raster are 0
--     rows_back          its pixels are the image's
--     raster_cleared     the raster of the pixels of a raster is that raster with zeros in its unused bits
-- Assumes nothing.
use mathlib.Core.Bool.{true, false}
use mathlib.Core.List.{List}
use mathlib.Core.Logic.{⊎_elim}
use mathlib.Core.Path.{◌≡◌, sym, ap, ◌∙◌}
use Prim.Native.Nat.{ℕ, ◌+◌, ◌-◌, ◌*◌, ◌/◌, ◌%◌, ◌^◌, ◌≤◌, ◌<◌}
use native.Mathlib.Nat.{mul-mod_left, mod-lt, div-add-mod'}
use native.Mathlib.Omega.{arith}
use borrow.Author.Tests.{lt-ltb, le-ltb, ltb-true, ltb-false, eq-eqb}
use lib.Dec.{ltb}
use lib.ListN.{length, get_or}
use Rattle.image.specs.Code.Rows.{Binary, raster_of}
use Rattle.image.specs.File.{raster_pixel, pixels_of, in_row, packed, row_byte}
use Rattle.image.specs.Padding.{unused, padding_set, cleared_byte, cleared_raster}
use Rattle.image.specs.Size.{row_bytes}
use Rattle.image.proofs.Packed.{packed_bits, packed_ext, pixel_small}
use Rattle.image.proofs.Padding.{used_kept, unused_zero_lem, cleared_below}
use Rattle.image.proofs.RowBytes.{row_bytes_fit}
use Rattle.seq.proofs.Grid.{grid, grid_at, index_row, cell_below, by_cell}
use Rattle.seq.proofs.HighFirst.{bits_value, bits_zeros, bits_at, bits_back}
use Rattle.seq.proofs.Lists.{either}
use Rattle.seq.proofs.Tab.{get_d_tab, tab_of, tab_ext}
use Rattle.seq.specs.Tab.{tab}

-- an element of a grid that was laid out row by row
laid_at : (w h : ℕ) (g : ℕ → ℕ → ℕ) (row col : ℕ) → row < h → col < w → get_or (tab (grid w g) (w * h)) (row * w + col) 0 ≡ g row col
laid_at w h g row col p q = get_d_tab (grid w g) (w * h) (row * w + col) 0 (cell_below p q) ∙ grid_at w g row col q

module _ (w h : ℕ) (wide : 1 ≤ w) (px : List ℕ) where
  -- the last byte of a row: its values from the width on are 0
  last_low : (row : ℕ) → row_byte w px row (row_bytes w - 1) % 2 ^ unused w ≡ 0
  unfolding row_byte
  last_low row =
      let fit = row_bytes_fit w in
      let u = unused w in
      let v : ℕ → ℕ = λ k. in_row w px row (8 * (row_bytes w - 1) + k) in
      let whole : 8 ≡ 8 - u + u = omega arith in
      let factor : packed v ≡ bits_value v (8 - u) * 2 ^ u =
      sym (packed_bits v) ∙ ap (bits_value v) whole ∙ bits_zeros v (8 - u) u (λ k a b. rw (le-ltb (8 * (row_bytes w - 1) + k) w (omega arith))) in
      ap (λ (x : ℕ). x % 2 ^ u) factor ∙ mul-mod_left (bits_value v (8 - u)) (2 ^ u)

  pub rows_clean : (row : ℕ) → row < h → padding_set w (raster_of w h px) row ≡ false
  unfolding padding_set
  rows_clean row l =
      let e = laid_at (row_bytes w) h (row_byte w px) row (row_bytes w - 1) l (omega (arith, row_bytes_fit w)) in
      rw (eq-eqb _ 0 (ap (λ (b : ℕ). b % 2 ^ unused w) e ∙ last_low row))

  module _ (bin : Binary px) where
    -- the bit that stands for a pixel of a row is that pixel
    bit_back : (row col : ℕ) → row < h → col < w → raster_pixel w (raster_of w h px) row col ≡ get_or px (row * w + col) 0
    unfolding raster_pixel row_byte
    bit_back row col p q =
        let v : ℕ → ℕ = λ k. in_row w px row (8 * (col / 8) + k) in
        let byte = laid_at (row_bytes w) h (row_byte w px) row (col / 8) p (omega (arith, row_bytes_fit w)) in
        let k : 8 * (col / 8) + col % 8 ≡ col = omega arith in
        ap (λ (b : ℕ). b / 2 ^ (7 - col % 8) % 2) (byte ∙ sym (packed_bits v))
        ∙ bits_at v (λ j. pixel_small bin w row (8 * (col / 8) + j)) 8 (col % 8) (omega arith)
        ∙ ap (in_row w px row) k
        ∙ rw (lt-ltb col w q)

    pub rows_back : length px ≡ w * h → pixels_of w h (raster_of w h px) ≡ px
    unfolding pixels_of
    rows_back count = sym (tab_of (grid w (raster_pixel w (raster_of w h px))) px (w * h) 0 count pixel)
      where
        pixel : (i : ℕ) → i < w * h → get_or px i 0 ≡ grid w (raster_pixel w (raster_of w h px)) i
        pixel i l =
            ap (λ (k : ℕ). get_or px k 0) (sym (div-add-mod' i w)) ∙ sym (bit_back (i / w) (i % w) (index_row i w h wide l) (mod-lt i wide))

module _ (w h : ℕ) (r : List ℕ) where
  -- below the width the value is the pixel, which is that bit of the byte
  inside : (row j k : ℕ) → row < h → k < 8 → 8 * j + k < w → in_row w (pixels_of w h r) row (8 * j + k) ≡ get_or r (row * row_bytes w + j) 0 / 2 ^ (7 - k) % 2
  unfolding pixels_of raster_pixel
  inside row j k p l b =
      let i : (8 * j + k) / 8 ≡ j = omega arith in
      let m : (8 * j + k) % 8 ≡ k = omega arith in
      rw (lt-ltb (8 * j + k) w b) (laid_at w h (raster_pixel w r) row (8 * j + k) p b ∙ rw (i, m))

  -- a value of the row's byte j is the bit of the raster's byte with zeros in its unused bits: from the width on both are 0
  value_cleared : (row j k : ℕ) → row < h → j < row_bytes w → k < 8
      → in_row w (pixels_of w h r) row (8 * j + k) ≡ cleared_byte w r (row * row_bytes w + j) / 2 ^ (7 - k) % 2
  value_cleared row j k p q l = ⊎_elim within (λ e. rw e (sym (unused_zero_lem w r row j q k l (ltb-false (8 * j + k) w e)))) (either (ltb (8 * j + k) w))
    where
      within : ltb (8 * j + k) w ≡ true → in_row w (pixels_of w h r) row (8 * j + k) ≡ cleared_byte w r (row * row_bytes w + j) / 2 ^ (7 - k) % 2
      within e =
          let b = ltb-true (8 * j + k) w e in
          inside row j k p l b ∙ ap (λ (x : ℕ). x % 2) (sym (used_kept w r row j q k l b))

  module _ (bytes : (i : ℕ) → get_or r i 0 < 256) where
    byte_cleared : (row j : ℕ) → row < h → j < row_bytes w → row_byte w (pixels_of w h r) row j ≡ cleared_byte w r (row * row_bytes w + j)
    unfolding row_byte
    byte_cleared row j p q =
        let i = row * row_bytes w + j in
        let bits : ℕ → ℕ = λ k. cleared_byte w r i / 2 ^ (7 - k) % 2 in
        packed_ext (λ k. in_row w (pixels_of w h r) row (8 * j + k)) bits (λ k l. value_cleared row j k p q l)
        ∙ sym (packed_bits bits)
        ∙ bits_back (cleared_byte w r i) 8 (omega (arith, cleared_below w r i, bytes i))

    pub raster_cleared : length r ≡ row_bytes w * h → raster_of w h (pixels_of w h r) ≡ cleared_raster w r
    raster_cleared count =
        rw count
        (tab_ext (grid (row_bytes w) (row_byte w (pixels_of w h r))) (cleared_byte w r) (row_bytes w * h)
        (by_cell (row_bytes w) h (λ i. grid (row_bytes w) (row_byte w (pixels_of w h r)) i ≡ cleared_byte w r i)
        (λ row j p q. grid_at (row_bytes w) (row_byte w (pixels_of w h r)) row j q ∙ byte_cleared row j p q)))
