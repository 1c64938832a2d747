-- A raster that is unpacked row by row, and a row byte by byte.
--     row_more, row_rest, row_all    a loop over a row's bytes: a whole byte, the byte with the rest of the row, its end
--     ImageDone        where the loop over the rows stands: the rows passed are unpacked, and the next starts at `from` in the raster, at `to` in the pixels
--     image_fits, image_more, image_all    the row at hand lies in raster and image; a row; the end
--     FilledBy         the answer and the area afterwards; fill_done: it is filled
-- Assumes nothing.
use Rattle.std.specs.Prelude.{Ok}
use mathlib.Core.List.{List, ◌++◌}
use mathlib.Core.Path.{◌≡◌, ap, ◌∙◌}
use Prim.Native.Nat.{ℕ, ◌+◌, ◌-◌, ◌*◌, ◌/◌, ◌%◌, ◌^◌, ◌≤◌, ◌<◌}
use native.Mathlib.Nat.{mul_comm}
use native.Mathlib.Omega.{arith}
use borrow.Author.Tests.{le-ltb}
use lib.ListN.{length, get_or, take, drop}
use lib.Seq.{get_or-take, get_or-drop, sets}
use Rattle.image.specs.Code.Rows.{byte_pixel, row_pixel}
use Rattle.image.specs.File.{raster_pixel, pixels_of, area_rule, read_as, ImageRead}
use Rattle.image.specs.Size.{row_bytes, extent}
use Rattle.image.proofs.Cuts.{put_part}
use Rattle.image.proofs.RowBytes.{row_bytes_fit}
use Rattle.seq.proofs.Grid.{grid, row_below, fill_row}
use Rattle.seq.proofs.Stores.{fill_run}
use Rattle.seq.proofs.Tab.{tab_ext, length_tab, fill_length, fill_whole}
use Rattle.seq.specs.Tab.{tab, Filled}
use Rattle.verdict.specs.Writer.{over, output_of}

-- pixel k of byte j is pixel 8 * j + k of the row
here : (bytes : List ℕ) (j k : ℕ) → k < 8 → byte_pixel (get_or bytes j 0) k ≡ row_pixel bytes (8 * j + k)
here bytes j k h =
    let a : (8 * j + k) / 8 ≡ j = omega arith in
    let b : (8 * j + k) % 8 ≡ k = omega arith in
    rw (a, b)

module _ (bytes : List ℕ) {d row : List ℕ} (j : ℕ) (s : Filled (row_pixel bytes) d row (8 * j)) where
  pub row_more : {new : List ℕ} → j < length d / 8 → new ≡ tab (byte_pixel (get_or bytes j 0)) (length (take (8 * j + 8 - 8 * j) (drop (8 * j) row)))
      → Filled (row_pixel bytes) d (take (8 * j) row ++ (new ++ drop (8 * j + 8 - 8 * j) (drop (8 * j) row))) (8 * (j + 1))
  row_more l e =
      let next : 8 * (j + 1) ≡ 8 * j + 8 = omega arith in
      rw next
      (fill_run (byte_pixel (get_or bytes j 0)) 8 s (omega arith) (λ k b. here bytes j k b)
      (put_part (byte_pixel (get_or bytes j 0)) 8 row (8 * j) (omega arith) (omega (arith, fill_length s)) e))

  pub row_rest : {new : List ℕ} → j ≡ length d / 8
      → new ≡ tab (byte_pixel (get_or bytes (length d / 8) 0)) (length (take (length row - 8 * (length d / 8)) (drop (8 * (length d / 8)) row)))
      → take (8 * (length d / 8)) row ++ (new ++ drop (length row - 8 * (length d / 8)) (drop (8 * (length d / 8)) row)) ≡ tab (row_pixel bytes) (length d)
  row_rest q e =
      let rest : 8 * (length d / 8) + length d % 8 ≡ length d = omega arith in
      let put = put_part (byte_pixel (get_or bytes (length d / 8) 0)) (length d % 8) row (8 * (length d / 8)) (omega (arith, fill_length s)) (omega (arith, fill_length s)) e in
      fill_whole
      (rw rest at (fill_run (byte_pixel (get_or bytes (length d / 8) 0)) (length d % 8) (rw q at s) (omega arith) (λ k b. here bytes (length d / 8) k (omega arith)) put))

  pub row_all : j ≡ length d / 8 → length bytes ≡ row_bytes (length d) → length bytes ≤ length d / 8 → row ≡ tab (row_pixel bytes) (length d)
  unfolding row_bytes
  row_all q n l = let end : 8 * j ≡ length d = omega (arith, n) in fill_whole (rw end at s)

pub record ImageDone (r : List ℕ) (w : ℕ) (d : List ℕ) (bytes : ℕ) (pixels : List ℕ) (from to row : ℕ) : Type 0 where
  pub wide : bytes ≡ row_bytes w
  pub source : from ≡ row * row_bytes w
  pub target : to ≡ row * w
  pub rows : Filled (grid w (raster_pixel w r)) d pixels (row * w)

module _ {r : List ℕ} {w : ℕ} {d : List ℕ} {bytes : ℕ} {pixels : List ℕ} {from to row : ℕ} (s : ImageDone r w d bytes pixels from to row) where
  module _ {h : ℕ} (count : length r ≡ row_bytes w * h) (room : length d ≡ w * h) (l : row < h) where
    pub image_fits : (from + bytes ≤ length r) × (to + w ≤ length pixels)
    image_fits = (omega (arith, count, row_below (row_bytes w) l, s.source, s.wide), omega (arith, room, fill_length s.rows, row_below w l, s.target))

    -- a pixel of the part of the raster that the code takes for the row
    same : (c : ℕ) → c < w → row_pixel (take (from + bytes - from) (drop from r)) c ≡ raster_pixel w r row c
    unfolding raster_pixel
    same c b =
        ap (λ (x : ℕ). x / 2 ^ (7 - c % 8) % 2)
        (get_or-take (from + bytes - from) (drop from r) (c / 8) 0 (omega (arith, s.wide, row_bytes_fit w))
        ∙ get_or-drop from r (c / 8) 0
        ∙ rw s.source)

    pub image_more : {new : List ℕ} → new ≡ tab (row_pixel (take (from + bytes - from) (drop from r))) (length (take (to + w - to) (drop to pixels)))
        → ImageDone r w d bytes (take to pixels ++ (new ++ drop (to + w - to) (drop to pixels))) (from + bytes) (to + w) (row + 1)
    image_more {new} e = record {
      wide = s.wide;
      source = omega (arith, s.source, s.wide);
      target = omega (arith, s.target);
      rows = fill_row w (raster_pixel w r) row s.rows (omega (arith, room, row_below w l)) stored;
    }
      where
        part : List ℕ
        part = take (from + bytes - from) (drop from r)

        stored : take to pixels ++ (new ++ drop (to + w - to) (drop to pixels)) ≡ sets pixels (row * w) (tab (raster_pixel w r row) w)
        stored =
            put_part (row_pixel part) w pixels to (omega arith) image_fits.1 e
            ∙ ap (sets pixels to) (tab_ext (row_pixel part) (raster_pixel w r row) w same)
            ∙ rw s.target

pub image_all : {r : List ℕ} {w h : ℕ} {d : List ℕ} {bytes : ℕ} {pixels : List ℕ} {from to row : ℕ} → ImageDone r w d bytes pixels from to row
    → length d ≡ w * h → row ≡ h → pixels ≡ pixels_of w h r
unfolding pixels_of
image_all {w = w} {h = h} {d = d} {row = row} s n e =
    let end : row * w ≡ length d = omega (arith, n, ap (λ (k : ℕ). k * w) e, mul_comm w h) in
    rw n at (fill_whole (rw end at s.rows))

-- by rule 13
abbrev FilledBy : ℕ → ℕ → List ℕ → List ℕ → ImageRead → List ℕ → Type 0
FilledBy w h r area a after =
    (a ≡ read_as (area_rule w h (length area)) w h) × (after ≡ output_of (area_rule w h (length area)) (pixels_of w h r) area)

module _ (w h : ℕ) (r area : List ℕ) where
  pub fill_done : {new : List ℕ} → w * h ≤ length area → new ≡ pixels_of w h r → FilledBy w h r area (Ok (extent w h)) (new ++ drop (w * h) area)
  unfolding pixels_of over
  fill_done l e = (simp (le-ltb _ _ l), simp (le-ltb _ _ l, e, length_tab))
