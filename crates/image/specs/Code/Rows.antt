-- Rows of pixels, in memory and packed: what the private walks over them read and store.
--     Sides w h                both sides are from 1 to the limit, as rule 10 leaves them
--     Binary px                every pixel byte is 0 or 1, as rule 12 leaves them
--     too_large px i            pixel byte i is above 1
--     piece_too_large px n      the piece of the first pixel byte above 1, where all are cut in pieces of n bytes
--     byte_pixel b k            pixel k of a byte, the leftmost the highest bit
--     row_pixel bytes c         pixel c of a row, by its bytes
--     packed_row row j          byte j of a row, by its pixels
--     raster_of w h px          the rows of the file of an image
-- Assumes nothing.
use Rattle.std.specs.Prelude.{Bool, List, Option, option_map, ℕ, ◌+◌, ◌-◌, ◌*◌, ◌/◌, ◌%◌, ◌^◌, ◌≤◌, ltb, length, get_or}
use Rattle.image.specs.File.{packed, row_byte}
use Rattle.image.specs.Size.{max_side, row_bytes}
use Rattle.seq.specs.Tab.{tab, first}

pub record Sides (w h : ℕ) : Type 0 where
  pub wide : 1 ≤ w
  pub narrow : w ≤ max_side
  pub tall : 1 ≤ h
  pub short : h ≤ max_side

pub record Binary (px : List ℕ) : Type 0 where
  pub small : (i : ℕ) → get_or px i 0 ≤ 1

abbrev pub too_large : List ℕ → ℕ → Bool
too_large px i = ltb 1 (get_or px i 0)

abbrev pub piece_too_large : List ℕ → ℕ → Option ℕ
piece_too_large px n = option_map (λ i. i / n) (first (too_large px) (length px))

abbrev pub byte_pixel : ℕ → ℕ → ℕ
byte_pixel b k = b / 2 ^ (7 - k) % 2

abbrev pub row_pixel : List ℕ → ℕ → ℕ
row_pixel bytes c = byte_pixel (get_or bytes (c / 8) 0) (c % 8)

abbrev pub packed_row : List ℕ → ℕ → ℕ
packed_row row j = packed (λ k. get_or row (8 * j + k) 0)

abbrev pub raster_of : ℕ → ℕ → List ℕ → List ℕ
raster_of w h px = tab (λ i. row_byte w px (i / row_bytes w) (i % row_bytes w)) (row_bytes w * h)
