-- The unused bits: those of a row's last byte that stand for no pixel (01, The sheet).
--     unused w              how many a row of w pixels has: the last byte's lowest
--     padding_set w r row    one of a row of the raster r is 1
--     unused_zero f          none of the file f is
--     cleared_byte w r i     byte i of the raster r, with zeros in its unused bits
--     cleared_raster w r     the raster r with zeros in its unused bits
--     cleared f             the file f with zeros in its unused bits
-- Assumes nothing.
use Rattle.std.specs.Prelude.{Bool, not, cond, List, ◌++◌, ℕ, ◌+◌, ◌-◌, ◌*◌, ◌%◌, ◌^◌, eqb, length, get_or, take}
use Rattle.image.specs.Header.{raster, width_of, height_of}
use Rattle.image.specs.Size.{row_bytes}
use Rattle.seq.specs.Lists.{any}
use Rattle.seq.specs.Tab.{tab, up_to}

abbrev pub unused : ℕ → ℕ
unused w = 8 * row_bytes w - w

unfoldable pub padding_set : ℕ → List ℕ → ℕ → Bool
padding_set w r row = not (eqb (get_or r (row * row_bytes w + (row_bytes w - 1)) 0 % 2 ^ unused w) 0)

unfoldable pub unused_zero : List ℕ → Bool
unused_zero f = not (any (padding_set (width_of f) (raster f)) (up_to (height_of f)))

unfoldable pub cleared_byte : ℕ → List ℕ → ℕ → ℕ
cleared_byte w r i = cond (eqb (i % row_bytes w) (row_bytes w - 1)) (get_or r i 0 - get_or r i 0 % 2 ^ unused w) (get_or r i 0)

abbrev pub cleared_raster : ℕ → List ℕ → List ℕ
cleared_raster w r = tab (cleared_byte w r) (length r)

unfoldable pub cleared : List ℕ → List ℕ
cleared f = take (length f - length (raster f)) f ++ cleared_raster (width_of f) (raster f)
