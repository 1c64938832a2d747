-- Sizes of images (01, The sheet). A pixel is 0 or 1, one byte in memory, in row order.
--     extent w h          the size of an image
--     max_side             the largest width and height of an image
--     max_pixels           the most pixels of an image; max_raster: the most bytes of its raster in a file
--     within limit n      a number from 1 to the limit
--     bad_size w h         rule 10
--     row_bytes w          the bytes of a row of w pixels in a file
-- Assumes nothing.
use Rattle.std.specs.Prelude.{Bool, not, ◌&&◌, ℕ, ◌+◌, ◌*◌, ◌/◌, leb}
use Rattle.image.specs.declared.size.Size.{Size}

abbrev pub extent : ℕ → ℕ → Size
extent w h = record { width = w; height = h }

abbrev pub max_side : ℕ
max_side = 256

abbrev pub max_pixels : ℕ
max_pixels = max_side * max_side

abbrev pub max_raster : ℕ
max_raster = max_pixels / 8

unfoldable pub within : ℕ → ℕ → Bool
within limit n = leb 1 n && leb n limit

unfoldable pub bad_size : ℕ → ℕ → Bool
bad_size w h = not (within max_side w && within max_side h)

unfoldable pub row_bytes : ℕ → ℕ
row_bytes w = (w + 7) / 8
