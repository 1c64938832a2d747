-- What the reader of three files finds, and the majority of their rasters, made byte by byte, eight pixels at a time.
--     size_of f                the size of an accepted file, or the refusal
--     size_of_three f g h       the size that three accepted files share, or the refusal
--     last_bytes n f           the last n bytes of a file, which are its raster where n is due
--     majority_byte x y z      the bits that at least two of three bytes have
--     majority_bytes r s t     of three rasters
-- Assumes nothing.
use Rattle.std.specs.Prelude.{List, ℕ, ◌-◌, length, get_or, drop}
use Rattle.std.specs.Int.Bits.{bit_and, bit_or}
use Rattle.image.specs.File.{file_verdict, read_as, ImageRead}
use Rattle.image.specs.Header.{width_of, height_of}
use Rattle.image.specs.Majority.{three_verdict}
use Rattle.seq.specs.Tab.{tab}

unfoldable pub size_of : List ℕ → ImageRead
size_of f = read_as (file_verdict f) (width_of f) (height_of f)

unfoldable pub size_of_three : List ℕ → List ℕ → List ℕ → ImageRead
size_of_three f g h = read_as (three_verdict f g h) (width_of f) (height_of f)

unfoldable pub last_bytes : ℕ → List ℕ → List ℕ
last_bytes n f = drop (length f - n) f

abbrev pub majority_byte : ℕ → ℕ → ℕ → ℕ
majority_byte x y z = bit_or (bit_or (bit_and x y) (bit_and x z)) (bit_and y z)

unfoldable pub majority_bytes : List ℕ → List ℕ → List ℕ → List ℕ
majority_bytes r s t = tab (λ i. majority_byte (get_or r i 0) (get_or s i 0) (get_or t i 0)) (length r)
