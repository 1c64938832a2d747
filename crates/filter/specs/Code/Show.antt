-- The plane's rows as pixels again (the module `show`).
--     unfolded plane from c    the pixel of column c, from a row whose bands begin at from: the code's bit for the value 1
-- Assumes nothing.
use Rattle.std.specs.Prelude.{List, ℕ, ◌+◌, ◌*◌, ◌/◌, ◌%◌, ◌^◌, get_or}
use Rattle.filter.specs.Code.Plane.{band}

unfoldable pub unfolded : List ℕ → ℕ → ℕ → ℕ
unfolded plane from c = get_or plane (from + c % band) 0 / 2 ^ (2 * (c / band) + 1) % 2
