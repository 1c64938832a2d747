-- What the image reader answers, in 01's terms; a refused answer has no size.
--     read_width a, read_height a   the image's size
-- Assumes nothing.
use Rattle.std.specs.Prelude.{ℕ, Ok, Err}
use Rattle.image.specs.File.{ImageRead}

abbrev pub read_width : ImageRead → ℕ
read_width (Ok s) = s.width
read_width (Err r) = 0

abbrev pub read_height : ImageRead → ℕ
read_height (Ok s) = s.height
read_height (Err r) = 0
