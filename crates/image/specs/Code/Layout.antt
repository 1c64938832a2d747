-- How a file is laid out: what the reader's private parts find in it, as structs of the source.
--     number_at f at stop   the number at a position that the byte stop ends
--     raster_start f        where the raster starts
--     header_of f           width, height and the raster's start, where the header has the strict form
--     layout_of f           the same of an accepted file, or the refusal
--     header_as w h start    a header of this size, whose raster starts there
--     number_if, header_if    these by the test that they depend on
-- Assumes nothing.
use Rattle.std.specs.Prelude.{Bool, true, false, ◌&&◌, List, ℕ, ◌+◌, eqb, take, drop, Option, None, Some, Result}
use Rattle.image.specs.declared.header.Header.{Header}
use Rattle.image.specs.declared.number.Number.{Number}
use Rattle.image.specs.File.{file_verdict}
use Rattle.image.specs.Header.{digits, decimal_value, strict, after, width_part, height_part, header_form, width_of, height_of}
use Rattle.image.specs.Size.{extent}
use Rattle.verdict.specs.Rules.{result_of, Refusal}

abbrev pub number_if : Bool → ℕ → ℕ → Option Number
number_if true value next = Some (record { value = value; next = next })
number_if false value next = None

unfoldable pub number_at : List ℕ → ℕ → ℕ → Option Number
number_at f at stop =
    number_if (strict (drop at f) && eqb (after (drop at f)) stop)
    (decimal_value (take (digits (drop at f)) (drop at f)))
    (at + (digits (drop at f) + 1))

unfoldable pub raster_start : List ℕ → ℕ
raster_start f = 3 + (digits (width_part f) + 1) + (digits (height_part f) + 1)

abbrev pub header_as : ℕ → ℕ → ℕ → Header
header_as w h start = record { size = extent w h; start = start }

abbrev pub header_if : Bool → ℕ → ℕ → ℕ → Option Header
header_if true w h start = Some (header_as w h start)
header_if false w h start = None

unfoldable pub header_of : List ℕ → Option Header
header_of f = header_if (header_form f) (width_of f) (height_of f) (raster_start f)

unfoldable pub layout_of : List ℕ → Result Header Refusal
layout_of f = result_of (file_verdict f) (header_as (width_of f) (height_of f) (raster_start f))
