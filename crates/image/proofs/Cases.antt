-- The cases of specs/Cases, computed.
-- Assumes nothing.
use mathlib.Core.Path.{refl}
use Rattle.image.specs.Cases.{Cases}
use Rattle.image.specs.File.{raster_pixel, pixels_of, image_of, file_verdict, image_verdict, bytes_verdict, pixel_verdict, row_byte, image_bytes, write_verdict}
use Rattle.image.specs.Header.{is_digit, decimal_value, strict, width_part, height_part, raster, starts_magic, header_form, width_of, height_of, decimal, header}
use Rattle.image.specs.Padding.{padding_set, unused_zero, cleared_byte, cleared}
use Rattle.image.specs.Size.{within, bad_size, row_bytes}
use Rattle.image.specs.Strip.{shape_verdict, strip_verdict, strip_read_verdict, strip_write_verdict, strip_of, kept}
use Rattle.seq.specs.Tab.{up_to}

pub cases_met : Cases
unfolding image_verdict file_verdict header_form starts_magic width_part height_part strict is_digit width_of height_of decimal_value raster
    bad_size within row_bytes raster_pixel pixels_of image_of padding_set unused_zero up_to cleared_byte cleared write_verdict pixel_verdict image_bytes row_byte header decimal
    bytes_verdict shape_verdict strip_verdict strip_read_verdict strip_write_verdict strip_of kept
cases_met = record {
  files_met = refl;
  returns_accepted = refl;
  returns_zero = refl;
  returns_read = refl;
  returns_written = refl;
  returns_cleared = refl;
  pixels_met = refl;
  strips_met = refl;
  copied_met = refl;
  written_met = refl;
  two_files = refl;
  two_kept = refl;
}
