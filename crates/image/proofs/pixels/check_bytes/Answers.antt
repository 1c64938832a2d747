-- `image::pixels::check_bytes` meets its contract. Assumes nothing.
use mathlib.Core.Path.{sym, ◌∙◌}
use Rattle.image.proofs.PixelsOf.{bytes_count, bytes_values}
use Rattle.image.proofs.pixels.check_bytes.Goals as goal

pub returns-then-pixels-size : goal.returns-then-pixels-size
returns-then-pixels-size c = c.refused.ensures ∙ sym (bytes_count _ _ _ c.if-pixels-size.true)

pub returns : goal.returns
returns c = sym (bytes_values _ _ _ c.if-pixels-size.false c.check_values.ensures)
