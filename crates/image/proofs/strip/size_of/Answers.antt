-- `image::strip::size_of` meets its contract. Assumes nothing.
use mathlib.Core.Path.{sym}
use Rattle.image.proofs.StripOf.{accepted_shape}
use Rattle.image.proofs.strip.size_of.Goals as goal

pub whole-requires : goal.whole-requires
whole-requires c = accepted_shape _ _ (sym c.in_ok-check.ensures)
