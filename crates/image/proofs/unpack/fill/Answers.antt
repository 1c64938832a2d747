-- `image::unpack::fill` meets its contract. Assumes nothing.
use Rattle.image.proofs.Unpacked.{fill_done}
use Rattle.image.proofs.unpack.fill.Goals as goal

pub returns : goal.returns
returns c = fill_done _ _ _ _ c.if-area-count.false c.image.ensures
