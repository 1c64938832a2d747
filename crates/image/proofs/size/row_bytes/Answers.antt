-- `image::size::row_bytes` meets its contract. Assumes nothing.
use borrow.Author.Rules.{rules}
use Rattle.image.specs.Size.{row_bytes}
use Rattle.image.proofs.size.row_bytes.Goals as goal

pub returns : goal.returns
unfolding row_bytes
returns c = search rules
