-- `image::header::starts_magic` meets its contract. Assumes nothing.
use Rattle.std.proofs.Common.{◌∙◌}
use Rattle.image.proofs.HeaderOf.{magic_front}
use Rattle.image.proofs.header.starts_magic.Goals as goal

pub returns : goal.returns
returns c = c.starts_with.ensures.value ∙ magic_front _
