-- `image::size::is_within` meets its contract. Assumes nothing.
use Rattle.std.proofs.Common.{arith}
use Rattle.std.proofs.lemmas.Bool.Decides.{nat_tests}
use Rattle.image.specs.Size.{within}
use Rattle.image.proofs.size.is_within.Goals as goal

pub returns : goal.returns
unfolding within
returns c = grind (arith, nat_tests)
