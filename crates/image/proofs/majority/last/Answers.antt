-- `image::majority::last` meets its contract. Assumes nothing.
use Prim.Native.Nat.{◌-◌}
use lib.ListN.{length}
use Rattle.image.specs.Code.Three.{last_bytes}
use Rattle.image.proofs.HeaderOf.{rest_part}
use Rattle.image.proofs.majority.last.Goals as goal

pub returns : goal.returns
unfolding last_bytes
returns c = rest_part c.args.file.now (length c.args.file.now - c.args.count)
