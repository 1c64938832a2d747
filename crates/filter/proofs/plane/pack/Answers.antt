-- `plane::pack` meets its contract. Assumes nothing.
use native.Mathlib.Omega.{arith}
use Rattle.filter.proofs.PackLaws.{packed_all}
use Rattle.filter.proofs.plane.pack.Goals as goal

pub returns : goal.returns
returns c =
    packed_all c.fill.ensures c.pack_rows.ensures (omega arith) c.fill-2.ensures c.requires.1
