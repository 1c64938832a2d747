-- `plane::other` meets its contract. Assumes nothing.
use native.Mathlib.Omega.{arith}
use Rattle.filter.proofs.PlaneLaws.{other_bits}
use Rattle.filter.proofs.plane.other.Goals as goal

pub returns : goal.returns
returns c = λ l v p q. other_bits c.args.codes l v (omega arith) p q
