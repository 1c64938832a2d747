-- `show::unfold` meets its contract. The invariant: the first k bytes are unfolded.
-- Assumes nothing.
use native.Mathlib.Omega.{arith}
use Rattle.filter.proofs.ShowLaws.{unfold_all}
use Rattle.filter.proofs.show.unfold.Goals as goal

pub returns : goal.returns
returns c = unfold_all c.loop-k.invariant.0 (omega arith)
