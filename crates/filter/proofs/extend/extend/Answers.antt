-- `extend::extend` meets its contract.
-- Assumes nothing.
use native.Mathlib.Omega.{arith}
use Rattle.filter.proofs.ExtendRows.{mapped}
use Rattle.filter.proofs.extend.extend.Goals as goal

pub returns : goal.returns
returns c =
    λ O f. mapped O _ _ _ _ (omega arith) (omega arith) f c.extend_rows.ensures c.extend_down.ensures c.extend_up.ensures
