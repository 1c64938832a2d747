-- `rows::spread` meets its contract. The invariant: d marks of each row are joined.
-- Assumes nothing.
use native.Mathlib.Omega.{arith}
use Rattle.filter.proofs.RowsLaws.{spread_more}
use Rattle.filter.proofs.rows.spread.Goals as goal

pub loop-d-preserved : goal.loop-d-preserved
loop-d-preserved c =
    (spread_more c.loop-d.invariant.0 c.join.ensures, omega arith)
