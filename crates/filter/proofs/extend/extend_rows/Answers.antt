-- `extend::extend_rows` meets its contract. The invariant: the first r rows are widened.
-- Assumes nothing.
use mathlib.Core.Path.{◌≡◌}
use Prim.Native.Nat.{◌*◌, ◌+◌, ◌-◌, ◌/◌, ◌%◌}
use native.Mathlib.Omega.{arith}
use Rattle.filter.specs.Code.Plane.{band}
use Rattle.filter.proofs.ExtendRows.{widen_more}
use Rattle.filter.proofs.extend.extend_rows.Goals as goal

pub loop-r-preserved : goal.loop-r-preserved
loop-r-preserved c =
    let whole : band * ((c.args.width - 1) / band) + (c.args.width - 1) % band + 1 ≡ c.args.width = omega arith in
    widen_more _ (omega arith) c.loop-r.invariant (rw whole at c.extend_row.ensures)
