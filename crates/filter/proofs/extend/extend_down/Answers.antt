-- `extend::extend_down` meets its contract. The invariant: each row before row r that lies below the image has its last row.
-- Assumes nothing.
use mathlib.Core.Path.{◌≡◌}
use Prim.Native.Nat.{◌+◌, ◌-◌, max}
use native.Mathlib.Omega.{arith}
use Rattle.filter.proofs.extend.extend_down.Goals as goal

pub returns : goal.returns
returns c =
    let end : max (c.args.height + 2 - c.args.top) (c.args.rows + 4) ≡ c.loop-r.r = omega arith in
    rw end c.loop-r.invariant.0
