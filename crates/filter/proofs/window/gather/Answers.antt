-- `filter::window::gather` meets its contract. Assumes nothing.
use Prim.Native.Nat.{◌≤◌}
use native.Mathlib.Nat.{add-zero}
use lib.ListN.{length}
use Rattle.operator.specs.Window.{window}
use Rattle.operator.proofs.Window.{side_le}
use native.Mathlib.Omega.{arith}
use Rattle.filter.proofs.window.gather.Goals as goal

pub overflow_add-row-4 : goal.overflow_add-row-4
overflow_add-row-4 c =
    let high : c.args.size.height ≤ length c.args.values.now = omega (arith, side_le c.args.size.height c.requires.1) in
    omega (arith, high)

pub returns : goal.returns
unfolding window
returns c =
    simp (
      add-zero,
      c.gather_row.ensures,
      c.gather_row-2.ensures,
      c.gather_row-3.ensures,
      c.gather_row-4.ensures,
      c.gather_row-5.ensures,
    )
