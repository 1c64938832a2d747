-- `rows::next_marked` meets its contract. The invariant: no row from `top` to before `row` has a mark.
-- Assumes nothing.
use mathlib.Core.Path.{◌≡◌}
use Prim.Native.Nat.{ℕ, ◌≤◌, ◌<◌}
use lib.ListN.{get_or}
use Rattle.filter.proofs.rows.next_marked.Given as goal

abbrev pub invariant-loop-row : goal.invariant-loop-row
invariant-loop-row l = (i : ℕ) → l.top ≤ i → i < l.row → get_or l.marks i 0 ≡ 0
