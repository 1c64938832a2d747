-- `rows::next_unmarked` meets its contract. The invariant: each row from `top` to before `row` has a mark.
-- Assumes nothing.
use Prim.Native.Nat.{ℕ, ◌≤◌, ◌<◌}
use Rattle.filter.specs.Code.Rows.{Marked}
use Rattle.filter.proofs.rows.next_unmarked.Given as goal

abbrev pub invariant-loop-row : goal.invariant-loop-row
invariant-loop-row l = (i : ℕ) → l.top ≤ i → i < l.row → Marked l.marks i
