-- `number::groups_at` meets its contract: the groups are summed from the last on.
-- Assumes nothing.
use native.Mathlib.Omega.{arith}
use Rattle.table.proofs.Groups.{summed_lt}
use Rattle.table.proofs.number.groups_at.Goals as goal

pub overflow_mul-value : goal.overflow_mul-value
overflow_mul-value c = omega (arith, summed_lt c.loop-j.invariant c.loop-j-test.true)

pub overflow_add-value : goal.overflow_add-value
overflow_add-value c = omega (arith, summed_lt c.loop-j.invariant c.loop-j-test.true)
