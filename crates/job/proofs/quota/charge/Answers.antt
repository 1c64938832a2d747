-- `job::quota::charge`: all passes at once. Assumes nothing.
use native.Mathlib.Omega.{arith}
use Rattle.history.specs.Quota.{available}
use Rattle.job.proofs.Charges.{charged_taken}
use Rattle.job.proofs.quota.charge.Goals as goal

pub overflow_sub-after-4 : goal.overflow_sub-after-4
unfolding available
overflow_sub-after-4 c = omega (arith, c.requires.2, c.min-taken.ensures)

pub returns : goal.returns
returns c = charged_taken _ _ _ _ c.min-taken.ensures
