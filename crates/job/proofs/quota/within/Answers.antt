-- `job::quota::within`: the sum is at most what a number holds, and so is the limit. Assumes nothing.
use native.Mathlib.Omega.{arith}
use Rattle.history.specs.Quota.{available}
use Rattle.job.proofs.quota.within.Goals as goal

pub returns : goal.returns
unfolding available
returns c = omega (arith, c.min.ensures, c.saturating_add.ensures)
