-- `job::quota::reserve_at`: by the test. Assumes nothing.
use borrow.Author.Tests.{lt-ltb, le-ltb}
use Rattle.job.proofs.Charges.{kept_at}
use Rattle.job.proofs.quota.reserve_at.Goals as goal

pub returns-then-i-quota : goal.returns-then-i-quota
returns-then-i-quota c = rw (kept_at _ _ c.requires, lt-ltb _ _ c.if-i-quota.true)

pub returns-else-i-quota : goal.returns-else-i-quota
returns-else-i-quota c = rw (kept_at _ _ c.requires, le-ltb _ _ c.if-i-quota.false)
