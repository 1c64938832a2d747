-- `job::quota::open`: after i turns i reserves are filled in, and the pool is what they leave of the allowance. Assumes nothing.
use mathlib.Core.Path.{◌≡◌}
use Prim.Native.Nat.{◌+◌}
use lib.ListN.{get_or, take}
use Rattle.history.specs.Quota.{kept}
use Rattle.seq.specs.Lists.{sum_of}
use Rattle.seq.specs.Tab.{Filled}
use Rattle.job.proofs.quota.open.Given as goal

abbrev pub invariant-loop-i : goal.invariant-loop-i
invariant-loop-i l =
    Filled (λ k. get_or (kept l.quota) k 0) l.initial.left l.left l.i × (l.pool + sum_of (take l.i (kept l.quota)) ≡ l.quota.allowance)
