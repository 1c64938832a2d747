-- `job::quota::open`: after i turns i reserves are filled in, and the pool is what they leave of the allowance. Assumes nothing.
use mathlib.Core.Path.{◌≡◌, sym, ◌∙◌}
use Prim.Native.Nat.{◌+◌, ◌-◌, ◌<◌}
use native.Mathlib.Omega.{arith}
use lib.ListN.{length}
use lib.Seq.{take_all}
use Rattle.history.specs.Quota.{max_channels, kept}
use Rattle.image.proofs.Parts.{part_ends}
use Rattle.job.proofs.Charges.{kept_places, kept_tab, open_split, open_above, open_within, opened_refused, opened_whole}
use Rattle.seq.proofs.Fronts.{sum_front}
use Rattle.seq.proofs.Tab.{fill_more, fill_whole}
use Rattle.seq.specs.Lists.{sum_of}
use Rattle.job.proofs.quota.open.Goals as goal

pub returns-in-Err : goal.returns-in-Err
returns-in-Err c = sym (opened_refused _ (open_split _ ∙ rw (sym c.check.ensures ∙ c.in-Err.is)))

pub returns-then-pool-reserve : goal.returns-then-pool-reserve
returns-then-pool-reserve c =
    let below : c.loop-i.i < length (kept c.args.quota) = omega (arith, c.loop-i-test.true, kept_places c.args.quota) in
    let above = part_ends (kept c.args.quota) c.loop-i.i below in
    rw c.refused.ensures
    (sym
    (opened_refused _
    (open_above _ (sym c.check.ensures ∙ c.in_default.is)
    (omega (arith, above, c.loop-i.invariant.1, c.if-pool-reserve.true, c.reserve_at-reserve.ensures)))))

pub loop-i-preserved : goal.loop-i-preserved
loop-i-preserved c =
    let below : c.loop-i.i < length (kept c.args.quota) = omega (arith, c.loop-i-test.true, kept_places c.args.quota) in
    let front = sum_front (kept c.args.quota) c.loop-i.i below in (
      fill_more c.loop-i.invariant.0 c.loop-i-test.true c.reserve_at-reserve.ensures,
      omega (arith, front, c.loop-i.invariant.1, c.if-pool-reserve.false, c.reserve_at-reserve.ensures),
    )

pub returns : goal.returns
returns c =
    let end : c.loop-i.i ≡ max_channels = omega arith in
    let whole = take_all c.loop-i.i (kept c.args.quota) (omega (arith, end, kept_places c.args.quota)) in
    let left = fill_whole (rw end at c.loop-i.invariant.0) ∙ kept_tab c.args.quota in
    let sum : c.loop-i.pool + sum_of (kept c.args.quota) ≡ c.args.quota.allowance = rw whole at c.loop-i.invariant.1 in
    let pool : c.loop-i.pool ≡ c.args.quota.allowance - sum_of (kept c.args.quota) = omega (arith, sum) in
    let accepted = open_within c.args.quota (sym c.check.ensures ∙ c.in_default.is) (omega (arith, sum)) in
    rw (c.accepted.ensures, left, pool) (sym (opened_whole c.args.quota accepted))
