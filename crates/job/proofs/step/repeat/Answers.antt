-- `job::step::repeat` meets its contract: the filter starts from the area that the parity names, with what the record leaves, and refuses nothing.
-- Assumes nothing.
use Rattle.history.proofs.Ready.{ready_small}
use Rattle.job.proofs.Concluded.{holds_even, holds_odd, repeats, never_refused, fits, made_even, made_odd}
use Rattle.job.proofs.step.repeat.Goals as goal

pub allow-budget-requires : goal.allow-budget-requires
allow-budget-requires c = (ready_small c.requires.0.0, c.requires.0.0.passes, c.requires.0.0.counts)

pub returns-in_err-repeated : goal.returns-in_err-repeated
returns-in_err-repeated c =
    absurd
    (never_refused c.requires.0.0 c.requires.0.1 c.requires.1 _ (holds_even c.requires.0.0 c.if-job-eq0.true)
    (rw c.allow-budget.ensures at c.repeat.ensures) c.in_err-repeated.was)

pub conclude-requires : goal.conclude-requires
conclude-requires c =
    let k = holds_even c.requires.0.0 c.if-job-eq0.true in
    let f = repeats c.requires.0.0 c.requires.0.1 c.requires.1 _ k (rw c.allow-budget.ensures at c.repeat.ensures) c.in_ok-repeated.was in
    rw c.of_one.ensures (fits c.requires.0.0 c.requires.0.1 c.requires.1 _ k f.0)

pub returns-in_ok-repeated : goal.returns-in_ok-repeated
returns-in_ok-repeated c =
    let k = holds_even c.requires.0.0 c.if-job-eq0.true in
    let f = repeats c.requires.0.0 c.requires.0.1 c.requires.1 _ k (rw c.allow-budget.ensures at c.repeat.ensures) c.in_ok-repeated.was in
    made_even c.requires.0.0 c.requires.0.1 c.requires.1 _ c.of_one.ensures c.conclude.ensures c.if-job-eq0.true f

pub returns-in_err-repeated-2 : goal.returns-in_err-repeated-2
returns-in_err-repeated-2 c =
    absurd
    (never_refused c.requires.0.0 c.requires.0.1 c.requires.1 _ (holds_odd c.requires.0.0 c.if-job-eq0.false)
    (rw c.allow-budget.ensures at c.repeat-else-job-eq0.ensures) c.in_err-repeated-2.was)

pub conclude-requires-else-job-eq0 : goal.conclude-requires-else-job-eq0
conclude-requires-else-job-eq0 c =
    let k = holds_odd c.requires.0.0 c.if-job-eq0.false in
    let f = repeats c.requires.0.0 c.requires.0.1 c.requires.1 _ k (rw c.allow-budget.ensures at c.repeat-else-job-eq0.ensures) c.in_ok-repeated-2.was in
    rw c.of_one-else-job-eq0.ensures (fits c.requires.0.0 c.requires.0.1 c.requires.1 _ k f.0)

pub returns-in_ok-repeated-2 : goal.returns-in_ok-repeated-2
returns-in_ok-repeated-2 c =
    let k = holds_odd c.requires.0.0 c.if-job-eq0.false in
    let f = repeats c.requires.0.0 c.requires.0.1 c.requires.1 _ k (rw c.allow-budget.ensures at c.repeat-else-job-eq0.ensures) c.in_ok-repeated-2.was in
    made_odd c.requires.0.0 c.requires.0.1 c.requires.1 _ c.of_one-else-job-eq0.ensures c.conclude-else-job-eq0.ensures c.if-job-eq0.false f
