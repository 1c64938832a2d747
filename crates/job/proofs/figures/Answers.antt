-- `job::figures`: on a sound record the counts are small, each pixel is 0 or 1, and there is one.
-- Assumes nothing.
use Rattle.std.specs.Prelude.{Err}
use borrow.Author.Rules.{rules}
use Rattle.std.specs.Prelude.{Err}
use Rattle.history.specs.Answers.{Figured}
use mathlib.Core.Path.{◌≡◌, sym, ◌∙◌}
use Prim.Native.Nat.{◌+◌, ◌≤◌}
use native.Mathlib.Omega.{arith}
use Rattle.image.specs.Strip.{max_strip}
use Rattle.job.proofs.Balance.{balance_stored}
use Rattle.history.proofs.Ready.{ready_image, ready_small, ready_some}
use Rattle.job.proofs.Views.{ready_by, figures_refused, figures_shown, black_of_lem, few_black}
use Rattle.job.proofs.figures.Goals as goal

pub returns-in_err-ready : goal.returns-in_err-ready
returns-in_err-ready c =
    let left : ◌≡◌ {A = Figured} c.from_residual.result (Err c.in_err-ready.field-0.0) = search rules in
    rw left (figures_refused _ (sym c.ready.ensures ∙ c.in_err-ready.was))

pub image-requires : goal.image-requires
image-requires c =
    let ready = ready_by c.ready.ensures c.in_ok-ready.was in
    (ready.first, ready.second)

pub black-black-requires : goal.black-black-requires
black-black-requires c =
    let ready = ready_by c.ready.ensures c.in_ok-ready.was in
    rw c.image.ensures (ready_image ready).binary

pub balance-balance-requires : goal.balance-balance-requires
balance-balance-requires c =
    let ready = ready_by c.ready.ensures c.in_ok-ready.was in
    let few = ready_small ready in
    omega (arith, ready.counts)

pub overflow_mul-job : goal.overflow_mul-job
overflow_mul-job c =
    omega (arith, ready_small (ready_by c.ready.ensures c.in_ok-ready.was))

pub cover-cover-requires : goal.cover-cover-requires
cover-cover-requires c =
    let ready = ready_by c.ready.ensures c.in_ok-ready.was in
    (ready_some ready, few_black ready (black_of_lem c.image.ensures c.black-black.ensures))

pub returns : goal.returns
returns c =
    let accepted = sym c.ready.ensures ∙ c.in_ok-ready.was in
    let ready = ready_by c.ready.ensures c.in_ok-ready.was in
    let few = ready_small ready in
    let summed : c.args.job.added + c.args.job.removed ≤ max_strip = omega (arith, ready.counts) in
    figures_shown _ accepted (black_of_lem c.image.ensures c.black-black.ensures)
    (balance_stored _ _ summed c.balance-balance.ensures)
    c.cover-cover.ensures
