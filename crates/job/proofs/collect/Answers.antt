-- `job::collect`: 14 and 16, then 17, then the writer.
-- Assumes nothing.
use Rattle.std.specs.Prelude.{Err}
use borrow.Author.Rules.{rules}
use Rattle.std.specs.Prelude.{Err}
use Rattle.verdict.specs.Writer.{Written}
use mathlib.Core.Path.{◌≡◌, sym, ◌∙◌}
use Rattle.job.proofs.Collects.{same_pixels, unready, unsettled, written, unwritten}
use Rattle.job.proofs.Views.{ready_by}
use Rattle.job.proofs.collect.Goals as goal

pub returns-in_err-ready : goal.returns-in_err-ready
returns-in_err-ready c =
    let left : ◌≡◌ {A = Written} c.from_residual.result (Err c.in_err-ready.field-0.0) = search rules in
    rw left (unready _ _ (sym c.ready.ensures ∙ c.in_err-ready.was))

pub returns-then-job-eq-LOADED : goal.returns-then-job-eq-LOADED
returns-then-job-eq-LOADED c =
    rw c.refused.ensures (unsettled _ _ (sym c.ready.ensures ∙ c.in_ok-ready.was) c.if-job-eq-LOADED.true)

pub image-requires : goal.image-requires
image-requires c =
    let ready = ready_by c.ready.ensures c.in_ok-ready.was in
    (ready.first, ready.second)

pub returns-in_err-length : goal.returns-in_err-length
returns-in_err-length c =
    let done = same_pixels _ _ c.image.ensures c.write.ensures in
    let left : ◌≡◌ {A = Written} c.from_residual-in_err-length.result (Err c.in_err-length.field-0.0) = search rules in
    rw (left, sym c.in_err-length.was)
    (unwritten _ _ (sym c.ready.ensures ∙ c.in_ok-ready.was) c.if-job-eq-LOADED.false done.0 done.1 c.in_err-length.was)

pub returns : goal.returns
returns c =
    let done = same_pixels _ _ c.image.ensures c.write.ensures in
    rw c.in_ok-length.was at
    (written _ _ (sym c.ready.ensures ∙ c.in_ok-ready.was) c.if-job-eq-LOADED.false done.0 done.1 c.in_ok-length.was c.empty.ensures)
