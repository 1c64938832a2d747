-- `job::step::passes`: 14 and 16, stage 2, then the passes. Assumes nothing.
use Rattle.job.proofs.Views.{ready_by}
use Rattle.job.proofs.step.passes.Goals as goal

pub advance-requires : goal.advance-requires
advance-requires c =
    (ready_by c.ready.ensures c.in_ok-ready.was, c.if-job-eq-STABLE.false)
