-- `job::cross::advance` meets its contract: what is left to make from where the loop stands is what was to make. Assumes nothing.
use Rattle.job.specs.Core.{at}
use Rattle.job.proofs.StripRuns.{Going}
use Rattle.job.proofs.cross.advance.Given as goal

abbrev pub invariant-loop-passes : goal.invariant-loop-passes
invariant-loop-passes l =
    Going l.limit (at l.initial.job l.initial.first l.initial.second) l._passes (at l.job l.first l.second)
