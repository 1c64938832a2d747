-- `job::cross::advance` meets its contract: what is left to make from where the loop stands is what was to make. Assumes nothing.
use Rattle.std.specs.Prelude.{Ok, Err}
use mathlib.Core.Path.{◌≡◌, ap, ◌∙◌}
use borrow.Author.Rules.{rules}
use Rattle.history.specs.Answers.{Passed}
use Rattle.job.proofs.StripRuns.{more, ends_stable, ends_refused, all}
use Rattle.job.proofs.cross.advance.Goals as goal

pub loop-passes-preserved : goal.loop-passes-preserved
loop-passes-preserved c =
    more c.loop-passes.invariant c.loop-passes-test.true c.pass.ensures (c.in_ok-pass.was ∙ ap Ok c.in-Changed.is)

pub returns-in-Stable : goal.returns-in-Stable
returns-in-Stable c =
    ends_stable c.loop-passes.invariant c.loop-passes-test.true c.pass.ensures (c.in_ok-pass.was ∙ ap Ok c.in-Stable.is)

pub returns-in_err-pass : goal.returns-in_err-pass
returns-in_err-pass c =
    let left : ◌≡◌ {A = Passed} c.from_residual.result (Err c.in_err-pass.field-0.0) = search rules in
    rw left (ends_refused c.loop-passes.invariant c.loop-passes-test.true c.pass.ensures c.in_err-pass.was)

pub returns : goal.returns
returns c = all c.loop-passes.invariant c.loop-passes-test.false
