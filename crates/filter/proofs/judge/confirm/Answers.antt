-- `judge::confirm` meets its contract. The invariant: a candidate is kept exactly if it is left or some element matches its window.
-- Assumes nothing.
use mathlib.Core.Path.{◌∙◌}
use Rattle.filter.proofs.JudgeLaws.{held_at, judging_all, judging_place, judging_yes, judging_no}
use Rattle.filter.proofs.WordLaws.{lowest}
use Rattle.filter.proofs.judge.confirm.Goals as goal

pub overflow_sub-left : goal.overflow_sub-left
overflow_sub-left c = (lowest _ c.loop-left-test.true c.loop-left.invariant.fits).within

pub overflow_sub-kept : goal.overflow_sub-kept
overflow_sub-kept c =
    judging_place c.loop-left.invariant (lowest _ c.loop-left-test.true c.loop-left.invariant.fits)

pub loop-left-preserved-then-not-some_matches : goal.loop-left-preserved-then-not-some_matches
loop-left-preserved-then-not-some_matches c =
    judging_no c.loop-left.invariant (lowest _ c.loop-left-test.true c.loop-left.invariant.fits) (held_at _ _ _ _ c.gather-win.ensures c.some_matches.ensures ∙ c.if-not-some_matches.true)

pub loop-left-preserved : goal.loop-left-preserved
loop-left-preserved c =
    judging_yes c.loop-left.invariant (lowest _ c.loop-left-test.true c.loop-left.invariant.fits) (held_at _ _ _ _ c.gather-win.ensures c.some_matches.ensures ∙ c.if-not-some_matches.false)

pub returns : goal.returns
returns c = judging_all c.loop-left.invariant c.loop-left-test.false
