-- `reading::read_masks` meets its contract: mask after mask, by the rules on each.
-- Assumes nothing.
use mathlib.Core.Path.{sym}
use Rattle.std.proofs.lemmas.Result.{err_from_is_err_and}
use Rattle.table.proofs.Steps.{stepped_none, stepped_more, stepped_refused, stepped_bad, stepped_all}
use Rattle.table.proofs.reading.read_masks.Goals as goal

pub loop-k-init : goal.loop-k-init
loop-k-init g c = stepped_none _ _ _ _ _ _

pub returns-in_err-number : goal.returns-in_err-number
returns-in_err-number g c =
    let p = err_from_is_err_and c.from_residual.result c.from_residual.ensures.1 in
    rw (p.1, p.2) (stepped_refused c.loop-k.invariant c.requires.0 c.loop-k-test.true c.in_err-number.ensures)

pub returns-then-is_bad_after : goal.returns-then-is_bad_after
returns-then-is_bad_after g c =
    let n = c.in_ok-number in
    rw (c.refused.ensures, c.range_rule.ensures)
    (stepped_bad c.loop-k.invariant c.requires.0 c.loop-k-test.true n.ensures.0 n.ensures.1 (sym c.if-is_bad_after.ensures))

pub loop-k-preserved : goal.loop-k-preserved
loop-k-preserved g c =
    let n = c.in_ok-number in
    stepped_more c.loop-k.invariant c.requires.0 c.loop-k-test.true n.ensures.0 n.ensures.1 (sym c.if-is_bad_after.ensures)

pub returns : goal.returns
returns g c = stepped_all c.loop-k.invariant c.loop-k-test.false
