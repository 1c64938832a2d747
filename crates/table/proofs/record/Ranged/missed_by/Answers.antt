-- `record::Ranged::missed_by` meets its contract: a search over the persistent elements.
-- Assumes nothing.
use Rattle.std.specs.Prelude.{is_some}
use mathlib.Core.Path.{sym, ap, ◌∙◌}
use Rattle.seq.proofs.Search.{passed_more, passed_found, passed_all}
use Rattle.table.specs.Record.{missed_by}
use Rattle.table.proofs.Places.{missed_is}
use Rattle.table.proofs.record.Ranged.missed_by.Goals as goal

pub returns-in-Some : goal.returns-in-Some
unfolding missed_by
returns-in-Some c =
    let alone = sym c.lowest_unpartnered.ensures ∙ c.in-Some.is in
    (sym (passed_found c.loop-rank.invariant c.loop-rank-test.true (missed_is _ _ ∙ ap is_some alone)), alone)

pub loop-rank-preserved : goal.loop-rank-preserved
loop-rank-preserved c =
    passed_more c.loop-rank.invariant c.loop-rank-test.true
    (missed_is _ _ ∙ ap is_some (sym c.lowest_unpartnered.ensures ∙ c.in_default.is))

pub returns : goal.returns
unfolding missed_by
returns c = sym (passed_all c.loop-rank.invariant c.loop-rank-test.false)
