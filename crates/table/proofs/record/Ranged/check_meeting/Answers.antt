-- `record::Ranged::check_meeting` meets its contract: a search over the elements.
-- Assumes nothing.
use Rattle.std.specs.Prelude.{is_some}
use mathlib.Core.Path.{sym, ap, ◌∙◌}
use native.Mathlib.Omega.{arith}
use Rattle.seq.proofs.Search.{passed_found, passed_all}
use Rattle.table.proofs.Verdicts.{apart_lt, meet_refused}
use Rattle.table.proofs.record.Ranged.check_meeting.Goals as goal

pub overflow_add-j : goal.overflow_add-j
overflow_add-j c = omega (arith, apart_lt _ _ (sym c.in-Some.ensures))

pub returns-in-Some : goal.returns-in-Some
returns-in-Some c =
    let apart = sym c.disjoint_from.ensures ∙ c.in-Some.is in
    c.refused_for.ensures ∙ sym (meet_refused _ (sym (passed_found c.loop-k.invariant c.loop-k-test.true (ap is_some apart))) apart)

pub returns : goal.returns
returns c = rw (sym (passed_all c.loop-k.invariant c.loop-k-test.false))
