-- `record::Ranged::check_persistence` meets its contract: a search over the elements.
-- Assumes nothing.
use Rattle.std.specs.Prelude.{is_some}
use mathlib.Core.Path.{sym, ap, ◌∙◌}
use native.Mathlib.Omega.{arith}
use Rattle.seq.proofs.Search.{passed_found, passed_all}
use Rattle.table.proofs.Verdicts.{missed_lt, persist_refused}
use Rattle.table.proofs.record.Ranged.check_persistence.Goals as goal

pub overflow_add-miss : goal.overflow_add-miss
overflow_add-miss c = omega (arith, missed_lt _ _ c.in-Some.ensures.0)

pub returns-in-Some : goal.returns-in-Some
returns-in-Some c =
    c.refused_for.ensures
    ∙ sym (persist_refused _ (sym (passed_found c.loop-k.invariant c.loop-k-test.true (ap is_some c.in-Some.ensures.0))) c.in-Some.ensures)

pub returns : goal.returns
returns c = rw (sym (passed_all c.loop-k.invariant c.loop-k-test.false))
