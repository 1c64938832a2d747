-- `record::is_bad_place` meets its contract: past the count, at the first mask, and at a later one.
-- Assumes nothing.
use mathlib.Core.Path.{sym, ◌∙◌}
use native.Mathlib.Omega.{arith}
use Rattle.table.proofs.Places.{bad_first, bad_next, bad_within, bad_past}
use Rattle.table.proofs.record.is_bad_place.Goals as goal

pub returns-then-count-k : goal.returns-then-count-k
returns-then-count-k c = sym (bad_past _ _ _ _ c.if-count-k.true)

pub returns-then-k-eq0 : goal.returns-then-k-eq0
returns-then-k-eq0 c = c.is_bad_after.ensures ∙ sym (bad_within _ _ _ _ (omega arith) ∙ bad_first _ _ _ (omega arith))

pub returns : goal.returns
returns c = c.is_bad_after-2.ensures ∙ sym (bad_within _ _ _ _ (omega arith) ∙ bad_next _ _ _ (omega arith))
