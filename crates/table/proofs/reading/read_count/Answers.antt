-- `reading::read_count` meets its contract: the rules on the element count.
-- Assumes nothing.
use mathlib.Core.Path.{sym}
use Rattle.table.proofs.Parts.{count_judges, count_read}
use Rattle.table.proofs.reading.read_count.Goals as goal

pub returns-then-is_bad_count : goal.returns-then-is_bad_count
returns-then-is_bad_count c =
    rw c.refused.ensures (count_judges _ _ c.requires c.in_ok-number.ensures.0 c.in_ok-number.ensures.1 (sym c.if-is_bad_count.ensures))

pub returns : goal.returns
returns c =
    let n = c.in_ok-number in
    let good = sym c.if-is_bad_count.ensures in
    (count_judges _ _ c.requires n.ensures.0 n.ensures.1 good, count_read _ _ c.requires n.ensures.0 n.ensures.1 good)
