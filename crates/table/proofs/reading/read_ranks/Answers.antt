-- `reading::read_ranks` meets its contract, in each form of the file.
-- Assumes nothing.
use mathlib.Core.Path.{sym, ◌∙◌}
use Rattle.table.proofs.Parts.{ranks_single, ranks_judges, ranks_read}
use Rattle.table.proofs.reading.read_ranks.Goals as goal

pub returns-then-not-has_several : goal.returns-then-not-has_several
returns-then-not-has_several c = ranks_single _ _ _ c.requires.0 c.requires.2 (sym c.if-not-has_several.true ∙ c.requires.1)

pub returns-then-is_bad_ranks : goal.returns-then-is_bad_ranks
returns-then-is_bad_ranks c =
    let n = c.in_ok-number in
    rw c.refused.ensures
    (ranks_judges _ _ _ c.requires.0 c.requires.2 (sym c.if-not-has_several.false ∙ c.requires.1) n.ensures.0 n.ensures.1 (sym c.if-is_bad_ranks.ensures))

pub returns : goal.returns
returns c =
    let n = c.in_ok-number in
    let form = sym c.if-not-has_several.false ∙ c.requires.1 in
    let good = sym c.if-is_bad_ranks.ensures in
    (ranks_judges _ _ _ c.requires.0 c.requires.2 form n.ensures.0 n.ensures.1 good, ranks_read _ _ _ c.requires.0 c.requires.2 form n.ensures.0 n.ensures.1 good)
