-- `apply::is_ranged` meets its contract.
-- Assumes nothing.
use mathlib.Core.Path.{refl}
use Rattle.filter.proofs.PassCodeChecks.{ranged_of, unranged, each_valid}
use Rattle.filter.proofs.apply.is_ranged.Goals as goal

pub returns-then-table-gt-MAX_ELEMENTS : goal.returns-then-table-gt-MAX_ELEMENTS
returns-then-table-gt-MAX_ELEMENTS c = unranged _ c.then-table-gt-MAX_ELEMENTS.either

pub returns : goal.returns
returns c = ranged_of _ c.if-table-gt-MAX_ELEMENTS.false c.if-table-gt-MAX_RANKS.false refl (each_valid _ _ c.are_valid.ensures)
