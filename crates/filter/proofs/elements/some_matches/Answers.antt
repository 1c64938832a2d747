-- `elements::some_matches` meets its contract. Assumes nothing.
use mathlib.Core.Path.{◌∙◌}
use Rattle.filter.proofs.ElementsLaws.{matched_within}
use Rattle.filter.proofs.elements.some_matches.Goals as goal

pub returns : goal.returns
returns c =
    c.some_within.ensures ∙ matched_within _ c.requires.0 _ _ _ c.mask_of.ensures
