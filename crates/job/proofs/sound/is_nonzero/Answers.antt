-- `job::sound::is_nonzero`: the join of the numbers, then the places of the persistent elements, of the elements and of the parts.
-- Assumes nothing.
use mathlib.Core.Path.{sym, ◌∙◌}
use Rattle.job.proofs.Seen.{nonzero_join, nonzero_persistents, nonzero_elements, nonzero_parts}
use Rattle.job.proofs.sound.is_nonzero.Goals as goal

pub returns-then-sizes-counts-ne0 : goal.returns-then-sizes-counts-ne0
returns-then-sizes-counts-ne0 c = nonzero_join _ c.if-sizes-counts-ne0.true

pub returns-then-any_set : goal.returns-then-any_set
returns-then-any_set c = nonzero_persistents _ c.if-sizes-counts-ne0.false (sym c.any_set.ensures ∙ c.if-any_set.true)

pub returns-then-any_set-2 : goal.returns-then-any_set-2
returns-then-any_set-2 c =
    nonzero_elements _ c.if-sizes-counts-ne0.false (sym c.any_set-2.ensures ∙ c.if-any_set-2.true)

pub returns : goal.returns
returns c =
    c.any_past.ensures
    ∙ nonzero_parts _ c.if-sizes-counts-ne0.false (sym c.any_set.ensures ∙ c.if-any_set.false)
    (sym c.any_set-2.ensures ∙ c.if-any_set-2.false)
