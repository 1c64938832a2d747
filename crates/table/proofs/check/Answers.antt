-- `check` meets its contract: the first rule that fails speaks.
-- Assumes nothing.
use mathlib.Core.Path.{◌≡◌, sym, ◌∙◌}
use native.Mathlib.Omega.{arith}
use borrow.Author.Rules.{rules}
use lib.ListN.{length}
use Rattle.table.specs.declared.mask.Kind.TheVariants.{Element}
use Rattle.table.specs.Record.{max_elements}
use Rattle.table.proofs.Places.{place_lt}
use Rattle.table.proofs.Verdicts.{lowest_bad_element, element_found, count_le, places_search, record_count, record_place, record_persistents}
use Rattle.table.proofs.check.Goals.{After-first_bad}
use Rattle.table.proofs.check.Goals as goal

-- the search is for the lowest place that breaks rule 4
lowest : (c : After-first_bad) → lowest_bad_element c.args.table ≡ c.first_bad.result
lowest c = let whole : length c.args.table.elements ≡ max_elements = search rules in sym (c.first_bad.ensures ∙ places_search _ whole)

pub returns-then-is_bad_count : goal.returns-then-is_bad_count
returns-then-is_bad_count c = c.refused.ensures ∙ sym (record_count _ (sym c.if-is_bad_count.ensures))

pub overflow_add-k : goal.overflow_add-k
overflow_add-k c = omega (arith, element_found _ (lowest (goal.at.overflow_add-k c).After-first_bad ∙ c.in-Some.is))

pub returns-in-Some : goal.returns-in-Some
returns-in-Some c =
    c.refused-in-Some.ensures
    ∙ sym (record_place _ (sym c.if-is_bad_count.ensures) _ (lowest (goal.at.returns-in-Some c).After-first_bad ∙ c.in-Some.is))

pub check_persistents-requires : goal.check_persistents-requires
check_persistents-requires c =
    let whole : length c.args.table.elements ≡ max_elements = search rules in
    let few = count_le _ (sym c.if-is_bad_count.ensures) in
    (few, place_lt Element _ _ (sym c.first_bad.ensures ∙ c.in_default.is) (omega (arith, whole)))

pub returns : goal.returns
returns c =
    c.check_persistents.ensures
    ∙ sym (record_persistents _ (sym c.if-is_bad_count.ensures) (lowest (goal.at.returns c).After-first_bad ∙ c.in_default.is))
