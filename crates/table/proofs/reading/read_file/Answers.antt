-- `reading::read_file` meets its contract: part after part of the file, of whose rules the first that fails speaks.
-- Assumes nothing.
use Rattle.std.specs.Prelude.{Ok}
use mathlib.Core.Path.{◌≡◌, sym, ap, ◌∙◌}
use native.Mathlib.Omega.{arith}
use lib.ListN.{drop}
use Rattle.table.specs.declared.mask.Kind.TheVariants.{Element, Persistent}
use Rattle.std.proofs.lemmas.Result.{err_from_is_err_and}
use Rattle.table.specs.declared.Table.{Table}
use Rattle.table.specs.File.{table_of, left_bytes, file_parts}
use Rattle.table.specs.Record.{meet_rule, persist_rule}
use Rattle.verdict.specs.Rules.{or_else}
use Rattle.table.proofs.Files.{Left, left_all, left_refused, left_last, last_bytes_lem, last_relations}
use Rattle.table.proofs.Parts.{few_elements, elements_judged, elements_past, elements_stored, place_le, persistents_judged, persistents_past, persistents_stored, behind_form, behind_count, behind_elements, behind_ranks, behind_persistents, last_table, masks_in_range}
use Rattle.table.proofs.reading.read_file.Goals.{In_ok-persistents, Else-persistents-file}
use Rattle.table.proofs.reading.read_file.Goals as goal

-- the parts that are left, behind the last number
behind_last : (c : In_ok-persistents) → Left c.args.file.now (drop 5 (file_parts c.args.file.now))
behind_last c =
    let n = c.in_ok-number.ensures in
    let w = c.in_ok-ranks.ensures in
    behind_persistents _ c.in_ok-form.ensures.0 n.0 n.1 c.in_ok-elements.ensures.0 w.0 w.1 c.in_ok-persistents.ensures.0

-- the bytes behind the last number, and the record that is read
last_bytes : (c : In_ok-persistents) → drop c.in_ok-persistents.persistents.at c.args.file.now ≡ left_bytes c.args.file.now
last_bytes c = persistents_past c.in_ok-ranks.ensures.1 c.in_ok-persistents.ensures.1

whole : (c : Else-persistents-file) → ◌≡◌ {A = Table} record { count = c.in_ok-number.number.value; elements = c.in_ok-elements.elements.masks; ranks = c.in_ok-ranks.ranks.count; persistents = c.in_ok-persistents.persistents.masks } (table_of c.args.file.now)
whole c =
    let n = c.in_ok-number.ensures.1 in
    let w = c.in_ok-ranks.ensures.1 in
    last_table w n.is (elements_stored n c.in_ok-elements.ensures.1) (persistents_stored w c.in_ok-persistents.ensures.1)

pub returns-in_err-form : goal.returns-in_err-form
returns-in_err-form c =
    let p = err_from_is_err_and c.from_residual.result c.from_residual.ensures.1 in
    rw (p.1, p.2) (left_refused (left_all _) c.in_err-form.ensures)

pub returns-in_err-number : goal.returns-in_err-number
returns-in_err-number c =
    let p = err_from_is_err_and c.from_residual-in_err-number.result c.from_residual-in_err-number.ensures.1 in
    rw (p.1, p.2) (left_refused (behind_form _ c.in_ok-form.ensures.0) c.in_err-number.ensures)

pub returns-in_err-elements : goal.returns-in_err-elements
returns-in_err-elements c =
    let p = err_from_is_err_and c.from_residual-in_err-elements.result c.from_residual-in_err-elements.ensures.1 in
    rw (p.1, p.2)
    (left_refused (behind_count _ c.in_ok-form.ensures.0 c.in_ok-number.ensures.0)
    (sym (elements_judged c.in_ok-number.ensures.1) ∙ c.in_err-elements.ensures))

pub read_ranks-requires : goal.read_ranks-requires
read_ranks-requires c =
    let n = c.in_ok-number.ensures.1 in
    (elements_past n c.in_ok-elements.ensures.1, c.in_ok-form.ensures.1.form, n.is, n.within)

pub returns-in_err-ranks : goal.returns-in_err-ranks
returns-in_err-ranks c =
    let p = err_from_is_err_and c.from_residual-in_err-ranks.result c.from_residual-in_err-ranks.ensures.1 in
    let n = c.in_ok-number.ensures in
    rw (p.1, p.2) (left_refused (behind_elements _ c.in_ok-form.ensures.0 n.0 n.1 c.in_ok-elements.ensures.0) c.in_err-ranks.ensures)

pub read_masks-requires-2 : goal.read_masks-requires-2
read_masks-requires-2 c =
    let w = c.in_ok-ranks.ensures.1 in
    (omega arith, (w.few, omega (arith, w.few), place_le w (few_elements c.in_ok-number.ensures.1)))

pub returns-in_err-persistents : goal.returns-in_err-persistents
returns-in_err-persistents c =
    let p = err_from_is_err_and c.from_residual-in_err-persistents.result c.from_residual-in_err-persistents.ensures.1 in
    let n = c.in_ok-number.ensures in
    rw (p.1, p.2)
    (left_refused (behind_ranks _ c.in_ok-form.ensures.0 n.0 n.1 c.in_ok-elements.ensures.0 c.in_ok-ranks.ensures.0)
    (sym (persistents_judged c.in_ok-ranks.ensures.1) ∙ c.in_err-persistents.ensures))

pub overflow_add-ranks : goal.overflow_add-ranks
overflow_add-ranks c =
    let w = c.in_ok-ranks.ensures.1 in
    omega (arith, place_le w (few_elements c.in_ok-number.ensures.1), w.few)

pub returns-then-persistents-file : goal.returns-then-persistents-file
returns-then-persistents-file c =
    let w = c.in_ok-ranks.ensures.1 in
    let p = (goal.at.returns-then-persistents-file c).In_ok-persistents in
    rw (c.refused.ensures, w.placed, w.is)
    (left_refused (behind_last p) (last_bytes_lem _ _ (last_bytes p) c.if-persistents-file.true))

pub invariant_of-relations : goal.invariant_of-relations
invariant_of-relations c =
    let n = c.in_ok-number.ensures.1 in
    let w = c.in_ok-ranks.ensures.1 in
    record {
      few = n.within;
      few_ranks = w.few;
      element_lt = masks_in_range Element _ _ 1 _ _ _ c.in_ok-elements.ensures.1 c.in_ok-elements.ensures.0 n.within;
      persistent_lt = masks_in_range Persistent _ _ c.in_ok-ranks.ranks.place _ _ _ c.in_ok-persistents.ensures.1 c.in_ok-persistents.ensures.0 w.few;
    }

pub returns-in_err-relations : goal.returns-in_err-relations
returns-in_err-relations c =
    let p = err_from_is_err_and c.from_residual-in_err-relations.result c.from_residual-in_err-relations.ensures.1 in
    let at = goal.at.returns-in_err-relations c in
    rw (p.1, p.2)
    (left_refused (behind_last at.In_ok-persistents)
    (last_relations _ _ (last_bytes at.In_ok-persistents) c.if-persistents-file.false
    ∙ ap (λ (t : Table). or_else (meet_rule t) (persist_rule t)) (sym (whole at.Else-persistents-file)) ∙ sym c.in_err-relations.ensures))

pub returns : goal.returns
returns c =
    let at = goal.at.returns c in
    ap (λ (t : Table). Ok t) (whole at.Else-persistents-file)
    ∙ left_last (behind_last at.In_ok-persistents)
    (last_relations _ _ (last_bytes at.In_ok-persistents) c.if-persistents-file.false
    ∙ ap (λ (t : Table). or_else (meet_rule t) (persist_rule t)) (sym (whole at.Else-persistents-file)) ∙ sym c.in_ok-relations.ensures)
