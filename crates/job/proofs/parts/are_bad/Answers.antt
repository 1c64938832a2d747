-- `job::parts::are_bad`: test by test, in the definition's order. Assumes nothing.
use mathlib.Core.Path.{sym, ap, ◌∙◌}
use mathlib.Core.Bool.{not}
use Rattle.job.proofs.PartTests.{bad_shape, few_parts, bad_size_lem, bad_past, bad_counts}
use Rattle.job.proofs.parts.are_bad.Goals as goal

pub returns-in-Err : goal.returns-in-Err
returns-in-Err c = bad_shape _ (sym c.check_shape.ensures ∙ c.in-Err.is)

pub is_size-requires : goal.is_size-requires
is_size-requires c = few_parts c.args.job.now c.check_shape.ensures c.in_default.is

pub returns-then-not-is_size : goal.returns-then-not-is_size
returns-then-not-is_size c =
    bad_size_lem _ c.check_shape.ensures c.in_default.is (sym (ap not c.is_size.ensures) ∙ ap not c.if-not-is_size.true)

pub any_past-requires : goal.any_past-requires
any_past-requires c = few_parts c.args.job.now c.check_shape.ensures c.in_default.is

pub returns-then-any_past : goal.returns-then-any_past
returns-then-any_past c =
    bad_past _ c.check_shape.ensures c.in_default.is (sym (ap not c.is_size.ensures) ∙ ap not c.if-not-is_size.false)
    (sym c.any_past.ensures ∙ c.if-any_past.true)

pub returns : goal.returns
returns c =
    ap not c.are_counts.ensures
    ∙ bad_counts _ c.check_shape.ensures c.in_default.is (sym (ap not c.is_size.ensures) ∙ ap not c.if-not-is_size.false)
    (sym c.any_past.ensures ∙ c.if-any_past.false)
