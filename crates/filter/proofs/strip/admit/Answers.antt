-- `strip::admit` meets its contract: the table's verdict, the strip's, then 13. Assumes nothing.
use Rattle.std.proofs.lemmas.Result.{err_from_is_err_and}
use Rattle.std.specs.Prelude.{Ok}
use mathlib.Core.Path.{◌≡◌, sym, ◌∙◌}
use native.Mathlib.Omega.{arith}
use Rattle.filter.proofs.CrossLaws.{read_size, read_refused, strip_tall, admit_table, admit_strip, admit_short, admit_all}
use Rattle.filter.proofs.StripLaws.{area_few}
use Rattle.table.specs.Record.{record_verdict}
use Rattle.filter.proofs.strip.admit.Goals as goal

pub returns-in_err-check : goal.returns-in_err-check
returns-in_err-check c =
    let p = err_from_is_err_and c.from_residual.result c.from_residual.ensures.1 in
    rw (p.1, p.2) (admit_table _ _ _ _ (sym c.check.ensures ∙ c.in_err-check.was))

pub returns-in_err-size : goal.returns-in_err-size
returns-in_err-size c =
    let p = err_from_is_err_and c.from_residual-in_err-size.result c.from_residual-in_err-size.ensures.1 in
    let accepted : record_verdict c.args.table ≡ Ok tt = sym c.check.ensures ∙ c.in_ok-check.was in
    rw (p.1, p.2) (admit_strip _ _ _ _ accepted (read_refused _ _ _ (sym c.size_of.ensures ∙ c.in_err-size.was)))

pub overflow_mul-size : goal.overflow_mul-size
overflow_mul-size c =
    let accepted : record_verdict c.args.table ≡ Ok tt = sym c.check.ensures ∙ c.in_ok-check.was in
    let s = read_size _ (sym c.size_of.ensures ∙ c.in_ok-size.was) in
    rw (s.1, s.2) (omega (arith, area_few (strip_tall _ _ _ accepted s.0)))

pub returns-then-area-size : goal.returns-then-area-size
returns-then-area-size c =
    let accepted : record_verdict c.args.table ≡ Ok tt = sym c.check.ensures ∙ c.in_ok-check.was in
    let s = read_size _ (sym c.size_of.ensures ∙ c.in_ok-size.was) in
    rw c.refused.ensures (admit_short _ _ _ _ accepted s.0 (rw (s.1, s.2) at c.if-area-size.true))

pub returns : goal.returns
returns c =
    let accepted : record_verdict c.args.table ≡ Ok tt = sym c.check.ensures ∙ c.in_ok-check.was in
    let s = read_size _ (sym c.size_of.ensures ∙ c.in_ok-size.was) in
    sym c.in_ok-size.was ∙ c.size_of.ensures ∙ admit_all _ _ _ _ accepted s.0 (rw (s.1, s.2) at c.if-area-size.false)
