-- `filter::apply::pass` meets its contract: the table's verdict, then `again`. Assumes nothing.
use Rattle.std.proofs.lemmas.Result.{err_from_is_err_and}
use mathlib.Core.Path.{sym, ◌∙◌}
use Rattle.filter.proofs.PassCodeApplied.{pass_refused, pass_again}
use Rattle.filter.proofs.apply.pass.Goals as goal

pub returns-in_err-check : goal.returns-in_err-check
returns-in_err-check c =
    let p = err_from_is_err_and c.from_residual.result c.from_residual.ensures.1 in
    rw (p.1, p.2) (pass_refused _ _ _ _ _ (sym c.check.ensures ∙ c.in_err-check.was))

pub returns : goal.returns
returns c =
    pass_again _ _ _ _ _ (sym c.check.ensures ∙ c.in_ok-check.was) c.again.ensures
