-- `apply::admit` meets its contract.
-- Assumes nothing.
use Rattle.std.proofs.lemmas.Result.{err_from_is_err_and}
use mathlib.Core.Path.{sym, ◌∙◌}
use Rattle.filter.proofs.RepeatLaws.{admit_refused, admit_checked}
use Rattle.filter.proofs.apply.admit.Goals as goal

pub returns-in_err-check : goal.returns-in_err-check
returns-in_err-check c =
    let p = err_from_is_err_and c.from_residual.result c.from_residual.ensures.1 in
    rw (p.1, p.2) (admit_refused _ _ _ _ _ (sym c.check.ensures ∙ c.in_err-check.was))

pub returns : goal.returns
returns c =
    c.check-2.ensures ∙ admit_checked _ _ _ _ _ _ (sym c.check.ensures ∙ c.in_ok-check.was) c.front.ensures
