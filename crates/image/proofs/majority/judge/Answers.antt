-- `image::majority::judge`: the sizes of the files one after the other, then 26. Assumes nothing.
use Rattle.std.proofs.Common.{sym, ◌∙◌}
use Rattle.std.proofs.lemmas.Result.{err_from_is_err_and}
use Rattle.image.proofs.ThreeFiles.{first_refused, second_refused, third_refused, second_differs, third_differs, one_size}
use Rattle.image.proofs.majority.judge.Goals as goal

pub returns-in_err-first : goal.returns-in_err-first
returns-in_err-first c =
    let p = err_from_is_err_and c.from_residual.result c.from_residual.ensures.1 in
    rw (p.1, p.2) (first_refused _ _ _ (sym c.in_err-first.ensures))

pub returns-in_err-second : goal.returns-in_err-second
returns-in_err-second c =
    let p = err_from_is_err_and c.from_residual-in_err-second.result c.from_residual-in_err-second.ensures.1 in
    rw (p.1, p.2) (second_refused _ _ _ (sym c.in_ok-first.ensures) (sym c.in_err-second.ensures))

pub returns-in_err-third : goal.returns-in_err-third
returns-in_err-third c =
    let p = err_from_is_err_and c.from_residual-in_err-third.result c.from_residual-in_err-third.ensures.1 in
    rw (p.1, p.2) (third_refused _ _ _ (sym c.in_ok-first.ensures) (sym c.in_ok-second.ensures) (sym c.in_err-third.ensures))

pub returns-then-ne : goal.returns-then-ne
returns-then-ne c =
    rw c.refused.ensures
    (second_differs _ _ _ (sym c.in_ok-first.ensures) (sym c.in_ok-second.ensures) (sym c.in_ok-third.ensures) (sym c.ne.ensures ∙ c.if-ne.true))

pub returns-then-ne-2 : goal.returns-then-ne-2
returns-then-ne-2 c =
    rw c.refused-then-ne-2.ensures
    (third_differs _ _ _ (sym c.in_ok-first.ensures) (sym c.in_ok-second.ensures) (sym c.in_ok-third.ensures) (sym c.ne.ensures ∙ c.if-ne.false)
    (sym c.ne-2.ensures ∙ c.if-ne-2.true))

pub returns : goal.returns
returns c =
    one_size _ _ _ (sym c.in_ok-first.ensures) (sym c.in_ok-second.ensures) (sym c.in_ok-third.ensures) (sym c.ne.ensures ∙ c.if-ne.false)
    (sym c.ne-2.ensures ∙ c.if-ne-2.false)
