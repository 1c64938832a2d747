-- `image::strip::read` meets its contract. Assumes nothing.
use Rattle.std.proofs.lemmas.Result.{err_from_is_err_and}
use mathlib.Core.Path.{sym}
use Rattle.image.proofs.StripOf.{read_refused, read_short, read_whole, accepted_shape}
use Rattle.image.proofs.strip.read.Goals as goal

pub returns-in_err-check : goal.returns-in_err-check
returns-in_err-check c =
    let p = err_from_is_err_and c.from_residual.result c.from_residual.ensures.1 in
    rw (p.1, p.2) (read_refused _ _ (sym c.in_err-check.ensures) _)

pub returns-then-area-pixels : goal.returns-then-area-pixels
returns-then-area-pixels c =
    rw c.refused.ensures (read_short _ _ (sym c.in_ok-check.ensures) _ c.if-area-pixels.true)

pub whole-requires : goal.whole-requires
whole-requires c =
    accepted_shape _ _ (sym c.in_ok-check.ensures)

pub returns : goal.returns
returns c =
    rw c.whole.ensures (read_whole _ _ (sym c.in_ok-check.ensures) _ c.if-area-pixels.false c.copy.ensures)
