-- `strip::pass` meets its contract. Assumes nothing.
use Rattle.std.proofs.lemmas.Result.{err_from_is_err_and}
use mathlib.Core.Path.{refl, sym, ◌∙◌}
use Rattle.filter.proofs.CrossLaws.{read_size, read_refused, crossing, pass_refused, pass_crossed}
use Rattle.filter.proofs.strip.pass.Goals as goal

pub returns-in_err-size : goal.returns-in_err-size
returns-in_err-size c =
    let p = err_from_is_err_and c.from_residual.result c.from_residual.ensures.1 in
    rw (p.1, p.2) (pass_refused _ _ _ _ _ (read_refused _ _ _ (sym c.admit.ensures ∙ c.in_err-size.was)))

pub invariant_of-scene : goal.invariant_of-scene
invariant_of-scene c =
    let s = read_size _ (sym c.admit.ensures ∙ c.in_ok-size.was) in
    let k = crossing _ _ _ _ s.0 in
    record { tall = rw (s.1, s.2) k.tall }

pub cross-requires : goal.cross-requires
cross-requires c =
    let s = read_size _ (sym c.admit.ensures ∙ c.in_ok-size.was) in
    let k = crossing _ _ _ _ s.0 in
    rw (s.1, s.2) (refl, refl, k.parts, k.room)

pub returns : goal.returns
returns c =
    let s = read_size _ (sym c.admit.ensures ∙ c.in_ok-size.was) in
    pass_crossed _ _ _ _ _ s.0 (rw (s.1, s.2) at c.cross.ensures)
