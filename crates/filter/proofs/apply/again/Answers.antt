-- `filter::apply::again` meets its contract: what is refused, then the pass by packed planes. Assumes nothing.
use Rattle.std.proofs.lemmas.Result.{err_from_is_err_and}
use Rattle.std.specs.Prelude.{Ok}
use mathlib.Core.Path.{◌≡◌, sym, ◌∙◌}
use lib.ListN.{length}
use Rattle.image.proofs.PixelsOf.{pixels_good}
use Rattle.image.proofs.RowBytes.{sides}
use Rattle.filter.specs.Applied.{again_verdict}
use Rattle.filter.proofs.PassCodeApplied.{fits, again_refused, again_filled}
use Rattle.filter.proofs.apply.again.Goals as goal

pub returns-in_err-check : goal.returns-in_err-check
returns-in_err-check c =
    let p = err_from_is_err_and c.from_residual.result c.from_residual.ensures.1 in
    rw (p.1, p.2) (again_refused _ _ _ _ _ (sym c.check.ensures ∙ c.in_err-check.was))

pub filtered-requires : goal.filtered-requires
filtered-requires c =
    let accepted : again_verdict c.args.table c.args.width c.args.height c.args.pixels.now (length c.args.next.now) ≡ Ok tt = sym c.check.ensures ∙ c.in_ok-check.was in
    let f = fits _ _ _ _ _ accepted in
    (f.in_range, f.image, f.room)

pub invariant_of-filtered : goal.invariant_of-filtered
invariant_of-filtered c =
    let accepted : again_verdict c.args.table c.args.width c.args.height c.args.pixels.now (length c.args.next.now) ≡ Ok tt = sym c.check.ensures ∙ c.in_ok-check.was in
    let f = fits _ _ _ _ _ accepted in
    let s = sides _ _ (pixels_good _ _ _ f.good).size in
    record { wide = f.image.wide; narrow = s.narrow; low = s.short }

pub returns : goal.returns
returns c =
    let accepted : again_verdict c.args.table c.args.width c.args.height c.args.pixels.now (length c.args.next.now) ≡ Ok tt = sym c.check.ensures ∙ c.in_ok-check.was in
    again_filled _ _ _ _ _ accepted c.filtered.ensures
