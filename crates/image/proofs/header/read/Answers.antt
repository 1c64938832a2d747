-- `image::header::read` meets its contract. Assumes nothing.
use mathlib.Core.Bool.{true}
use mathlib.Core.Path.{◌≡◌, sym, ◌∙◌}
use Rattle.image.specs.Header.{starts_magic}
use Rattle.image.proofs.HeaderOf.{no_magic, no_width, no_height, header_found}
use Rattle.image.proofs.header.read.Goals as goal

pub returns-then-not-starts_magic : goal.returns-then-not-starts_magic
returns-then-not-starts_magic c = sym (no_magic _ (sym c.starts_magic.ensures ∙ c.if-not-starts_magic.true))

pub returns-in_err-width : goal.returns-in_err-width
returns-in_err-width c =
    let magic : starts_magic c.args.file.now ≡ true = sym c.starts_magic.ensures ∙ c.if-not-starts_magic.false in
    c.from_residual.ensures ∙ sym (no_width _ magic (sym (c.in_err-width.ensures)))

pub returns-in_err-height : goal.returns-in_err-height
returns-in_err-height c =
    let magic : starts_magic c.args.file.now ≡ true = sym c.starts_magic.ensures ∙ c.if-not-starts_magic.false in
    c.from_residual-in_err-height.ensures ∙ sym (no_height _ magic (sym (c.in_ok-width.ensures)) (sym (c.in_err-height.ensures)))

pub returns : goal.returns
returns c =
    let magic : starts_magic c.args.file.now ≡ true = sym c.starts_magic.ensures ∙ c.if-not-starts_magic.false in
    sym (header_found _ magic (sym (c.in_ok-width.ensures)) (sym (c.in_ok-height.ensures)))
