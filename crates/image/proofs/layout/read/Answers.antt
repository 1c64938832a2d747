-- `image::layout::read` meets its contract. Assumes nothing.
use Rattle.verdict.specs.declared.Rule.TheVariants as why
use Rattle.std.proofs.Common.{◌≡◌, Some, None, sym, ◌∙◌, arith}
use Rattle.std.proofs.lemmas.Result.{err_from_is_err_and}
use Rattle.image.proofs.LayoutOf.{layout_header, layout_start, layout_size, layout_length, layout_image}
use Rattle.image.proofs.RowBytes.{raster_few, sides}
use Rattle.verdict.specs.Rules.{refusal}
use Rattle.image.proofs.layout.read.Goals as goal

pub returns-in_err-header : goal.returns-in_err-header
returns-in_err-header c =
    let p = err_from_is_err_and c.from_residual.result c.from_residual.ensures.1 in
    let was : c.read.result ≡ None = grind arith in
    let said : c.in_err-header.field-0.0 ≡ refusal why.HeaderForm 0 = grind arith in
    rw (p.1, p.2, said) (sym (layout_header _ (sym c.read.ensures ∙ was)))

pub returns-then-is_bad : goal.returns-then-is_bad
returns-then-is_bad c =
    let was : c.read.result ≡ Some c.in_ok-header.header = grind arith in
    rw c.refused.ensures (sym (layout_size _ (sym c.read.ensures ∙ was) (sym c.is_bad.ensures ∙ c.if-is_bad.true)))

pub overflow_sub-file : goal.overflow_sub-file
overflow_sub-file c =
    let was : c.read.result ≡ Some c.in_ok-header.header = grind arith in
    layout_start _ (sym c.read.ensures ∙ was)

pub overflow_mul-row_bytes : goal.overflow_mul-row_bytes
overflow_mul-row_bytes c =
    omega (arith, raster_few (sides _ _ (sym c.is_bad.ensures ∙ c.if-is_bad.false)) c.row_bytes.ensures)

pub returns-then-file-header : goal.returns-then-file-header
returns-then-file-header c =
    let was : c.read.result ≡ Some c.in_ok-header.header = grind arith in
    rw c.refused-then-file-header.ensures
    (sym (layout_length _ (sym c.read.ensures ∙ was) c.row_bytes.ensures (sym c.is_bad.ensures ∙ c.if-is_bad.false) c.if-file-header.true))

pub returns : goal.returns
returns c =
    let was : c.read.result ≡ Some c.in_ok-header.header = grind arith in
    sym (layout_image _ (sym c.read.ensures ∙ was) c.row_bytes.ensures (sym c.is_bad.ensures ∙ c.if-is_bad.false) c.if-file-header.false)
