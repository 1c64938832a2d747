-- `image::read` meets its contract. Assumes nothing.
use Rattle.std.proofs.lemmas.Result.{err_from_is_err_and}
use mathlib.Core.Path.{sym}
use Rattle.image.proofs.ReadOf.{read_refused, read_sides, read_start, read_length, read_image}
use Rattle.image.proofs.read.Goals as goal

pub slice_bounds-fill-count : goal.slice_bounds-fill-count
slice_bounds-fill-count c =
    read_start c.args.file.now (sym c.in_ok-header.ensures)

pub slice_bounds-fill-start : goal.slice_bounds-fill-start
slice_bounds-fill-start c =
    read_start c.args.file.now (sym c.in_ok-header.ensures)

pub fill-requires : goal.fill-requires
fill-requires c =
    (read_sides c.args.file.now (sym c.in_ok-header.ensures), read_length c.args.file.now (sym c.in_ok-header.ensures))

pub returns : goal.returns
returns c =
    read_image c.args.file.now (sym c.in_ok-header.ensures) _ c.fill.ensures.0 c.fill.ensures.1

pub returns-in_err-header : goal.returns-in_err-header
returns-in_err-header c =
    let p = err_from_is_err_and c.from_residual.result c.from_residual.ensures.1 in
    rw (p.1, p.2) (read_refused _ (sym c.in_err-header.ensures) _)
