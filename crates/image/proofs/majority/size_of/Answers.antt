-- `image::majority::size_of`: the layout without the place of the raster. Assumes nothing.
use Rattle.std.proofs.Common.{sym}
use Rattle.std.proofs.lemmas.Result.{err_from_is_err_and}
use Rattle.image.proofs.ReadOf.{size_image, size_refused}
use Rattle.image.proofs.majority.size_of.Goals as goal

pub returns-in_err-header : goal.returns-in_err-header
returns-in_err-header c =
    let p = err_from_is_err_and c.from_residual.result c.from_residual.ensures.1 in
    rw (p.1, p.2) (size_refused _ (sym c.in_err-header.ensures))

pub returns : goal.returns
returns c = size_image _ (sym c.in_ok-header.ensures)
