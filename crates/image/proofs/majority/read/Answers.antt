-- `image::majority::read` meets its contract. Assumes nothing.
use Rattle.std.proofs.lemmas.Result.{err_from_is_err_and}
use Rattle.std.proofs.Common.{sym, ap, ◌∙◌, arith, length}
use lib.Seq.{length-take-le}
use Rattle.image.proofs.RowBytes.{raster_few}
use Rattle.image.proofs.ThreeFiles.{last_length, three_sides, first_ends, second_ends, third_ends, three_counted, three_read, three_refused}
use Rattle.image.proofs.majority.read.Goals as goal

pub overflow_mul-count : goal.overflow_mul-count
overflow_mul-count c = omega (arith, raster_few (three_sides _ _ _ (sym c.in_ok-size.ensures)) c.row_bytes.ensures)

pub slice_bounds-raster-end : goal.slice_bounds-raster-end
slice_bounds-raster-end c = raster_few (three_sides _ _ _ (sym c.in_ok-size.ensures)) c.row_bytes.ensures

pub slice_bounds-due-end : goal.slice_bounds-due-end
slice_bounds-due-end c = sym (length-take-le _ _ (raster_few (three_sides _ _ _ (sym c.in_ok-size.ensures)) c.row_bytes.ensures))

pub last-requires : goal.last-requires
last-requires c = rw c.row_bytes.ensures (first_ends _ _ _ (sym c.in_ok-size.ensures)).long

pub last-requires-2 : goal.last-requires-2
last-requires-2 c = rw c.row_bytes.ensures (second_ends _ _ _ (sym c.in_ok-size.ensures)).long

pub last-requires-3 : goal.last-requires-3
last-requires-3 c = rw c.row_bytes.ensures (third_ends _ _ _ (sym c.in_ok-size.ensures)).long

pub combine-requires : goal.combine-requires
combine-requires c =
    let found = sym c.in_ok-size.ensures in
    let due = sym (length-take-le _ _ (raster_few (three_sides _ _ _ found) c.row_bytes.ensures)) in (
      ap length c.last.ensures ∙ last_length _ _ (rw c.row_bytes.ensures (first_ends _ _ _ found).long) ∙ due,
      ap length c.last-2.ensures ∙ last_length _ _ (rw c.row_bytes.ensures (second_ends _ _ _ found).long) ∙ due,
      ap length c.last-3.ensures ∙ last_length _ _ (rw c.row_bytes.ensures (third_ends _ _ _ found).long) ∙ due,
    )

pub fill-requires : goal.fill-requires
fill-requires c =
    let merged = rw (c.last.ensures, c.last-2.ensures, c.last-3.ensures) at c.combine.ensures in
    (three_sides _ _ _ (sym c.in_ok-size.ensures), three_counted _ _ _ (sym c.in_ok-size.ensures) c.row_bytes.ensures merged)

pub returns : goal.returns
returns c =
    let merged = rw (c.last.ensures, c.last-2.ensures, c.last-3.ensures) at c.combine.ensures in
    three_read _ _ _ (sym c.in_ok-size.ensures) c.row_bytes.ensures merged _ c.fill.ensures.0 c.fill.ensures.1

pub returns-in_err-size : goal.returns-in_err-size
returns-in_err-size c =
    let p = err_from_is_err_and c.from_residual.result c.from_residual.ensures.1 in
    rw (p.1, p.2) (three_refused _ _ _ (sym c.in_err-size.ensures) _)
