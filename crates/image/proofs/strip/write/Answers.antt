-- `image::strip::write` meets its contract. Assumes nothing.
use Rattle.std.proofs.lemmas.Result.{err_from_is_err_and}
use Rattle.std.proofs.Common.{sym, arith}
use Rattle.image.proofs.Shapes.{shape_wide}
use Rattle.image.proofs.StripOf.{write_refused, write_short, write_whole}
use Rattle.image.proofs.Strips.{heights_good, strip_good}
use Rattle.image.proofs.WriteOf.{bytes_binary}
use Rattle.image.proofs.strip.write.Goals as goal

pub returns-in_err-check : goal.returns-in_err-check
returns-in_err-check c =
    let p = err_from_is_err_and c.from_residual.result c.from_residual.ensures.1 in
    rw (p.1, p.2) (write_refused _ _ (sym c.in_err-check.ensures) _)

pub part_heights-heights-requires : goal.part_heights-heights-requires
part_heights-heights-requires c = (strip_good _ _ (sym c.in_ok-check.ensures)).shape.few

pub length_of-end-requires : goal.length_of-end-requires
length_of-end-requires c =
    let shape = (strip_good _ _ (sym c.in_ok-check.ensures)).shape in
    let side = shape_wide shape in
    (side.0, side.1, rw c.part_heights-heights.ensures (heights_good shape))

pub returns-then-out-end : goal.returns-then-out-end
returns-then-out-end c =
    let long = rw c.part_heights-heights.ensures at (c.length_of-end.ensures c.args.pixels.now) in
    rw c.refused.ensures (write_short _ _ (sym c.in_ok-check.ensures) _ long c.if-out-end.true)

pub write_parts-requires : goal.write_parts-requires
write_parts-requires c =
    let good = strip_good _ _ (sym c.in_ok-check.ensures) in
    let side = shape_wide good.shape in
    let long = c.length_of-end.ensures c.args.pixels.now in (
      side.0,
      side.1,
      rw c.part_heights-heights.ensures (heights_good good.shape),
      bytes_binary good.bytes,
      rw c.part_heights-heights.ensures good.bytes.count,
      omega (arith, long, c.if-out-end.false),
    )

pub returns : goal.returns
returns c =
    let long = rw c.part_heights-heights.ensures at (c.length_of-end.ensures c.args.pixels.now) in
    write_whole _ _ (sym c.in_ok-check.ensures) _ long c.if-out-end.false (rw c.part_heights-heights.ensures at c.write_parts.ensures)
