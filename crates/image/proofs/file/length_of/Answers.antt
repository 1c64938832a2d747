-- `image::file::length_of` meets its contract. Assumes nothing.
use mathlib.Core.Path.{ap}
use Prim.Native.Nat.{ℕ, ◌*◌}
use native.Mathlib.Omega.{arith}
use Rattle.image.proofs.Decimal.{decimal_short}
use Rattle.image.proofs.HeaderWritten.{header_length}
use Rattle.image.proofs.RowBytes.{raster_few}
use Rattle.image.proofs.WriteOf.{bytes_length}
use Rattle.image.proofs.file.length_of.Goals as goal

pub overflow_mul-result : goal.overflow_mul-result
overflow_mul-result c = omega (arith, raster_few c.requires c.row_bytes.ensures)

pub overflow_add-result : goal.overflow_add-result
overflow_add-result c =
    let w = c.args.size.width in
    let h = c.args.size.height in
    omega (arith, raster_few c.requires c.row_bytes.ensures, c.length_of.ensures, header_length w h, decimal_short w, decimal_short h)

pub returns : goal.returns
returns c px =
    omega (arith, c.length_of.ensures, ap (λ (b : ℕ). b * c.args.size.height) c.row_bytes.ensures, bytes_length c.args.size.width c.args.size.height px)
