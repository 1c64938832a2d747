-- `image::header::length_of` meets its contract. Assumes nothing.
use native.Mathlib.Omega.{arith}
use Rattle.image.proofs.Decimal.{decimal_short}
use Rattle.image.proofs.HeaderWritten.{header_length}
use Rattle.image.proofs.header.length_of.Goals as goal

pub overflow_add-result : goal.overflow_add-result
overflow_add-result c = omega (arith, decimal_short c.args.size.width)

pub overflow_add-result-2 : goal.overflow_add-result-2
overflow_add-result-2 c = omega (arith, decimal_short c.args.size.width)

pub overflow_add-result-3 : goal.overflow_add-result-3
overflow_add-result-3 c = omega (arith, decimal_short c.args.size.width, decimal_short c.args.size.height)

pub overflow_add-result-4 : goal.overflow_add-result-4
overflow_add-result-4 c = omega (arith, decimal_short c.args.size.width, decimal_short c.args.size.height)

pub returns : goal.returns
returns c = omega (arith, header_length c.args.size.width c.args.size.height)
