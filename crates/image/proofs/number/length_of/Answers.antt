-- `image::number::length_of` meets its contract. Assumes nothing.
use mathlib.Core.Path.{sym, ap}
use lib.ListN.{length}
use Rattle.image.proofs.Decimal.{decimal_one, decimal_two, decimal_three}
use Rattle.image.proofs.number.length_of.Goals as goal

pub returns-then-n-lt-RADIX : goal.returns-then-n-lt-RADIX
returns-then-n-lt-RADIX c = sym (ap length (decimal_one _ c.if-n-lt-RADIX.true))

pub returns-then-n-lt-HUNDRED : goal.returns-then-n-lt-HUNDRED
returns-then-n-lt-HUNDRED c = sym (ap length (decimal_two _ c.if-n-lt-RADIX.false c.if-n-lt-HUNDRED.true))

pub returns : goal.returns
returns c = sym (ap length (decimal_three _ c.if-n-lt-HUNDRED.false))
