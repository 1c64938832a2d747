-- `elements::row_mask` meets its contract. Assumes nothing.
use mathlib.Core.Path.{refl}
use native.Mathlib.Omega.{arith}
use Rattle.filter.proofs.ElementsLaws.{row_bits_lem}
use Rattle.filter.proofs.elements.row_mask.Goals as goal

pub returns : goal.returns
returns c =
    row_bits_lem c.args.row c.args.value c.requires (c.from.ensures, omega arith) (c.from-2.ensures, omega arith) (c.from-3.ensures, omega arith)
    (c.from-4.ensures, omega arith) (c.from-5.ensures, omega arith) _ refl
