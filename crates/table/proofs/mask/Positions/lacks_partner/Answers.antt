-- `mask::Positions::lacks_partner` meets its contract.
-- Assumes nothing.
use mathlib.Core.Bool.{not-not}
use borrow.Author.Tests.{ne_eqb}
use Rattle.seq.proofs.Bits.{bit_one, bit_none}
use Rattle.table.proofs.Positions.{partner_and}
use Rattle.table.proofs.mask.Positions.lacks_partner.Goals as goal

pub returns-then-self-b-eq1 : goal.returns-then-self-b-eq1
returns-then-self-b-eq1 c =
    simp (bit_one _ _ c.if-self-b-eq1.true, partner_and _ _ _ _ c.args.element.within c.partners.ensures, not-not)

pub returns-else-self-b-eq1 : goal.returns-else-self-b-eq1
returns-else-self-b-eq1 c = simp (bit_none _ _ c.if-self-b-eq1.false, ne_eqb _ _ c.if-self-b-eq1.false)
