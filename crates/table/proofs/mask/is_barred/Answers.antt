-- `mask::is_barred` meets its contract, for each kind.
-- Assumes nothing.
use Rattle.seq.specs.Bits.{bit}
use Rattle.table.proofs.mask.is_barred.Goals as goal

pub returns-in-Element : goal.returns-in-Element
unfolding bit
returns-in-Element c = rw c.in-Element.is
