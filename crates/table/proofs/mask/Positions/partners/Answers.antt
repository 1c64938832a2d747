-- `mask::Positions::partners` meets its contract.
-- Assumes nothing.
use Rattle.table.proofs.Positions.{partners_bit}
use Rattle.table.proofs.mask.Positions.partners.Goals as goal

pub returns : goal.returns
returns c a l = partners_bit c.args.self.mask c.args.b a c.args.self.within c.requires l
