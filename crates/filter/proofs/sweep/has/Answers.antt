-- `sweep::has` meets its contract.
-- Assumes nothing.
use borrow.Author.Rules.{rules}
use Rattle.seq.specs.Bits.{bit}
use Rattle.filter.proofs.sweep.has.Goals as goal

pub returns : goal.returns
unfolding bit
returns c = search rules
