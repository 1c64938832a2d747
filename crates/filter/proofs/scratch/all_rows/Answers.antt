-- `scratch::all_rows` meets its contract.
-- Assumes nothing.
use lib.ListN.{get_or-replicate}
use Rattle.filter.proofs.scratch.all_rows.Goals as goal

pub returns : goal.returns
returns c = λ i l. get_or-replicate _ i 1 0 l
