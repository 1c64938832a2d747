-- `mask::is_bad_after` meets its contract, test by test.
-- Assumes nothing.
use Rattle.std.proofs.Common.{arith}
use Rattle.std.proofs.lemmas.Grind.{common_steps}
use Rattle.table.specs.Code.Search.{bad_after}
use Rattle.table.proofs.mask.is_bad_after.Goals as goal

pub returns-then-not-is_valid : goal.returns-then-not-is_valid
unfolding bad_after
returns-then-not-is_valid c = grind (arith, common_steps)

pub returns-else-not-is_valid : goal.returns-else-not-is_valid
unfolding bad_after
returns-else-not-is_valid c = grind (arith, common_steps)
