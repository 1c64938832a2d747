-- `record::persistent_place` meets its contract: the only one, and one of several.
-- Assumes nothing.
use Rattle.std.proofs.Common.{arith}
use Rattle.std.proofs.lemmas.Bool.Decides.{nat_tests}
use Rattle.table.specs.Record.{persistent_place}
use Rattle.table.proofs.record.persistent_place.Goals as goal

pub returns-then-r-eq0 : goal.returns-then-r-eq0
unfolding persistent_place
returns-then-r-eq0 c = grind (arith, nat_tests)

pub returns : goal.returns
unfolding persistent_place
returns c = grind (arith, nat_tests)
