-- `record::Ranged::check_persistence` meets its contract: a search over the elements.
-- Assumes nothing.
use Rattle.std.specs.Prelude.{is_some}
use Rattle.seq.proofs.Search.{Passed}
use Rattle.table.specs.Record.{missed_by}
use Rattle.table.proofs.record.Ranged.check_persistence.Given as goal

abbrev pub invariant-loop-k : goal.invariant-loop-k
invariant-loop-k l = Passed (λ i. is_some (missed_by l.self.table i)) l.self.table.count l.k
