-- `record::Ranged::check_meeting` meets its contract: a search over the elements.
-- Assumes nothing.
use Rattle.std.specs.Prelude.{is_some}
use Rattle.seq.proofs.Search.{Passed}
use Rattle.table.specs.Record.{disjoint_from}
use Rattle.table.proofs.record.Ranged.check_meeting.Given as goal

abbrev pub invariant-loop-k : goal.invariant-loop-k
invariant-loop-k l = Passed (λ i. is_some (disjoint_from l.self.table i)) l.self.table.count l.k
