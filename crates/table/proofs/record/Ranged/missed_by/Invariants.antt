-- `record::Ranged::missed_by` meets its contract: a search over the persistent elements.
-- Assumes nothing.
use mathlib.Core.Bool.{not}
use Rattle.seq.proofs.Search.{Passed}
use Rattle.table.specs.Mask.{persistent_for}
use Rattle.table.specs.Record.{element, persistent_at}
use Rattle.table.proofs.record.Ranged.missed_by.Given as goal

abbrev pub invariant-loop-rank : goal.invariant-loop-rank
invariant-loop-rank l = Passed (λ r. not (persistent_for (persistent_at l.self.table r) (element l.self.table l.k))) l.self.table.ranks l.rank
