-- `candidate::pair_of` meets its contract. The invariant: p is at most 12.
-- Assumes nothing.
use mathlib.Core.Path.{sym, ◌∙◌}
use native.Mathlib.Omega.{arith}
use Rattle.table.proofs.Masks.{position_intro}
use Rattle.filter.proofs.candidate.pair_of.Goals as goal

pub returns-then-has-2 : goal.returns-then-has-2
returns-then-has-2 c =
    record {
      low = position_intro _ (omega arith) (sym c.has.ensures ∙ c.if-has.true);
      high = position_intro _ (omega arith) (sym c.has-then-has.ensures ∙ c.if-has-2.true);
    }
