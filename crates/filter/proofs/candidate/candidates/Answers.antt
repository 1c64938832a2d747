-- `candidate::candidates` meets its contract.
-- Assumes nothing.
use mathlib.Core.Bool.{Bool-set}
use Rattle.std.proofs.Math.Logic.{∥∥₁_elim}
use Rattle.filter.proofs.CandidateSweep.{held_eroded, held_joined}
use Rattle.filter.proofs.candidate.candidates.Goals as goal

pub returns-then-masks-eq1 : goal.returns-then-masks-eq1
returns-then-masks-eq1 c =
    λ j s a b t. ∥∥₁_elim c.args.masks.now.swept (hlevel Bool-set) (λ p. held_eroded _ _ _ p c.if-masks-eq1.true c.erode.ensures j s a b t)

pub returns-else-masks-eq1 : goal.returns-else-masks-eq1
returns-else-masks-eq1 c =
    λ j s a b t. ∥∥₁_elim c.args.masks.now.swept (hlevel Bool-set) (λ p. held_joined _ _ _ p c.if-masks-eq1.false c.hold.ensures j s a b t)
