-- `sweep::dilate` meets its contract. The invariant: the shifts passed are joined.
-- Assumes nothing.
use mathlib.Core.Path.{refl, ap, ◌∙◌}
use Prim.Native.Nat.{ℕ, ◌-◌}
use Rattle.filter.specs.Code.Opening.{farthest}
use native.Mathlib.Omega.{arith}
use Rattle.filter.proofs.SweepLaws.{four_of, four_near, dilate_four}
use Rattle.filter.proofs.sweep.dilate.Goals as goal

pub before-requires : goal.before-requires
before-requires c = four_near c.requires.0 c.loop-four.four-index c.as_chunks.ensures.front (omega arith) refl

pub loop-four-preserved : goal.loop-four-preserved
loop-four-preserved c =
    dilate_four _ _ _ _ c.loop-four.four-index _ c.loop-four.invariant c.requires.0 (omega arith)
    (λ i h. c.before-in-loop-four.ensures i h ∙ ap (λ (x : ℕ). farthest - x) (four_of c.args.at.now c.loop-four.four-index c.as_chunks.ensures.front (omega arith) refl i h))
    c.sweep.ensures
