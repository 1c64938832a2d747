-- `candidate::hold` meets its contract. The invariant: what the pairs passed hold is set.
-- Assumes nothing.
use mathlib.Core.Path.{◌≡◌, refl, ◌∙◌}
use Prim.Native.Nat.{◌+◌, ◌*◌}
use native.Mathlib.Omega.{arith}
use Rattle.filter.proofs.CandidateSweep.{hold_more}
use Rattle.filter.proofs.SweepLaws.{four_of, four_near}
use Rattle.filter.proofs.candidate.hold.Goals as goal

pub sweep-requires : goal.sweep-requires
sweep-requires c =
    (record { room = λ i h. let n = four_near c.requires.0 c.loop-four.four-index c.as_chunks.ensures.front (omega arith) refl i h in omega (arith, n) }, omega arith)

pub loop-four-preserved : goal.loop-four-preserved
loop-four-preserved c =
    let next : 4 * (c.loop-four.four-index + 1) ≡ 4 * c.loop-four.four-index + 4 = omega arith in (
      rw next (hold_more _ _ c.loop-four.invariant.0 (omega arith) (four_of c.args.pairs.now c.loop-four.four-index c.as_chunks.ensures.front (omega arith) refl) c.sweep.ensures),
      c.sweep.ensures.long ∙ c.loop-four.invariant.1,
    )
