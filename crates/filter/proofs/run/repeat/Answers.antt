-- `run::repeat` meets its contract. The invariant: every memory has its length, the changes are within the budget, and the passes stand where the areas say.
-- Assumes nothing.
use mathlib.Core.Path.{refl, ap, ◌≡◌, ◌∙◌}
use native.Mathlib.Omega.{arith}
use Rattle.filter.specs.declared.End.TheVariants as ending
use Rattle.filter.specs.Code.Run.{ended}
use Rattle.filter.proofs.RunEnds.{ends_limit}
use Rattle.filter.proofs.run.repeat.Goals as goal

pub loop-passes-preserved : goal.loop-passes-preserved
loop-passes-preserved c =
    record {
      plane_same = c.once-turn.auto.plane ∙ c.loop-passes.invariant.plane_same;
      flips_same = c.once-turn.auto.flips ∙ c.loop-passes.invariant.flips_same;
      first_same = c.once-turn.auto.first ∙ c.loop-passes.invariant.first_same;
      second_same = c.once-turn.auto.second ∙ c.loop-passes.invariant.second_same;
      few = omega (arith, c.in-Ok.ensures.0);
      running = λ t e k ok. c.in-Ok.ensures.1 t _ _ _ refl c.loop-passes-test.true ok (c.loop-passes.invariant.running t e k ok);
    }

pub returns : goal.returns
returns c =
    let end : c.args.budget.limit ≡ c.loop-passes.passes = omega arith in
    λ t e k ok.
    let h = ends_limit _ _ ok (c.loop-passes.invariant.running t e k ok) c.loop-passes-test.false in
    (ap (λ n. ended n c.loop-passes.added c.loop-passes.removed ending.Limit) end ∙ h.0, h.1, h.2)
