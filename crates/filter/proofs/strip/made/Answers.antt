-- `strip::made` meets its contract. Assumes nothing.
use mathlib.Core.Path.{◌∙◌}
use native.Mathlib.Omega.{arith}
use Rattle.filter.proofs.StripLaws.{sum_as, totalled_stable, totalled_limit}
use Rattle.filter.proofs.strip.made.Goals as goal

pub total-added-requires : goal.total-added-requires
total-added-requires c = omega (arith, sum_as c.args.parts.added)

pub total-removed-requires : goal.total-removed-requires
total-removed-requires c = omega (arith, sum_as c.args.parts.removed)

pub overflow_add-added : goal.overflow_add-added
overflow_add-added c = omega (arith, sum_as c.args.parts.added, sum_as c.args.parts.removed)

pub returns-then-added-removed-eq0 : goal.returns-then-added-removed-eq0
returns-then-added-removed-eq0 c = totalled_stable _ (c.total-added.ensures ∙ sum_as _) (c.total-removed.ensures ∙ sum_as _) c.if-added-removed-eq0.true

pub returns-else-added-removed-eq0 : goal.returns-else-added-removed-eq0
returns-else-added-removed-eq0 c = totalled_limit _ (c.total-added.ensures ∙ sum_as _) (c.total-removed.ensures ∙ sum_as _) c.if-added-removed-eq0.false
