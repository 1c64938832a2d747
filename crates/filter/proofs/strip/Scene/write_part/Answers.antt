-- `strip::Scene::write_part` meets its contract. The invariant: the first rows of the part are written and counted.
-- Assumes nothing.
use mathlib.Core.Path.{◌≡◌}
use native.Mathlib.Omega.{arith}
use Rattle.filter.proofs.StripLaws.{made_none, made_join, made_all, joined_few}
use Rattle.filter.proofs.strip.Scene.write_part.Goals as goal

pub loop-done-init : goal.loop-done-init
loop-done-init c = (omega arith, made_none _ _ c.args.self.now.tall.image.sized (omega arith))

pub overflow_add-added : goal.overflow_add-added
overflow_add-added c =
    omega (arith, joined_few c.args.self.now.tall c.loop-done.invariant.1 c.write_rows-changes.ensures (omega arith))

pub overflow_add-removed : goal.overflow_add-removed
overflow_add-removed c =
    omega (arith, joined_few c.args.self.now.tall c.loop-done.invariant.1 c.write_rows-changes.ensures (omega arith))

pub loop-done-preserved : goal.loop-done-preserved
loop-done-preserved c =
    let whole : c.min-rows.result ≡ 128 = omega arith in
    (omega arith, rw whole at (made_join c.loop-done.invariant.1 c.write_rows-changes.ensures))

pub returns : goal.returns
returns c = made_all c.loop-done.invariant.1 c.args.count (omega arith)

pub returns-2 : goal.returns-2
returns-2 c = made_all (made_join c.loop-done.invariant.1 c.write_rows-changes.ensures) c.args.count (omega arith)
