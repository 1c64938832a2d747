-- `strip::Scene::write_parts` meets its contract. The invariant: the first i parts are written and counted.
-- Assumes nothing.
use native.Mathlib.Omega.{arith}
use Rattle.filter.proofs.StripParts.{parts_fit, parts_more, parts_all}
use Rattle.filter.proofs.strip.Scene.write_parts.Goals as goal

pub write_part-changes-requires : goal.write_part-changes-requires
write_part-changes-requires c =
    (parts_fit c.loop-i.invariant (omega arith) c.requires.0, omega (arith, c.requires.2, c.loop-i.invariant.filled.long))

pub overflow_add-from : goal.overflow_add-from
overflow_add-from c =
    omega (arith, parts_fit c.loop-i.invariant (omega arith) c.requires.0, c.args.self.now.tall.low)

pub loop-i-preserved : goal.loop-i-preserved
loop-i-preserved c =
    parts_more c.loop-i.invariant (omega arith) c.requires.1 c.write_part-changes.ensures

pub returns : goal.returns
returns c =
    parts_all c.loop-i.invariant c.requires.0 c.loop-i-test.false c.requires.2
