-- `strip::Scene::write_parts` meets its contract. The invariant: the first i parts are written and counted.
-- Assumes nothing.
use Rattle.filter.proofs.StripParts.{PartsMade}
use Rattle.filter.proofs.strip.Scene.write_parts.Given as goal

abbrev pub invariant-loop-i : goal.invariant-loop-i
invariant-loop-i l = PartsMade l.self.table l.self.width l.self.height l.self.pixels.now l.heights l.initial.next l.next l.added l.removed l.from l.i
