-- `strip::Scene::write_part` meets its contract. The invariant: the first rows of the part are written and counted.
-- Assumes nothing.
use Prim.Native.Nat.{◌≤◌}
use Rattle.filter.specs.Code.Strip.{RowsMade}
use Rattle.filter.proofs.strip.Scene.write_part.Given as goal

abbrev pub invariant-loop-done : goal.invariant-loop-done
invariant-loop-done l = (l.done ≤ l.count) × RowsMade l.self.table l.self.width l.self.height l.self.pixels.now l.from l.done l.initial.next l.next l.added l.removed
