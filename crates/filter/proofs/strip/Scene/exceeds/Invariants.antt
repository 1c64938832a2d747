-- `strip::Scene::exceeds` meets its contract. The invariant: the rows before `from` have so many changes.
-- Assumes nothing.
use mathlib.Core.Path.{◌≡◌}
use Prim.Native.Nat.{◌≤◌}
use Rattle.filter.proofs.StripLaws.{row_changes}
use Rattle.filter.proofs.strip.Scene.exceeds.Given as goal

abbrev pub invariant-loop-from : goal.invariant-loop-from
invariant-loop-from l = (l.from ≤ l.self.height) × (l.counted ≡ row_changes l.self.table l.self.width l.self.height l.self.pixels.now 0 l.from)
