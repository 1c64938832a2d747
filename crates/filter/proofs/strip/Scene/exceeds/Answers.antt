-- `strip::Scene::exceeds` meets its contract. The invariant: the rows before `from` have so many changes.
-- Assumes nothing.
use mathlib.Core.Path.{◌≡◌, sym}
use Prim.Native.Nat.{◌+◌, ◌≤◌}
use native.Mathlib.Omega.{arith}
use Rattle.filter.proofs.StripLaws.{changes_none, changes_fit, changes_next, room_fits, changed_sum, within_room, over_room}
use Rattle.filter.proofs.strip.Scene.exceeds.Goals as goal
use Rattle.filter.proofs.strip.Scene.exceeds.Goals.{else-loop-from-test, then-loop-from-test+else-counted-self+else-from-end-from-gt128}

pub loop-from-init : goal.loop-from-init
loop-from-init c = (omega arith, sym (changes_none _ _ _ _ c.args.self.now.tall.image.sized 0 (omega arith)))

pub overflow_add-counted : goal.overflow_add-counted
overflow_add-counted c = omega (arith, room_fits c.args.self.now.tall c.loop-from.from c.loop-from.invariant.1 c.loop-from.invariant.0)

pub returns-then-counted-self : goal.returns-then-counted-self
returns-then-counted-self c =
    within_room _ _ _ _ c.args.self.now.tall.image.sized _ c.loop-from.from c.loop-from.invariant.1 c.loop-from.invariant.0 c.if-counted-self.true

pub overflow_add-counted-in-loop-from : goal.overflow_add-counted-in-loop-from
overflow_add-counted-in-loop-from c =
    omega (arith, changed_sum c.count_rows-changes.ensures, changes_fit c.args.self.now.tall c.loop-from.from c.min-rows.result (omega arith))

pub overflow_add-counted-in-loop-from-2 : goal.overflow_add-counted-in-loop-from-2
overflow_add-counted-in-loop-from-2 c =
    let few : 0 + (c.loop-from.from + c.min-rows.result) ≤ c.args.self.now.height = omega arith in
    omega (
      arith,
      changes_next c.loop-from.invariant.1 c.count_rows-changes.ensures,
      changes_fit c.args.self.now.tall 0 (c.loop-from.from + c.min-rows.result) few,
    )

pub loop-from-preserved : goal.loop-from-preserved
loop-from-preserved c =
    let whole : c.min-rows.result ≡ 128 = omega arith in
    (omega arith, rw whole at (changes_next c.loop-from.invariant.1 c.count_rows-changes.ensures))

pub returns : goal.returns
returns c =
    elim c.loop-from-test.branch [
      | else-loop-from-test w ↦ rw w.counted-is (over_room _ _ _ _ c.args.self.now.tall.image.sized _ c.loop-from.from c.loop-from.invariant.1 (omega arith))
      | then-loop-from-test+else-counted-self+else-from-end-from-gt128 w ↦
          rw w.counted-is
          (over_room _ _ _ _ c.args.self.now.tall.image.sized _ (c.loop-from.from + w.min-rows.result) (changes_next c.loop-from.invariant.1 w.count_rows-changes.ensures) (omega arith))
    ]
