-- `judge::confirm_row` meets its contract. The invariant: the first i words are confirmed.
-- Assumes nothing.
use mathlib.Core.Path.{◌≡◌}
use Prim.Native.Nat.{◌+◌, ◌*◌}
use native.Mathlib.Omega.{arith}
use Rattle.filter.proofs.JudgeLaws.{confirmed_join, confirmed_zero, confirmed_word}
use Rattle.filter.proofs.judge.confirm_row.Goals as goal
use Rattle.filter.proofs.judge.confirm_row.Goals.{then-turned-ne0, else-turned-ne0}

pub loop-i-preserved : goal.loop-i-preserved
loop-i-preserved c =
    let next : 8 * (c.loop-i.i + 1) ≡ 8 * c.loop-i.i + 8 = omega arith in
    rw next (elim c.if-turned-ne0.branch [
      | then-turned-ne0 u ↦
          rw u.flips-is (confirmed_join c.loop-i.invariant (confirmed_word _ _ _ c.loop-i.flips (c.args.at + 8 * c.loop-i.i) _ c.word-turned.ensures _ u.confirm.ensures u.put.ensures))
      | else-turned-ne0 u ↦ rw u.flips-is (confirmed_join c.loop-i.invariant (confirmed_zero _ _ _ c.loop-i.flips (c.args.at + 8 * c.loop-i.i) _ c.word-turned.ensures u.if-turned-ne0.false))
    ])
