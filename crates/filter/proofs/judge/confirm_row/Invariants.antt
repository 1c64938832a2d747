-- `judge::confirm_row` meets its contract. The invariant: the first k bytes are confirmed, and k counts whole words.
-- Assumes nothing.
use Prim.Native.Nat.{◌*◌}
use Rattle.filter.specs.Code.Judge.{Confirmed}
use Rattle.filter.proofs.judge.confirm_row.Given as goal

abbrev pub invariant-loop-i : goal.invariant-loop-i
invariant-loop-i l = Confirmed l.masks.elements.now l.map l.from l.initial.flips l.flips l.at (8 * l.i)
