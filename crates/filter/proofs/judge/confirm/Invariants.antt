-- `judge::confirm` meets its contract. The invariant: a candidate is kept exactly if it is left or some element matches its window.
-- Assumes nothing.
use Prim.Native.Nat.{◌+◌, ◌/◌, ◌%◌}
use Rattle.filter.specs.Code.Opening.{held_within}
use Rattle.filter.proofs.JudgeLaws.{Judging}
use Rattle.filter.proofs.judge.confirm.Given as goal

abbrev pub invariant-loop-left : goal.invariant-loop-left
invariant-loop-left l = Judging (λ s. held_within l.masks.elements.now l.map (l.from + s / 8) (s % 8)) l.turned l.left l.kept

abbrev pub decreases-loop-left : goal.decreases-loop-left
decreases-loop-left l = l.left
