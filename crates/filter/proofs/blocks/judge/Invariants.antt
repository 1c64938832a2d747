-- `blocks::judge` meets its contract. The invariant: the rows above `top` are judged, and those from there on are not marked.
-- Assumes nothing.
use Prim.Native.Nat.{◌-◌}
use Rattle.filter.proofs.BlockRows.{Half}
use Rattle.filter.proofs.blocks.judge.Given as goal

abbrev pub invariant-loop-top : goal.invariant-loop-top
invariant-loop-top l =
    Half l.masks.elements.now l.masks.persistents.now l.sides.width l.sides.height l.dirty l.plane l.initial.flips l.initial.scratch.changed l.flips l.scratch.changed l.top

abbrev pub decreases-loop-top : goal.decreases-loop-top
decreases-loop-top l =
    l.height - l.top
