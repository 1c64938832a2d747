-- `sweep::sweep` meets its contract. The invariant: the first k bytes are woven.
-- Assumes nothing.
use Prim.Native.Nat.{◌+◌}
use Rattle.seq.specs.Loops.{Swept}
use Rattle.filter.specs.Code.Sweep.{woven4}
use Rattle.filter.proofs.sweep.sweep.Given as goal

abbrev pub invariant-loop-k : goal.invariant-loop-k
invariant-loop-k g l = Swept (woven4 g.W.Weave.woven l.source l.fn.at l.to l.initial.out) l.initial.out l.out l.to (l.to + l.k)
