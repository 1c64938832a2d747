-- `plane::inside` meets its contract. The invariant: the first k bytes say which columns lie inside.
-- Assumes nothing.
use Rattle.seq.specs.Loops.{Swept}
use Rattle.filter.specs.Code.Plane.{inside_at}
use Rattle.filter.proofs.plane.inside.Given as goal

abbrev pub invariant-loop-k : goal.invariant-loop-k
invariant-loop-k l = Swept (inside_at l.width) l.initial.row l.row 0 l.k
