-- `turn::exchange` meets its contract. The invariant: the first k bytes have their codes exchanged.
-- Assumes nothing.
use native.Mathlib.Omega.{arith}
use Rattle.filter.proofs.TurnPlane.{exchanged_more}
use Rattle.filter.proofs.turn.exchange.Goals as goal

pub loop-k-preserved : goal.loop-k-preserved
loop-k-preserved c =
    (omega arith, exchanged_more c.loop-k.invariant.1 (omega arith) c.other.result c.other.ensures)
