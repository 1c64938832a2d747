-- `number::put_at` meets its contract.
-- Assumes nothing.
use native.Mathlib.Omega.{arith}
use Rattle.table.proofs.Bytes.{putting_more, putting_all}
use Rattle.table.proofs.number.put_at.Goals as goal

pub loop-j-preserved : goal.loop-j-preserved
loop-j-preserved c = putting_more c.loop-j.invariant c.group_count-count.ensures.0 c.loop-j-test.true c.group_byte.ensures

pub returns : goal.returns
returns c = (omega arith, putting_all c.loop-j.invariant (omega arith))
