-- `image::number::value` meets its contract. Assumes nothing.
use native.Mathlib.Omega.{arith}
use Rattle.image.proofs.Digits.{digit_range, digits_at, value_none, value_more}
use Rattle.image.proofs.number.value.Goals as goal

pub loop-d-init : goal.loop-d-init
loop-d-init c = value_none _

pub overflow_sub-d : goal.overflow_sub-d
overflow_sub-d c = (digit_range _ (digits_at c.args.ds.now c.loop-d.d-index (omega arith))).0

pub loop-d-preserved : goal.loop-d-preserved
loop-d-preserved c =
    rw c.from.ensures (value_more c.loop-d.invariant (omega arith) (digit_range _ (digits_at c.args.ds.now c.loop-d.d-index (omega arith))).1)
