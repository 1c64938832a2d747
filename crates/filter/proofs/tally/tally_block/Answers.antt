-- `tally::tally_block` meets its contract. The invariant: the counts are those of the first k pixels.
-- Assumes nothing.
use native.Mathlib.Omega.{arith}
use Rattle.filter.proofs.TallyLaws.{counted_few, counted_none, counted_one}
use Rattle.filter.proofs.tally.tally_block.Goals as goal

pub loop-k-init : goal.loop-k-init
loop-k-init c = counted_none _ _ _ _

pub overflow_add-more : goal.overflow_add-more
overflow_add-more c = omega (arith, counted_few c.loop-k.invariant)

pub overflow_add-less : goal.overflow_add-less
overflow_add-less c =
    omega (arith, counted_few c.loop-k.invariant)

pub loop-k-preserved : goal.loop-k-preserved
loop-k-preserved c =
    counted_one c.loop-k.invariant c.turns-more.ensures.0 c.turns-less.ensures.0
