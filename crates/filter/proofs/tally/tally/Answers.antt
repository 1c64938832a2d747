-- `tally::tally` meets its contract. The invariant: the counts are those of the whole blocks that were passed.
-- Assumes nothing.
use mathlib.Core.Path.{◌≡◌}
use Prim.Native.Nat.{◌+◌, ◌*◌, ◌/◌}
use native.Mathlib.Omega.{arith}
use Rattle.filter.proofs.TallyLaws.{counted_few, counted_none, counted_join, counted_all}
use Rattle.filter.proofs.tally.tally.Goals as goal

pub loop-k-init : goal.loop-k-init
loop-k-init c = counted_none _ _ _ _

pub overflow_add-added : goal.overflow_add-added
overflow_add-added c =
    omega (arith, counted_few c.loop-k.invariant, counted_few c.tally_block-block.ensures)

pub overflow_add-removed : goal.overflow_add-removed
overflow_add-removed c =
    omega (arith, counted_few c.loop-k.invariant, counted_few c.tally_block-block.ensures)

pub loop-k-preserved : goal.loop-k-preserved
loop-k-preserved c =
    let next : 64 * (c.loop-k.k + 1) ≡ 64 * c.loop-k.k + 64 = omega arith in
    rw next (counted_join c.loop-k.invariant c.tally_block-block.ensures)

pub overflow_add-result : goal.overflow_add-result
overflow_add-result c =
    omega (arith, counted_few c.loop-k.invariant, counted_few c.tally_block-rest.ensures)

pub overflow_add-result-2 : goal.overflow_add-result-2
overflow_add-result-2 c =
    omega (arith, counted_few c.loop-k.invariant, counted_few c.tally_block-rest.ensures)

pub returns : goal.returns
returns c =
    let whole : c.loop-k.k ≡ c.args.count / 64 = omega arith in
    counted_all (counted_join (rw whole at c.loop-k.invariant) c.tally_block-rest.ensures) _ (omega arith)
