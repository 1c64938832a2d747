-- `job::figure::black_in`: the sum is the black pixels that were passed. Assumes nothing.
use native.Mathlib.Omega.{arith}
use borrow.Author.Rules.{rules}
use Rattle.operator.specs.Image.{black}
use Rattle.job.proofs.Black.{part_few, pixel_low, black_more}
use Rattle.job.proofs.figure.black_in.Goals as goal

pub loop-byte-init : goal.loop-byte-init
unfolding black
loop-byte-init c = search rules

pub overflow_add-ones : goal.overflow_add-ones
overflow_add-ones c =
    omega (arith, part_few c.loop-byte.byte-index c.args.bytes.now, pixel_low c.args.bytes.now c.requires.1 c.loop-byte.byte-index)

pub loop-byte-preserved : goal.loop-byte-preserved
loop-byte-preserved c = omega (arith, black_more c.args.bytes.now c.requires.1 c.loop-byte.byte-index c.loop-byte-test.true)
