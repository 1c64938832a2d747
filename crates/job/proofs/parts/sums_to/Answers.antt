-- `job::parts::sums_to`: what is left and what was passed make up the total. Assumes nothing.
use mathlib.Core.Path.{sym}
use native.Mathlib.Omega.{arith}
use borrow.Author.Tests.{ne_eqb}
use Rattle.image.proofs.Parts.{part_ends}
use Rattle.seq.proofs.Fronts.{sum_front}
use Rattle.seq.specs.Lists.{sum_of}
use Rattle.job.proofs.parts.sums_to.Goals as goal

pub returns-then-left-number : goal.returns-then-left-number
returns-then-left-number c =
    sym (ne_eqb _ (sum_of c.args.numbers.now) (λ q. omega (arith, c.loop-number.invariant, part_ends c.args.numbers.now c.loop-number.number-index c.loop-number-test.true, c.if-left-number.true)))

pub loop-number-preserved : goal.loop-number-preserved
loop-number-preserved c =
    omega (arith, c.loop-number.invariant, sum_front c.args.numbers.now c.loop-number.number-index c.loop-number-test.true, c.if-left-number.false)
