-- `job::figure::black`: the sum is the black pixels of the blocks that were passed. Assumes nothing.
use mathlib.Core.Path.{ap, ◌∙◌}
use Prim.Native.Nat.{◌<◌}
use native.Mathlib.Omega.{arith}
use lib.ListN.{length}
use Rattle.std.specs.Slice.Iter.{chunks_exact_rest}
use Rattle.operator.specs.Image.{black}
use Rattle.job.proofs.Black.{black_few, black_split, binary_rest, behind_more, behind_last}
use Rattle.job.proofs.figure.black.Goals as goal

pub overflow_add-ones : goal.overflow_add-ones
overflow_add-ones c =
    omega (arith, c.loop-block.invariant.1, black_split c.in-Some.block.now (chunks_exact_rest c.next.new.self) c.in-Some.ensures.steps.1.0, c.black_in.ensures, black_few c.args.bytes.now)

pub loop-block-preserved : goal.loop-block-preserved
loop-block-preserved c =
    let split = c.in-Some.ensures.steps.1 in (
      c.in-Some.ensures.steps.0 ∙ c.loop-block.invariant.0,
      omega (arith, c.loop-block.invariant.1, black_split c.in-Some.block.now (chunks_exact_rest c.next.new.self) split.0, c.black_in.ensures),
      binary_rest c.in-Some.block.now (chunks_exact_rest c.next.new.self) split.0 c.loop-block.invariant.2,
      behind_more c.in-Some.block.now (chunks_exact_rest c.next.new.self) c.loop-block.invariant.3 split.0 (split.1 ∙ c.loop-block.invariant.0),
    )

pub overflow_add-result : goal.overflow_add-result
overflow_add-result c =
    let last : length (chunks_exact_rest c.loop-block.block-iterator) < 64 = omega (arith, c.in-None.ensures.steps.1.0, c.loop-block.invariant.0) in
    let rest = c.remainder-rest.ensures ∙ c.chunks_exact-blocks.ensures.remainder ∙ behind_last _ _ c.loop-block.invariant.3 last in
    omega (arith, c.loop-block.invariant.1, black_few c.args.bytes.now, c.black_in-2.ensures, ap black rest)

pub returns : goal.returns
returns c =
    let last : length (chunks_exact_rest c.loop-block.block-iterator) < 64 = omega (arith, c.in-None.ensures.steps.1.0, c.loop-block.invariant.0) in
    let rest = c.remainder-rest.ensures ∙ c.chunks_exact-blocks.ensures.remainder ∙ behind_last _ _ c.loop-block.invariant.3 last in
    omega (arith, c.loop-block.invariant.1, c.black_in-2.ensures, ap black rest)
