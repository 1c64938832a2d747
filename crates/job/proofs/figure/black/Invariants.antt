-- `job::figure::black`: the sum is the black pixels of the blocks that were passed. Assumes nothing.
use mathlib.Core.Bool.{true}
use mathlib.Core.Path.{◌≡◌}
use Prim.Native.Nat.{◌+◌}
use lib.Dec.{leb}
use Rattle.std.specs.Slice.Iter.{chunks_exact_rest, chunks_exact_size}
use Rattle.operator.specs.Image.{black}
use Rattle.seq.specs.Lists.{all}
use Rattle.job.proofs.Black.{Behind}
use Rattle.job.proofs.figure.black.Given as goal

abbrev pub invariant-loop-block : goal.invariant-loop-block
invariant-loop-block l =
    (chunks_exact_size l.block-iterator ≡ 64)
    × (l.ones + black (chunks_exact_rest l.block-iterator) ≡ black l.bytes)
    × (all (λ v. leb v 1) (chunks_exact_rest l.block-iterator) ≡ true)
    × Behind l.bytes (chunks_exact_rest l.block-iterator)
