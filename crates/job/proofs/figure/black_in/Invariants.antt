-- `job::figure::black_in`: the sum is the black pixels that were passed. Assumes nothing.
use mathlib.Core.Path.{◌≡◌}
use lib.ListN.{take}
use Rattle.operator.specs.Image.{black}
use Rattle.job.proofs.figure.black_in.Given as goal

abbrev pub invariant-loop-byte : goal.invariant-loop-byte
invariant-loop-byte l = l.ones ≡ black (take l.byte-index l.bytes)
