-- `job::sound::any_above_one`: the join of the bytes passed is above 1 exactly when one of them is.
-- Assumes nothing.
use mathlib.Core.Path.{◌≡◌}
use lib.Dec.{ltb}
use lib.ListN.{take}
use Rattle.seq.specs.Lists.{any}
use Rattle.job.proofs.sound.any_above_one.Given as goal

abbrev pub invariant-loop-byte : goal.invariant-loop-byte
invariant-loop-byte l = ltb 1 l.seen ≡ any (ltb 1) (take l.byte-index l.bytes)
