-- `job::sound::any_above_one`: the join of the bytes passed is above 1 exactly when one of them is.
-- Assumes nothing.
use Rattle.job.proofs.Seen.{seen_more}
use Rattle.job.proofs.sound.any_above_one.Goals as goal

pub loop-byte-preserved : goal.loop-byte-preserved
loop-byte-preserved c =
    seen_more 1 c.args.bytes.now c.loop-byte.byte-index c.loop-byte.seen c.loop-byte-test.true c.loop-byte.invariant
