-- `job::parts::front`: after i turns the first i places are filled. Assumes nothing.
use Rattle.seq.proofs.Tab.{fill_more}
use Rattle.job.proofs.parts.front.Goals as goal

pub loop-i-preserved : goal.loop-i-preserved
loop-i-preserved c = fill_more c.loop-i.invariant c.loop-i-test.true c.front_at.ensures
