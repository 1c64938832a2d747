-- `job::parts::sums`: after i turns the first i places are sums. Assumes nothing.
use mathlib.Core.Path.{refl}
use Rattle.seq.proofs.Tab.{fill_more}
use Rattle.job.proofs.parts.sums.Goals as goal

pub loop-i-preserved : goal.loop-i-preserved
loop-i-preserved c = fill_more c.loop-i.invariant c.loop-i-test.true refl
