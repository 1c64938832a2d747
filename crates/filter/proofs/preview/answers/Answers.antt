-- `filter::preview::answers` meets its contract: one test over the 512 answers, which antt computes. Assumes nothing.
use mathlib.Core.Path.{refl}
use Rattle.seq.specs.Bits.{bit}
use Rattle.seq.specs.Tab.{up_to}
use Rattle.operator.specs.Preview.{five_or_more}
use Rattle.filter.proofs.preview.answers.Goals as goal

pub returns : goal.returns
unfolding five_or_more bit up_to
returns c = refl
