-- `filter::preview::store` meets its contract. Assumes nothing.
use Rattle.operator.proofs.Pattern.{pattern_lt}
use Rattle.filter.proofs.preview.store.Goals as goal

pub answer-requires : goal.answer-requires
answer-requires c = rw c.gather.ensures (pattern_lt _ _ _ _ _ c.requires.0.binary)
