-- `blocks::advance` meets its contract.
-- Assumes nothing.
use Rattle.filter.proofs.SwitchedLaws.{turned_advanced}
use Rattle.filter.proofs.blocks.advance.Goals as goal

pub returns : goal.returns
returns c = (
  c.turn.ensures.0,
  c.turn.ensures.1,
  λ t img s still.
      turned_advanced (c.turn.ensures.2 _ _ _ s.image c.args.sides.narrow s.packed (c.judge.ensures.1 t img s still)),
)
