-- `blocks::block` meets its contract.
-- Assumes nothing.
use native.Mathlib.Omega.{arith}
use Rattle.filter.proofs.BlockLaws.{scene_judged, rows_untouched}
use Rattle.filter.proofs.blocks.block.Goals as goal

pub returns : goal.returns
returns c = (
  rows_untouched c.confirm_rows.ensures,
  λ t img s.
      scene_judged _ _ s c.requires.2 c.args.sides.narrow (c.open_block.ensures t img s.kept s.image s.packed)
      (λ j k q. c.candidates.ensures j k (omega arith)) c.confirm_rows.ensures,
)
