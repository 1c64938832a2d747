-- `opening::open_block` meets its contract: the openings in the plane, extended, are those at the sites of the windows.
-- Assumes nothing.
use mathlib.Core.Path.{sym}
use Rattle.filter.proofs.OpeningRows.{map_rows}
use Rattle.filter.proofs.opening.open_block.Goals as goal

pub returns : goal.returns
returns c =
    λ t img e i p.
    c.extend.ensures _ (map_rows _ _ _ _ p t _ _ c.requires.1 c.requires.4 c.fill.ensures (rw (sym e) at c.open_each.ensures))
