-- `opening::open_for` meets its contract: the erosion, spread, is the opening.
-- Assumes nothing.
use borrow.Author.Rules.{rules}
use Rattle.filter.proofs.ShiftLaws.{shifts_fours}
use Rattle.filter.proofs.OpeningLaws.{open_one}
use Rattle.filter.proofs.opening.open_for.Goals as goal

pub erode-requires : goal.erode-requires
erode-requires c = (shifts_fours _ c.shifts-n.ensures.1, search rules, search rules)

pub dilate-requires : goal.dilate-requires
dilate-requires c = (shifts_fours _ c.shifts-n.ensures.1, search rules, search rules)

pub returns : goal.returns
returns c =
    open_one _ _ _ _ c.shifts-n.ensures.1 c.erode.ensures c.dilate.ensures
