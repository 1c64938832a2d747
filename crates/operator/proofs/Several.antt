-- A pixel is opened by any of a table's persistent elements, proved (specs/Several).
-- Assumes nothing.
use mathlib.Core.Bool.{or-false}
use mathlib.Core.Path.{sym}
use Rattle.operator.specs.Pass.{solid, opened}
use Rattle.operator.specs.Several.{AnyAlone}
use Rattle.seq.specs.Lists.{any}
use Rattle.seq.proofs.Lists.{any_ext}
use Rattle.table.specs.Mask.{positions}
use Rattle.table.specs.Ranks.{alone}
use Rattle.table.specs.Record.{persistents}

pub any_alone : AnyAlone
unfolding opened persistents
any_alone t w h img v r c =
    any_ext (λ K. any (solid w h img v r c K) (positions K)) (λ K. opened (alone t K) w h img v r c) (persistents t)
    (λ K m. sym (or-false (any (solid w h img v r c K) (positions K))))
