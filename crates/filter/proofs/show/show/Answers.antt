-- `show::show` meets its contract. The invariant: the rows before `row` are shown.
-- Assumes nothing.
use Rattle.filter.proofs.ShowLaws.{showing_row, showing_skip}
use Rattle.filter.proofs.show.show.Goals as goal
use Rattle.filter.proofs.show.show.Goals.{then-marks-row-ne0, else-marks-row-ne0}

pub loop-row-preserved : goal.loop-row-preserved
loop-row-preserved c =
    elim c.if-marks-row-ne0.branch [
      | then-marks-row-ne0 t ↦ rw t.out-is (showing_row c.loop-row.invariant c.loop-row-test.true c.args.sides.narrow t.if-marks-row-ne0.true t.show_row.ensures)
      | else-marks-row-ne0 f ↦ rw f.out-is (showing_skip c.loop-row.invariant c.loop-row-test.true f.if-marks-row-ne0.false)
    ]
