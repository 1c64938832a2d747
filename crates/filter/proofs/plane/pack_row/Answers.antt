-- `plane::pack_row` meets its contract. Assumes nothing.
use native.Mathlib.Omega.{arith}
use Rattle.filter.proofs.PackLaws.{row_packed, full_row, line_row, line_white}
use Rattle.filter.proofs.plane.pack_row.Goals as goal
use Rattle.filter.proofs.plane.pack_row.Goals.{then-width-eq-MAX_SIDE, else-width-eq-MAX_SIDE}

pub returns : goal.returns
returns c =
    elim c.if-width-eq-MAX_SIDE.branch [
      | then-width-eq-MAX_SIDE w ↦
          (row_packed _ c.requires.1 (full_row c.requires.3 (omega arith)) c.requires.4 w.fold.ensures (rw w.plane-is at c.refresh.ensures), rw w.line-is c.requires.5)
      | else-width-eq-MAX_SIDE w ↦ (
        row_packed _ c.requires.1 (line_row c.requires.3 w.copy.ensures c.requires.5) c.requires.4 w.fold-else-width-eq-MAX_SIDE.ensures (rw w.plane-is at c.refresh.ensures),
        rw w.line-is (line_white w.copy.ensures c.requires.5),
      )
    ]
