-- `sweep::shifts` meets its contract. The invariant: the shifts of the positions below b stand at the front.
-- Assumes nothing.
use mathlib.Core.Path.{sym, ◌∙◌}
use Rattle.filter.proofs.ShiftLaws.{gather_none, gather_set, gather_clear, gather_pad}
use Rattle.filter.proofs.sweep.shifts.Goals as goal
use Rattle.filter.proofs.sweep.shifts.Goals.{then-has, else-has}

pub loop-b-init : goal.loop-b-init
loop-b-init c = gather_none _ c.requires

pub loop-b-preserved : goal.loop-b-preserved
loop-b-preserved c =
    elim c.if-has.branch [
      | then-has w ↦ rw (w.at-is, w.n-is) (gather_set _ _ c.loop-b.invariant c.loop-b-test.true (sym c.has.ensures ∙ w.if-has.true) w.shift_of.ensures.0)
      | else-has w ↦ rw (w.at-is, w.n-is) (gather_clear _ _ c.loop-b.invariant c.loop-b-test.true (sym c.has.ensures ∙ w.if-has.false))
    ]

pub returns : goal.returns
returns c =
    (c.pad.ensures.room, gather_pad _ c.loop-b.invariant c.loop-b-test.false c.pad.ensures, c.pad.ensures.again.long ∙ c.loop-b.invariant.long)
