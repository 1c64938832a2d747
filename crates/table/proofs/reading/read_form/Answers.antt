-- `reading::read_form` meets its contract: the first number tells the form of the file.
-- Assumes nothing.
use Rattle.table.proofs.Parts.{form_zero, form_other}
use Rattle.table.proofs.reading.read_form.Goals as goal

pub returns-then-first-eq0 : goal.returns-then-first-eq0
returns-then-first-eq0 c = (c.in_ok-first.ensures.0, form_zero c.in_ok-first.ensures.1 c.if-first-eq0.true)

pub returns : goal.returns
returns c = (c.in_ok-first.ensures.0, form_other c.in_ok-first.ensures.1 c.if-first-eq0.false)
