-- `image::size::is_bad` meets its contract. Assumes nothing.
use Rattle.std.proofs.Common.{sym, ◌∙◌}
use Rattle.image.specs.Size.{bad_size}
use Rattle.image.proofs.size.is_bad.Goals as goal
use Rattle.image.proofs.size.is_bad.Goals.{then-is_within, else-is_within}

pub returns : goal.returns
unfolding bad_size
returns c = elim c.if-is_within.branch [
  | then-is_within w ↦ simp (sym c.is_within.ensures ∙ w.if-is_within.true, w.result-is, w.is_within-then-is_within.ensures)
  | else-is_within w ↦ simp (sym c.is_within.ensures ∙ w.if-is_within.false, w.result-is, w.if-is_within.false)
]
