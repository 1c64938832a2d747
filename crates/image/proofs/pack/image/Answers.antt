-- `image::pack::image` meets its contract. Assumes nothing.
use native.Mathlib.Omega.{arith}
use Rattle.image.proofs.PackedRows.{rows_more, rows_all}
use Rattle.image.proofs.pack.image.Goals as goal

pub loop-row-preserved : goal.loop-row-preserved
loop-row-preserved c = rows_more c.loop-row.invariant c.requires.2 c.requires.3 (omega arith) c.pack_row.ensures

pub returns : goal.returns
returns c = rows_all c.loop-row.invariant c.requires.3 (omega arith)
