-- `writing::file_length` meets its contract: the lengths of the five parts of a file.
-- Assumes nothing.
use native.Mathlib.Omega.{arith}
use Rattle.table.specs.Record.{masks, persistents}
use Rattle.table.proofs.Bytes.{length_bytes}
use Rattle.table.proofs.writing.file_length.Goals as goal

pub returns : goal.returns
unfolding masks persistents
returns c = omega (arith, length_bytes c.args.table)
