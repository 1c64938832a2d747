-- `writing::number_length` meets its contract, in each form of the file.
-- Assumes nothing.
use borrow.Author.Tests.{ne_eqb}
use Rattle.table.proofs.Bytes.{length_number}
use Rattle.table.proofs.writing.number_length.Goals as goal

pub returns : goal.returns
returns c = rw (ne_eqb _ _ c.if-table-eq1.false, length_number) c.group_count.ensures
