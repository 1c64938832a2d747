-- `writing::put_number` meets its contract, in each form of the file.
-- Assumes nothing.
use borrow.Author.Tests.{ne_eqb}
use Rattle.table.proofs.Bytes.{length_number}
use Rattle.table.proofs.writing.put_number.Goals as goal

pub put_at-requires : goal.put_at-requires
put_at-requires c = rw (← length_number) (rw (ne_eqb _ _ c.if-table-eq1.false) at c.requires)

pub returns : goal.returns
returns c =
    rw (ne_eqb _ _ c.if-table-eq1.false, length_number) c.put_at.ensures
