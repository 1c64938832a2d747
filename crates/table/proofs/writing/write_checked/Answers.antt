-- `writing::write_checked` meets its contract.
-- Assumes nothing.
use Rattle.std.specs.Prelude.{Ok}
use mathlib.Core.Path.{ap, ◌∙◌}
use Prim.Native.Nat.{ℕ}
use native.Mathlib.Omega.{arith}
use Rattle.table.proofs.Facts.{accepted_table}
use Rattle.table.proofs.Outputs.{short_output, whole_output}
use Rattle.table.proofs.writing.write_checked.Goals as goal

pub file_length-length-requires : goal.file_length-length-requires
file_length-length-requires c = let w = accepted_table _ c.requires in (w.count_most, w.ranks_most)

pub returns-then-out-length : goal.returns-then-out-length
returns-then-out-length c = rw c.refused.ensures (short_output _ _ c.requires (omega arith))

pub put_table-requires : goal.put_table-requires
put_table-requires c = let w = accepted_table _ c.requires in (w.count_most, w.ranks_most, omega arith)

pub returns : goal.returns
returns c =
    let size = c.file_length-length.ensures in
    let w = whole_output c.args.table c.args.out.now c.requires (omega (arith, c.if-out-length)) in
    (ap (λ (n : ℕ). Ok n) size ∙ w.0, c.put_table.ensures ∙ w.1)
