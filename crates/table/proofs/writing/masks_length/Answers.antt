-- `writing::masks_length` meets its contract.
-- Assumes nothing.
use mathlib.Core.Path.{◌≡◌, sym, ◌∙◌}
use native.Mathlib.Omega.{arith}
use Rattle.std.proofs.Common.{rules}
use Rattle.std.specs.List.{sum_by}
use Rattle.table.specs.Number.{group_count}
use Rattle.table.proofs.Bytes.{masks_size, masks_size_le}
use Rattle.table.proofs.writing.masks_length.Goals as goal

pub returns : goal.returns
returns c =
    let summed : c.sum.result ≡ sum_by group_count c.args.masks.now = search rules in
    (summed ∙ sym (masks_size _), omega (arith, summed, masks_size c.args.masks.now, masks_size_le c.args.masks.now))
