-- `writing::put_masks` meets its contract.
-- Assumes nothing.
use Rattle.table.proofs.Bytes.{Placed}
use Rattle.table.proofs.writing.put_masks.Given as goal

abbrev pub invariant-loop-mask : goal.invariant-loop-mask
invariant-loop-mask l = Placed l.masks l.initial.out l.at l.mask-index l.next l.out
