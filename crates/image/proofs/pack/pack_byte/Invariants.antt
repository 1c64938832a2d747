-- `image::pack::pack_byte` meets its contract: the pixels passed are the highest bits of the byte. Assumes nothing.
use mathlib.Core.Path.{◌≡◌}
use Prim.Native.Nat.{◌-◌, ◌*◌, ◌^◌}
use lib.ListN.{get_or}
use Rattle.seq.proofs.HighFirst.{bits_value}
use Rattle.image.proofs.pack.pack_byte.Given as goal

abbrev pub invariant-loop-k : goal.invariant-loop-k
invariant-loop-k l = l.byte ≡ bits_value (λ k. get_or l.pixels k 0) l.k * 2 ^ (8 - l.k)
