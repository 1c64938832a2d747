-- Bits of a number.
--     bit m n        bit n of m is set
--     bits_of k m     the n below k with bit n of m set, rising
-- Assumes nothing.
use Rattle.std.specs.Prelude.{Bool, List, ℕ, ◌/◌, ◌%◌, ◌^◌, eqb}
use Rattle.seq.specs.Lists.{keep}
use Rattle.seq.specs.Tab.{up_to}

unfoldable pub bit : ℕ → ℕ → Bool
bit m n = eqb (m / 2 ^ n % 2) 1

unfoldable pub bits_of : ℕ → ℕ → List ℕ
bits_of k m = keep (bit m) (up_to k)
