-- Counts against a limit, without a sum that could wrap.
--     ltb_sub                 a sum is above a limit exactly when one part is above what the other leaves
-- Assumes nothing.
use mathlib.Core.Bool.{Bool, true, false}
use mathlib.Core.Path.{◌≡◌, refl}
use Prim.Native.Nat.{ℕ, ◌+◌, ◌-◌, ◌≤◌}
use native.Mathlib.Omega.{arith}
use borrow.Author.Tests.{ltb-true, ltb-false, lt-ltb, le-ltb}
use lib.Dec.{ltb}

pub ltb_sub : (n a b : ℕ) → a ≤ n → ltb (n - a) b ≡ ltb n (a + b)
ltb_sub n a b h = step (ltb n (a + b)) refl
  where
    step : (t : Bool) → ltb n (a + b) ≡ t → ltb (n - a) b ≡ t
    step true e = lt-ltb (n - a) b (omega (arith, ltb-true n (a + b) e))
    step false e = le-ltb (n - a) b (omega (arith, ltb-false n (a + b) e))
