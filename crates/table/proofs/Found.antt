-- What an iterator's `find` over the numbers below a bound answers.
--     found_first     the lowest that passes the test
-- Assumes nothing.
use Rattle.std.specs.Prelude.{Option, None, Some, MatchOption}
use mathlib.Core.Bool.{Bool, true, false}
use mathlib.Core.Path.{◌≡◌, sym}
use Prim.Native.Nat.{ℕ, ◌≤◌, ◌<◌, zero-le}
use Rattle.seq.specs.Tab.{first}
use Rattle.seq.proofs.Tab.{first_at, first_none}

pub found_first : (p : ℕ → Bool) (n : ℕ) (r : Option ℕ)
    → MatchOption r ((k : ℕ) → 0 ≤ k → k < n → p k ≡ false) (λ i. (0 ≤ i) × (i < n) × (p i ≡ true) × ((k : ℕ) → 0 ≤ k → k < i → p k ≡ false))
    → r ≡ first p n
found_first p n None h = sym (first_none p n (λ k l. h k zero-le l))
found_first p n (Some i) h = sym (first_at p n i h.1 (λ k l. h.3 k zero-le l) h.2)
