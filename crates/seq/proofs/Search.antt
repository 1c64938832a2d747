-- A loop that searches the numbers from 0 up to n for the lowest that passes a test.
--     Passed p n k    where it stands at k: nothing below k passes
--     passed_none     the loop's start
--     passed_more     one more that does not pass
--     passed_found    the first that passes
--     passed_all      the loop's end
-- Assumes nothing.
use Rattle.std.specs.Prelude.{None, Some}
use mathlib.Core.Bool.{Bool, true, false}
use mathlib.Core.Path.{◌≡◌, sym}
use Prim.Native.Nat.{ℕ, ◌+◌, ◌≤◌, ◌<◌, zero-le}
use native.Mathlib.Nat.{lt_of_lt_of_le}
use native.Mathlib.Omega.{arith}
use borrow.Author.Count.{below_none, below_more}
use Rattle.seq.specs.Tab.{first}
use Rattle.seq.proofs.Tab.{first_at, first_none}

pub record Passed (p : ℕ → Bool) (n k : ℕ) : Type 0 where
  pub within : k ≤ n
  pub no_lower : (j : ℕ) → j < k → p j ≡ false

module _ {p : ℕ → Bool} {n : ℕ} where
  pub passed_none : Passed p n 0
  passed_none = record { within = zero-le; no_lower = below_none (λ j. p j ≡ false) }

  pub passed_more : {k : ℕ} → Passed p n k → k < n → p k ≡ false → Passed p n (k + 1)
  passed_more {k} r l e = record { within = omega arith; no_lower = below_more (λ j. p j ≡ false) k r.no_lower e }

  pub passed_found : {k : ℕ} → Passed p n k → k < n → p k ≡ true → Some k ≡ first p n
  passed_found {k} r l e = sym (first_at p n k l r.no_lower e)

  pub passed_all : {k : ℕ} → Passed p n k → n ≤ k → None ≡ first p n
  passed_all r l = sym (first_none p n (λ j m. r.no_lower j (lt_of_lt_of_le m l)))
