-- The groups of a number, byte by byte.
--     more_while      the count of the bytes with bit 7 set, as an iterator takes them
--     Summed l n j v  a sum of n groups from the last on stands at j: v is the value of those from j on; with the loop's start, its step and its end
-- Assumes nothing.
use Rattle.std.specs.List.{take_while}
use Rattle.std.proofs.lemmas.List.Sums.{take_while-cons}
use mathlib.Core.Bool.{Bool, true, false, cond}
use mathlib.Core.List.{List, [], ◌∷◌}
use mathlib.Core.Path.{◌≡◌, refl, ap}
use Prim.Native.Nat.{ℕ, suc, ◌≤◌, ◌<◌}
use native.Mathlib.Omega.{arith}
use lib.Dec.{leb}
use lib.ListN.{length, take, drop, length-take, length-drop}
use Rattle.table.specs.Number.{run, more, groups}

-- the bytes with bit 7 set at the front, as an iterator takes them
run_while : (l : List ℕ) → run l ≡ length (take_while (λ b. leb 128 b) l)
run_while [] = refl
run_while (b ∷ l) = rw (take_while-cons (λ b. leb 128 b) b l) (step (leb 128 b) (run_while l))
  where
    step : (t : Bool) → run l ≡ length (take_while (λ b. leb 128 b) l) → cond t (suc (run l)) 0 ≡ length (cond t (b ∷ take_while (λ b. leb 128 b) l) [])
    step true e = ap suc e
    step false e = refl

pub more_while : (l : List ℕ) → more l ≡ length (take_while (λ b. leb 128 b) (take 4 l))
unfolding more
more_while l = run_while (take 4 l)

pub record Summed (l : List ℕ) (n j v : ℕ) : Type 0 where
  pub within : j ≤ n
  pub bytes : n ≤ length l
  pub four : n ≤ 4
  pub sum : v ≡ groups (drop j (take n l))

-- three groups and less are below 2 ^ 21
groups_lt : (l : List ℕ) → length l ≤ 3 → groups l < 2097152
groups_lt [] h = omega arith
groups_lt (a ∷ []) h = omega arith
groups_lt (a ∷ b ∷ []) h = omega arith
groups_lt (a ∷ b ∷ c ∷ []) h = omega arith
groups_lt (a ∷ b ∷ c ∷ d ∷ l) h = absurd (omega arith)

module _ {l : List ℕ} {n j v : ℕ} (r : Summed l n j v) (h : 0 < j) where
  pub summed_lt : v < 2097152
  summed_lt =
      let b = groups_lt (drop j (take n l)) (simp (length-drop, length-take) (omega (arith, r.within, r.four))) in
      omega (arith, r.sum)
