-- Lists and searches over the numbers below a bound.
--     tab f n     f 0, f 1, .., f (n − 1)
--     up_to n      0, 1, .., n − 1
--     first p n   the lowest k below n that passes p; first_or b o: 0 where b holds, else one more than what o found
--     Filled f d l n   l has the elements of tab f n at its front and is the list d behind them: where a loop
--                      that fills d from the front stands after n turns
-- Assumes nothing.
use Rattle.std.specs.Prelude.{Bool, true, false, List, [], ◌∷◌, ◌++◌, ◌≡◌, ℕ, zero, suc, ◌≤◌, length, drop, Option, None, Some, option_map}

abbrev pub tab {ℓ} : {A : Type ℓ} → (ℕ → A) → ℕ → List A
tab f zero = []
tab f (suc n) = f zero ∷ tab (λ k. f (suc k)) n

unfoldable pub up_to : ℕ → List ℕ
up_to n = tab (λ k. k) n

abbrev pub first_or : Bool → Option ℕ → Option ℕ
first_or true o = Some 0
first_or false o = option_map suc o

abbrev pub first : (ℕ → Bool) → ℕ → Option ℕ
first p zero = None
first p (suc n) = first_or (p zero) (first (λ k. p (suc k)) n)

pub record Filled {ℓ} {A : Type ℓ} (f : ℕ → A) (d l : List A) (n : ℕ) : Type ℓ where
  pub within : n ≤ length d
  pub filled : l ≡ tab f n ++ drop n d
