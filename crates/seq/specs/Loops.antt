-- Where a loop stands that goes along a list and stores at each index.
--     Swept f d l lo hi    l is the list d with f j at each index j from lo to before hi
-- Assumes nothing.
use Rattle.std.specs.Prelude.{List, ◌≡◌, ℕ, ◌≤◌, ◌<◌, length, get_or}

pub record Swept (f : ℕ → ℕ) (d l : List ℕ) (lo hi : ℕ) : Type 0 where
  pub long : length l ≡ length d
  pub inner : (j : ℕ) → lo ≤ j → j < hi → get_or l j 0 ≡ f j
  pub before : (j : ℕ) → j < lo → get_or l j 0 ≡ get_or d j 0
  pub after : (j : ℕ) → hi ≤ j → get_or l j 0 ≡ get_or d j 0
