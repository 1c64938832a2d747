-- Rounding (02, T-05): to the nearest whole number, and an exact half to the even one.
--     rounds_up a n     that is the number above a / n cut down
--     nearest a n      a / n so rounded
--     Nearest a n c    c is that number: at most a half away from a / n, and even where it is a half away
-- Assumes nothing.
use Rattle.std.specs.Prelude.{Bool, ◌||◌, ◌&&◌, ◌⊎◌, ◌≡◌, ℕ, ◌+◌, ◌*◌, ◌/◌, ◌%◌, ◌≤◌, eqb, ltb}
use Rattle.seq.specs.Lists.{one}

-- more than a half is left, or an exact half above an odd number
abbrev pub rounds_up : ℕ → ℕ → Bool
rounds_up a n = ltb n (2 * (a % n)) || (eqb (2 * (a % n)) n && eqb (a / n % 2) 1)

unfoldable pub nearest : ℕ → ℕ → ℕ
nearest a n = a / n + one (rounds_up a n)

-- times 2 n, so that no fraction is left
pub record Nearest (a n c : ℕ) : Type 0 where
  pub above : 2 * (c * n) ≤ 2 * a + n
  pub below : 2 * a ≤ 2 * (c * n) + n
  pub even : (2 * (c * n) ≡ 2 * a + n) ⊎ (2 * a ≡ 2 * (c * n) + n) → c % 2 ≡ 0
