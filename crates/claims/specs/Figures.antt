-- 02, T-05: cover is to the nearest whole thousandth, and an exact half goes to the even one.
--     nearest_above, nearest_below, nearest_even    a / n so rounded is at most a half away, and even where it is a half away
--     nearest_alone                                 no other number is
--     cover_zero, cover_most, cover_all             0 exactly when at most half a thousandth is black; at most 1000; 1000 when all is
--     figures_cover                                 figures shows the nearest thousandth of what view shows
--     covers_computed                               each of the cases reads what is expected
-- Assumes nothing.
use Rattle.std.specs.Prelude.{map, ◌↔◌, ◌⊎◌, ◌≡◌, ℕ, ◌+◌, ◌*◌, ◌%◌, ◌≤◌, ◌<◌, Ok}
use Rattle.history.proofs.FiguresOf as figures
use Rattle.history.proofs.Rounding.{nearest_is, nearest_only}
use Rattle.history.specs.Answers.{figured_cover}
use Rattle.history.specs.Cases.{covers, covers_met}
use Rattle.history.specs.Rounding.{nearest, Nearest}
use Rattle.history.specs.State.{State}
use Rattle.history.specs.View.{view_of, cover, figures_of}
use Rattle.operator.specs.Image.{black}
use Rattle.verdict.specs.Answers.{verdict_of}

module _ (a n : ℕ) (some : 0 < n) where
  pub nearest_above : 2 * (nearest a n * n) ≤ 2 * a + n
  nearest_above = (nearest_is a n some).above

  pub nearest_below : 2 * a ≤ 2 * (nearest a n * n) + n
  nearest_below = (nearest_is a n some).below

  pub nearest_even : (2 * (nearest a n * n) ≡ 2 * a + n) ⊎ (2 * a ≡ 2 * (nearest a n * n) + n) → nearest a n % 2 ≡ 0
  nearest_even = (nearest_is a n some).even

  pub nearest_alone : (c : ℕ) → 2 * (c * n) ≤ 2 * a + n → 2 * a ≤ 2 * (c * n) + n
      → ((2 * (c * n) ≡ 2 * a + n) ⊎ (2 * a ≡ 2 * (c * n) + n) → c % 2 ≡ 0) → c ≡ nearest a n
  nearest_alone c x y z = nearest_only a n some (record { above = x; below = y; even = z })

-- n of m pixels are black
module _ (n m : ℕ) (some : 0 < m) where
  pub cover_zero : (cover n m ≡ 0) ↔ (2000 * n ≤ m)
  cover_zero = figures.cover_zero n m some

  pub cover_most : n ≤ m → cover n m ≤ 1000
  cover_most = figures.cover_most n m some

pub cover_all : (m : ℕ) → 0 < m → cover m m ≡ 1000
cover_all = figures.cover_all

-- of every record and areas, whoever made them
pub figures_cover : (s : State) → verdict_of (figures_of s) ≡ Ok tt
    → Nearest (1000 * black (view_of s)) (s.job.width * s.job.height) (figured_cover (figures_of s))
figures_cover = figures.figures_nearest

pub covers_computed : map (λ c. cover c.0 c.1) covers ≡ map (λ c. c.2) covers
covers_computed = covers_met
