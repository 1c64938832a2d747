-- Cover in the words of 02 (T-05), and what figures shows of a job.
--     cover_zero, cover_all, cover_most    0 exactly when at most half a thousandth is black, 1000 when all is, never above
--     figures_nearest                      cover is the nearest thousandth of what view shows
-- Assumes nothing.
use Rattle.std.specs.Prelude.{Ok, Err}
use mathlib.Core.Logic.{◌↔◌}
use mathlib.Core.Path.{◌≡◌, refl, sym}
use Prim.Native.Nat.{ℕ, ◌*◌, ◌≤◌, ◌<◌}
use native.Mathlib.Nat.{lt_of_mul-lt-mul_right}
use native.Mathlib.Omega.{arith}
use Rattle.operator.specs.Image.{black}
use Rattle.history.specs.Answers.{figured_cover}
use Rattle.history.specs.Rounding.{Nearest}
use Rattle.history.specs.State.{State, pixels, image, ready_verdict}
use Rattle.history.specs.View.{view_of, cover, figures_as, figures_of}
use Rattle.history.proofs.Ready.{accepted_ready, ready_some}
use Rattle.history.proofs.Rounding.{nearest_is, nearest_only}
use Rattle.history.proofs.View.{view_ready}
use Rattle.verdict.specs.Answers.{verdict_of}
use Rattle.verdict.proofs.Rules.{refused_accepted}
use Rattle.verdict.specs.Rules.{Verdict}

module _ (n m : ℕ) (pos : 0 < m) where
  cover_nearest : Nearest (1000 * n) m (cover n m)
  unfolding cover
  cover_nearest = nearest_is (1000 * n) m pos

  cover_only : {c : ℕ} → Nearest (1000 * n) m c → c ≡ cover n m
  unfolding cover
  cover_only x = nearest_only (1000 * n) m pos x

  pub cover_zero : (cover n m ≡ 0) ↔ (2000 * n ≤ m)
  cover_zero = (λ e. by (rw e at cover_nearest), λ l. sym (cover_only (record { above = omega arith; below = omega arith; even = λ e. refl })))
    where
      by : Nearest (1000 * n) m 0 → 2000 * n ≤ m
      by x = omega (arith, x.below)

  pub cover_most : n ≤ m → cover n m ≤ 1000
  cover_most l =
      let under : cover n m * m < 1001 * m = omega (arith, cover_nearest.above) in
      omega (arith, lt_of_mul-lt-mul_right m under)

pub cover_all : (m : ℕ) → 0 < m → cover m m ≡ 1000
cover_all m pos = sym (cover_only m m pos (record { above = omega arith; below = omega arith; even = λ e. refl }))

pub figures_nearest : (s : State) → verdict_of (figures_of s) ≡ Ok tt
    → Nearest (1000 * black (view_of s)) (pixels s.job) (figured_cover (figures_of s))
unfolding figures_of
figures_nearest s = by (ready_verdict s) refl
  where
    by : (v : Verdict) → ready_verdict s ≡ v → verdict_of (figures_as v s) ≡ Ok tt
        → Nearest (1000 * black (view_of s)) (pixels s.job) (figured_cover (figures_as v s))
    by (Ok _) e a = let r = accepted_ready s e in rw (view_ready s r) (cover_nearest (black (image s)) (pixels s.job) (ready_some r))
    by (Err x) e a = refused_accepted refl a
