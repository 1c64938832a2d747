-- The work areas in the code.
--     pick_even, pick_odd        the one of two lists that the parity names, by the code's test
--     image_even, image_odd      the present image, by the code's test
-- Assumes nothing.
use mathlib.Core.Bool.{cond}
use mathlib.Core.List.{List}
use mathlib.Core.Path.{◌≡◌, ap}
use Prim.Native.Nat.{ℕ, ◌%◌}
use borrow.Author.Tests.{eq-eqb, ne_eqb}
use lib.ListN.{take}
use Rattle.history.specs.State.{State, pixels, even, present, image}

module _ (n : ℕ) (x y : List ℕ) where
  pick_even : n % 2 ≡ 0 → x ≡ cond (even n) x y
  pick_even e = rw (eq-eqb (n % 2) 0 e)

  pick_odd : (n % 2 ≡ 0 → ⊥) → y ≡ cond (even n) x y
  pick_odd h = rw (ne_eqb (n % 2) 0 h)

pub image_even : (s : State) → s.job.passes % 2 ≡ 0 → take (pixels s.job) s.first ≡ image s
unfolding image present
image_even s e = ap (take (pixels s.job)) (pick_even s.job.passes s.first s.second e)

pub image_odd : (s : State) → (s.job.passes % 2 ≡ 0 → ⊥) → take (pixels s.job) s.second ≡ image s
unfolding image present
image_odd s h = ap (take (pixels s.job)) (pick_odd s.job.passes s.first s.second h)
