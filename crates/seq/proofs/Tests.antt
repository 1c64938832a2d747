-- Tests that are joined.
--     between, outside, in_range        a test of a range, as the orders that it stands for
--     lt_or_le, lt_not_le               below or at least; below is not at least
--     or_none_left, or_none_right       where an `or` fails, both sides fail
-- Assumes nothing.
use mathlib.Core.Bool.{Bool, true, false, not, ◌&&◌, ◌||◌}
use mathlib.Core.Logic.{◌⊎◌, inl, inr}
use mathlib.Core.Path.{◌≡◌, refl}
use Prim.Native.Nat.{ℕ, ◌≤◌, ◌<◌}
use borrow.Author.Tests.{leb-true, leb-false, ltb-true, ltb-false, le-leb, le-ltb, lt-ltb}
use lib.Dec.{leb, ltb}
use Rattle.seq.proofs.Lists.{clash, and_left, and_right, and_intro}

pub between : (m x n : ℕ) → (leb m x && leb x n) ≡ true → (m ≤ x) × (x ≤ n)
between m x n e = (leb-true m x (and_left (leb m x) (leb x n) e), leb-true x n (and_right (leb m x) (leb x n) e))

pub outside : (m x n : ℕ) → (leb m x && leb x n) ≡ false → (x < m) ⊎ (n < x)
outside m x n e = step (leb m x) refl e
  where
    step : (t : Bool) → leb m x ≡ t → (t && leb x n) ≡ false → (x < m) ⊎ (n < x)
    step true p q = inr (leb-false x n q)
    step false p q = inl (leb-false m x p)

pub in_range : (m x n : ℕ) → m ≤ x → x ≤ n → (leb m x && leb x n) ≡ true
in_range m x n l h = and_intro (le-leb m x l) (le-leb x n h)

pub lt_or_le : (m n : ℕ) → (m < n) ⊎ (n ≤ m)
lt_or_le m n = step (ltb m n) refl
  where
    step : (t : Bool) → ltb m n ≡ t → (m < n) ⊎ (n ≤ m)
    step true p = inl (ltb-true m n p)
    step false p = inr (ltb-false m n p)

pub lt_not_le : (m n : ℕ) → ltb m n ≡ not (leb n m)
lt_not_le m n = step (leb n m) refl
  where
    step : (t : Bool) → leb n m ≡ t → ltb m n ≡ not t
    step true p = le-ltb m n (leb-true n m p)
    step false p = lt-ltb m n (leb-false n m p)

pub or_none_left : (a b : Bool) → (a || b) ≡ false → a ≡ false
or_none_left true b e = clash refl e
or_none_left false b e = refl

pub or_none_right : (a b : Bool) → (a || b) ≡ false → b ≡ false
or_none_right true b e = clash refl e
or_none_right false b e = e
