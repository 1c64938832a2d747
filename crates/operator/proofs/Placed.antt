-- Where translates put their positions, and when these lie in the image.
--     Fits size i b b'        the coordinate b' of a translate that puts b at i lies in the image, along one side
--     fits_elim, fits_intro   the test for it
--     placed_again, fits_again     a translate moved to another of its coordinates is the same
--     clamp_placed            an offset that leads to a coordinate of the translate is not clamped
--     clamp_below             a clamped offset lies in the image
--     Within w h r c b b'     the position b' of a translate that puts b at (r, c) lies in the image
--     inside_elim, inside_intro    the test for it
-- Assumes nothing.
use mathlib.Core.Bool.{true}
use mathlib.Core.Path.{◌≡◌}
use Prim.Native.Nat.{ℕ, ◌+◌, ◌≤◌, ◌<◌}
use native.Mathlib.Omega.{arith}
use lib.Dec.{leb}
use borrow.Author.Tests.{leb-true, ltb-true, le-leb, lt-ltb}
use Rattle.operator.specs.Pass.{placed, fits, inside}
use Rattle.operator.specs.Window.{clamp}
use Rattle.seq.proofs.Lists.{and_left, and_right, and_intro}
use Rattle.table.specs.Mask.{across, down}

pub record Fits (size i b b' : ℕ) : Type 0 where
  pub reach : b ≤ i + b'
  pub below : placed i b b' < size

fits_elim : (size i b b' : ℕ) → fits size i b b' ≡ true → Fits size i b b'
fits_elim size i b b' h = record {
  reach = leb-true b (i + b') (and_left _ _ h);
  below = ltb-true (placed i b b') size (and_right (leb b (i + b')) _ h);
}

fits_intro : {size i b b' : ℕ} → Fits size i b b' → fits size i b b' ≡ true
fits_intro f = and_intro (le-leb _ _ f.reach) (lt-ltb _ _ f.below)

-- no subtraction is cut at 0
pub placed_again : {size i b b' b'' : ℕ} → Fits size i b b' → Fits size i b b'' → placed (placed i b b') b' b'' ≡ placed i b b''
placed_again f g = omega arith

pub fits_again : {size i b b' b'' : ℕ} → Fits size i b b' → Fits size i b b'' → Fits size (placed i b b') b' b''
fits_again f g = record { reach = omega arith; below = omega arith }

-- the offset a − 2 at i, where b + a is the coordinate s + 2
pub clamp_placed : {size i b s : ℕ} (a : ℕ) → Fits size i b s → s + 2 ≡ b + a → clamp size (i + a) ≡ placed i b s
clamp_placed a f e = omega arith

pub clamp_below : (size i a : ℕ) → i < size → clamp size (i + a) < size
clamp_below size i a l = omega arith

pub record Within (w h r c b b' : ℕ) : Type 0 where
  pub rows : Fits h r (down b) (down b')
  pub columns : Fits w c (across b) (across b')

pub inside_elim : (w h r c b b' : ℕ) → inside w h r c b b' ≡ true → Within w h r c b b'
unfolding inside
inside_elim w h r c b b' i = record {
  rows = fits_elim h r (down b) (down b') (and_left _ _ i);
  columns = fits_elim w c (across b) (across b') (and_right (fits h r (down b) (down b')) _ i);
}

pub inside_intro : {w h r c b b' : ℕ} → Within w h r c b b' → inside w h r c b b' ≡ true
unfolding inside
inside_intro i = and_intro (fits_intro i.rows) (fits_intro i.columns)
