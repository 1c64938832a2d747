-- Images in memory: pixels in row order, pixel (r, c) of an image of width w at r · w + c.
--     pixel w img r c    the value at row r, column c
--     IsImage w h img    an image of w × h pixels of value 0 or 1
--     black img          how many pixels are 1
--     added a b          how many pixels go from 0 in a to 1 in b; removed a b: from 1 to 0
--     differs a b        some pixel is not the same; differs_at a b i: pixel i is not
--     exchange img       the colours exchanged
--     Below a b          what is black in a is black in b
-- Assumes nothing.
use Rattle.std.specs.Prelude.{Bool, true, not, ◌&&◌, List, map, ◌≡◌, ℕ, ◌+◌, ◌*◌, ◌-◌, ◌≤◌, ◌<◌, leb, eqb, length, get_or}
use Rattle.seq.specs.Lists.{any, all, count}
use Rattle.seq.specs.Tab.{up_to}

abbrev pub pixel : ℕ → List ℕ → ℕ → ℕ → ℕ
pixel w img r c = get_or img (r * w + c) 0

pub record IsImage (w h : ℕ) (img : List ℕ) : Type 0 where
  pub wide : 1 ≤ w
  pub high : 1 ≤ h
  pub sized : length img ≡ w * h
  pub binary : all (λ v. leb v 1) img ≡ true

unfoldable pub black : List ℕ → ℕ
black img = count (λ v. eqb v 1) img

unfoldable pub added : List ℕ → List ℕ → ℕ
added a b = count (λ i. eqb (get_or a i 0) 0 && eqb (get_or b i 0) 1) (up_to (length a))

unfoldable pub removed : List ℕ → List ℕ → ℕ
removed a b = count (λ i. eqb (get_or a i 0) 1 && eqb (get_or b i 0) 0) (up_to (length a))

abbrev pub differs_at : List ℕ → List ℕ → ℕ → Bool
differs_at a b i = not (eqb (get_or a i 0) (get_or b i 0))

unfoldable pub differs : List ℕ → List ℕ → Bool
differs a b = any (differs_at a b) (up_to (length a))

unfoldable pub exchange : List ℕ → List ℕ
exchange img = map (λ v. 1 - v) img

abbrev pub Below : List ℕ → List ℕ → Type 0
Below a b = (i : ℕ) → i < length a → get_or a i 0 ≤ get_or b i 0
