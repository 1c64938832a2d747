-- What a pass changes (the modules `judge` and `turn`). S r c says that the pixel in row r and column c changes.
--     flip_is S w img v r c             the pixel lies in a row of w pixels and changes to v
--     lane_count v x                    the lanes of a byte that have bit v
--     tallied v flips from n           the lanes of n bytes that have it
--     Judged S w h img flips changed   in each marked row the flips are the pixels that change, by the value that they get; no pixel of another row changes
--     turned S w h img                 the image afterwards
--     Exchanged flips from d l at n    l is d with the codes in n bytes exchanged where a flip stands
--     RowTurned flips from d l at      l is d with the codes of the row that begins at at exchanged, beside the bands too
--     Still S w h from marks           no pixel of a row that is not marked changes; the first row's mark is the one at from
--     Turned S w h img plane c e a d   after a pass: the plane has the image afterwards, a pixels were added and d removed, and of the marks c the marks e are left
-- Assumes nothing.
use Rattle.std.specs.Prelude.{Bool, cond, false, not, ◌&&◌, ◌||◌, List, ◌≡◌, ℕ, ◌+◌, ◌-◌, ◌*◌, ◌/◌, ◌%◌, ◌≤◌, ◌<◌, ltb, eqb, length, get_or}
use Rattle.filter.specs.Code.Plane.{band, halo, rim, Packed, Refreshed}
use Rattle.operator.specs.Image.{pixel, added, removed}
use Rattle.seq.specs.Bits.{bit}
use Rattle.seq.specs.Lists.{same, count, sum_of}
use Rattle.seq.specs.Tab.{tab, up_to}

unfoldable pub flip_is : (ℕ → ℕ → Bool) → ℕ → List ℕ → ℕ → ℕ → ℕ → Bool
flip_is S w img v r c = ltb c w && (eqb (pixel w img r c) (1 - v) && S r c)

unfoldable pub lane_count : ℕ → ℕ → ℕ
lane_count v x = count (λ l. bit x (2 * l + v)) (up_to 4)

unfoldable pub tallied : ℕ → List ℕ → ℕ → ℕ → ℕ
tallied v flips from n = sum_of (tab (λ k. lane_count v (get_or flips (from + k) 0)) n)

pub record Exchanged (flips : List ℕ) (from : ℕ) (d l : List ℕ) (at n : ℕ) : Type 0 where
  pub long : length l ≡ length d
  pub coded : (k m v : ℕ) → k < n → m < 4 → v < 2
      → bit (get_or l (at + k) 0) (2 * m + v)
      ≡ not (same (bit (get_or d (at + k) 0) (2 * m + v)) (bit (get_or flips (from + k) 0) (2 * m + v) || bit (get_or flips (from + k) 0) (2 * m + (1 - v))))
  pub before : (j : ℕ) → j < at → get_or l j 0 ≡ get_or d j 0
  pub after : (j : ℕ) → at + n ≤ j → get_or l j 0 ≡ get_or d j 0

pub record RowTurned (flips : List ℕ) (from : ℕ) (d l : List ℕ) (at : ℕ) : Type 0 where
  pub bands : List ℕ
  pub exchanged : Exchanged flips from d bands (at + halo) band
  pub bytes : (j : ℕ) → get_or bands j 0 < 256
  pub refreshed : Refreshed bands l at

pub record Still (S : ℕ → ℕ → Bool) (w h from : ℕ) (marks : List ℕ) : Type 0 where
  pub still : (r c : ℕ) → r < h → c < w → get_or marks (from + r) 0 ≡ 0 → S r c ≡ false

pub record Judged (S : ℕ → ℕ → Bool) (w h : ℕ) (img flips changed : List ℕ) : Type 0 where
  pub flipped : (r k l v : ℕ) → r < h → k < band → l < 4 → v < 2 → (get_or changed (rim + r) 0 ≡ 0 → ⊥)
      → bit (get_or flips (band * r + k) 0) (2 * l + v) ≡ flip_is S w img v r (band * l + k)
  pub quiet : Still S w h rim changed

unfoldable pub turned : (ℕ → ℕ → Bool) → ℕ → ℕ → List ℕ → List ℕ
turned S w h img = tab (λ i. cond (S (i / w) (i % w)) (1 - pixel w img (i / w) (i % w)) (pixel w img (i / w) (i % w))) (w * h)

-- after a pass: the plane, the counts, and the marks, of which some are taken away
pub record Turned (S : ℕ → ℕ → Bool) (w h : ℕ) (img plane c e : List ℕ) (a d : ℕ) : Type 0 where
  pub packed : Packed w h (turned S w h img) plane
  pub more : a ≡ added img (turned S w h img)
  pub less : d ≡ removed img (turned S w h img)
  pub quiet : Still S w h rim e
  pub long : length e ≡ length c
  pub before : (j : ℕ) → j < rim → get_or e j 0 ≡ get_or c j 0
  pub after : (j : ℕ) → rim + h ≤ j → get_or e j 0 ≡ get_or c j 0
