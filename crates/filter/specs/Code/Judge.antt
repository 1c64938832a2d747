-- What the element test leaves of the candidates (the module `judge`).
--     Bytes n b at x                    the n bytes of b from at on are those of the number x, the first the lowest
--     Confirmed es map from d f at n    f is d with, in the n bytes at at, just the bits of those pixels for whose window some element matches
--     block_candidate hit map plane top r k l v         a candidate of row top + r
--     JudgedRows es hit map plane top rows d f c e     the flips d become f and the marks c become e: in the rows from top on, a marked row has the
--                                       candidates for whose window some element matches, and a row that is not marked has no candidates
--     JudgedIn S w lo hi img flips changed             Judged, for the rows from lo to before hi
-- Assumes nothing.
use Rattle.std.specs.Prelude.{Bool, false, ◌&&◌, List, ◌≡◌, ℕ, ◌+◌, ◌*◌, ◌/◌, ◌%◌, ◌^◌, ◌≤◌, ◌<◌, length, get_or}
use Rattle.filter.specs.Code.Candidate.{candidate_is}
use Rattle.filter.specs.Code.Opening.{held_within}
use Rattle.filter.specs.Code.Plane.{band, halo, step, rim}
use Rattle.filter.specs.Code.Turn.{flip_is}
use Rattle.seq.specs.Bits.{bit}

abbrev pub Bytes : ℕ → List ℕ → ℕ → ℕ → Type 0
Bytes n b at x = (i : ℕ) → i < n → x / 2 ^ (8 * i) % 256 ≡ get_or b (at + i) 0

pub record Confirmed (es map : List ℕ) (from : ℕ) (d f : List ℕ) (at n : ℕ) : Type 0 where
  pub long : length f ≡ length d
  pub coded : (k l v : ℕ) → k < n → l < 4 → v < 2
      → bit (get_or f (at + k) 0) (2 * l + v) ≡ (bit (get_or d (at + k) 0) (2 * l + v) && held_within es map (from + k) (2 * l + v))
  pub before : (j : ℕ) → j < at → get_or f j 0 ≡ get_or d j 0
  pub after : (j : ℕ) → at + n ≤ j → get_or f j 0 ≡ get_or d j 0

abbrev pub block_candidate : List ℕ → List ℕ → List ℕ → ℕ → ℕ → ℕ → ℕ → ℕ → Bool
block_candidate hit map plane top r k l v = candidate_is hit map (step * r + 6) plane (step * (top + r + rim) + halo) k l v

pub record JudgedRows (es hit map plane : List ℕ) (top rows : ℕ) (d f c e : List ℕ) : Type 0 where
  pub flips_long : length f ≡ length d
  pub marks_long : length e ≡ length c
  pub marked : (r k l v : ℕ) → r < rows → k < band → l < 4 → v < 2 → (get_or e (rim + (top + r)) 0 ≡ 0 → ⊥)
      → bit (get_or f (band * (top + r) + k) 0) (2 * l + v) ≡ (block_candidate hit map plane top r k l v && held_within es map (step * r + (6 + k)) (2 * l + v))
  pub none : (r k l v : ℕ) → r < rows → k < band → l < 4 → v < 2 → get_or e (rim + (top + r)) 0 ≡ 0 → block_candidate hit map plane top r k l v ≡ false
  pub flips_before : (j : ℕ) → j < band * top → get_or f j 0 ≡ get_or d j 0
  pub flips_after : (j : ℕ) → band * (top + rows) ≤ j → get_or f j 0 ≡ get_or d j 0
  pub marks_before : (j : ℕ) → j < rim + top → get_or e j 0 ≡ get_or c j 0
  pub marks_after : (j : ℕ) → rim + (top + rows) ≤ j → get_or e j 0 ≡ get_or c j 0

pub record JudgedIn (S : ℕ → ℕ → Bool) (w lo hi : ℕ) (img flips changed : List ℕ) : Type 0 where
  pub flipped : (r k l v : ℕ) → lo ≤ r → r < hi → k < band → l < 4 → v < 2 → (get_or changed (rim + r) 0 ≡ 0 → ⊥)
      → bit (get_or flips (band * r + k) 0) (2 * l + v) ≡ flip_is S w img v r (band * l + k)
  pub quiet : (r c : ℕ) → lo ≤ r → r < hi → c < w → get_or changed (rim + r) 0 ≡ 0 → S r c ≡ false
