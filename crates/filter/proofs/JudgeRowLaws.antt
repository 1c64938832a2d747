-- The rows of a block whose candidates are judged.
--     RowIs es hit map plane top r f x          row top + r of the flips f has the candidates that change; or x is 0 and there are no candidates
--     RowJudged es hit map plane top r d f x    so it is, and f is d outside the row
--     row_none                        a row that has no candidates
-- Assumes nothing.
use mathlib.Core.Bool.{Bool, false, ◌&&◌}
use mathlib.Core.List.{List}
use mathlib.Core.Path.{◌≡◌}
use Prim.Native.Nat.{ℕ, ◌+◌, ◌*◌, ◌≤◌, ◌<◌}
use lib.ListN.{length, get_or}
use Rattle.seq.specs.Bits.{bit}
use Rattle.filter.specs.Code.Candidate.{Narrowed}
use Rattle.filter.specs.Code.Judge.{block_candidate}
use Rattle.filter.specs.Code.Opening.{held_within}
use Rattle.filter.specs.Code.Plane.{band, halo, step, rim}

pub record RowIs (es hit map plane : List ℕ) (top r : ℕ) (f : List ℕ) (x : ℕ) : Type 0 where
  pub marked : (k l v : ℕ) → k < band → l < 4 → v < 2 → (x ≡ 0 → ⊥)
      → bit (get_or f (band * (top + r) + k) 0) (2 * l + v) ≡ (block_candidate hit map plane top r k l v && held_within es map (step * r + (6 + k)) (2 * l + v))
  pub none : (k l v : ℕ) → k < band → l < 4 → v < 2 → x ≡ 0 → block_candidate hit map plane top r k l v ≡ false

pub record RowJudged (es hit map plane : List ℕ) (top r : ℕ) (d f : List ℕ) (x : ℕ) : Type 0 where
  pub long : length f ≡ length d
  pub own : RowIs es hit map plane top r f x
  pub before : (j : ℕ) → j < band * (top + r) → get_or f j 0 ≡ get_or d j 0
  pub after : (j : ℕ) → band * (top + r) + band ≤ j → get_or f j 0 ≡ get_or d j 0

module _ (es hit map plane : List ℕ) (top r : ℕ) {d m : List ℕ} {b : Bool}
    (w : Narrowed hit map (step * r + 6) plane (step * (top + r + rim) + halo) d m (band * (top + r)) b) where
  pub row_none : (x : ℕ) → x ≡ 0 → b ≡ false → RowJudged es hit map plane top r d m x
  row_none x z e =
      record {
        long = w.long;
        own = record { marked = λ k l v a c q n. absurd (n z); none = λ k l v a c q n. w.none e k l v a c q };
        before = w.before;
        after = w.after;
      }
