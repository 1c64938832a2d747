-- Candidates (the module `candidate`): what the code sweeps over the map to find them, and those of a row.
--     TwoOf e a b                   a and b are positions of the element e
--     Pair at i e                   the shifts at 2 i and 2 i + 1 are those of two positions of the element e
--     Among at n a b                some pair among the first n shifts is a and b
--     Added e d f n m               f has the first n shifts of d and, among its first m, a pair of the element e; at most two are new
--     Evened d f n m                f has the first n shifts of d and, up to a multiple m of four, some of them again
--     Parts es at                   all shifts are those of positions of the only element; or every element has such a pair among them
--     paired o a b c d               o with the bits that a and b have, or c and d
--     Joined at n size l e          byte j < size of e has bit s where l has it at both shifts of some pair among the first n
--     candidate_is hit map from plane at k l v    byte k of a row, lane l: hit for v, of the other value, and not opened for that
--     Narrowed hit map from plane at d f to b    f is d with these candidates in the row of bytes at to, and b says whether there are any
-- Assumes nothing.
use Rattle.std.specs.Prelude.{Bool, true, false, not, ◌&&◌, ◌≡◌, ℕ, ◌+◌, ◌-◌, ◌*◌, ◌%◌, ◌≤◌, ◌<◌, length, get_or}
use mathlib.Core.List.{List, Memᴰ}
use Rattle.std.specs.Int.Bits.{bit_and, bit_or}
use Rattle.seq.specs.Bits.{bit}
use Rattle.table.specs.Mask.{positions}
use Rattle.filter.specs.Code.Opening.{shift, farthest}
use Rattle.filter.specs.Code.Plane.{band}
use Rattle.filter.specs.Code.Sweep.{Fours}

pub record TwoOf (e a b : ℕ) : Type 0 where
  pub low : Memᴰ a (positions e)
  pub high : Memᴰ b (positions e)

pub record Pair (at : List ℕ) (i e : ℕ) : Type 0 where
  pub room : 2 * i + 1 < length at
  pub low : (b : ℕ) × Memᴰ b (positions e) × (get_or at (2 * i) 0 ≡ shift b)
  pub high : (b : ℕ) × Memᴰ b (positions e) × (get_or at (2 * i + 1) 0 ≡ shift b)

pub record Among (at : List ℕ) (n a b : ℕ) : Type 0 where
  pub place : ℕ
  pub room : 2 * place + 1 < n
  pub low : get_or at (2 * place) 0 ≡ a
  pub high : get_or at (2 * place + 1) 0 ≡ b

pub record Added (e : ℕ) (d f : List ℕ) (n m : ℕ) : Type 0 where
  pub long : length f ≡ length d
  pub even : m % 2 ≡ 0
  pub more : n ≤ m
  pub few : m ≤ n + 2
  pub kept : (j : ℕ) → j < n → get_or f j 0 ≡ get_or d j 0
  pub near : (j : ℕ) → n ≤ j → j < m → get_or f j 0 ≤ farthest
  pub has : (i : ℕ) × (2 * i + 1 < m) × Pair f i e

pub record Evened (d f : List ℕ) (n m : ℕ) : Type 0 where
  pub long : length f ≡ length d
  pub fours : m % 4 ≡ 0
  pub more : n ≤ m
  pub room : m ≤ 128
  pub kept : (j : ℕ) → j < n → get_or f j 0 ≡ get_or d j 0
  pub again : (j : ℕ) → n ≤ j → j < m → (k : ℕ) × (k < n) × (get_or f j 0 ≡ get_or d k 0)

pub record Parts (es at : List ℕ) : Type 0 where
  pub fours : Fours at
  pub alone : length es ≡ 1 → (a : ℕ) → Memᴰ a at → (b : ℕ) × Memᴰ b (positions (get_or es 0 0)) × (a ≡ shift b)
  pub each : (length es ≡ 1 → ⊥) → (e : ℕ) → Memᴰ e es → (i : ℕ) × Pair at i e

abbrev pub paired : ℕ → ℕ → ℕ → ℕ → ℕ → ℕ
paired o a b c d = bit_or o (bit_or (bit_and a b) (bit_and c d))

pub record Joined (at : List ℕ) (n size : ℕ) (l e : List ℕ) : Type 0 where
  pub coded : (i j s : ℕ) → 2 * i + 1 < n → j < size → bit (get_or l (get_or at (2 * i) 0 + j) 0) s ≡ true
      → bit (get_or l (get_or at (2 * i + 1) 0 + j) 0) s ≡ true → bit (get_or e j 0) s ≡ true

unfoldable pub candidate_is : List ℕ → List ℕ → ℕ → List ℕ → ℕ → ℕ → ℕ → ℕ → Bool
candidate_is hit map from plane at k l v =
    bit (get_or hit (from + k) 0) (2 * l + v)
    && (bit (get_or plane (at + k) 0) (2 * l + (1 - v)) && not (bit (get_or map (from + 162 + k) 0) (2 * l + (1 - v))))

pub record Narrowed (hit map : List ℕ) (from : ℕ) (plane : List ℕ) (at : ℕ) (d f : List ℕ) (to : ℕ) (b : Bool) : Type 0 where
  pub long : length f ≡ length d
  pub coded : (k l v : ℕ) → k < band → l < 4 → v < 2 → bit (get_or f (to + k) 0) (2 * l + v) ≡ candidate_is hit map from plane at k l v
  pub none : b ≡ false → (k l v : ℕ) → k < band → l < 4 → v < 2 → candidate_is hit map from plane at k l v ≡ false
  pub before : (j : ℕ) → j < to → get_or f j 0 ≡ get_or d j 0
  pub after : (j : ℕ) → to + band ≤ j → get_or f j 0 ≡ get_or d j 0
