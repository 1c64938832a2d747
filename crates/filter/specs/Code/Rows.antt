-- Rows that are marked (the module `rows`): one byte a row, 0 where the row has no mark.
--     most                           the most rows that a run of marked rows has; nearby: the marks within reach of a row
--     Marked marks i                 row i has a mark
--     NextMarked marks h top r       r is the first row from top on that has a mark, or h where none has
--     MarkedRun marks h top r        the rows from top to before r have marks: at least one row, at most most
--     Quiet c i                      no row within reach of row i has a mark; the mark of row r stands at reach + r in c
--     Spread n c h d l               l is d but for the first h rows, of which row i has a mark where c has one among the n from index i on
-- Assumes nothing.
use Rattle.std.specs.Prelude.{List, ◌≡◌, ℕ, ◌+◌, ◌*◌, ◌≤◌, ◌<◌, length, get_or}
use Rattle.operator.specs.Locality.{reach}

abbrev pub most : ℕ
most = 64

abbrev pub nearby : ℕ
nearby = 2 * reach + 1

abbrev pub Marked : List ℕ → ℕ → Type 0
Marked marks i = get_or marks i 0 ≡ 0 → ⊥

pub record NextMarked (marks : List ℕ) (h top r : ℕ) : Type 0 where
  pub from : top ≤ r
  pub within : r ≤ h
  pub skipped : (i : ℕ) → top ≤ i → i < r → get_or marks i 0 ≡ 0
  pub found : r < h → Marked marks r

pub record MarkedRun (marks : List ℕ) (h top r : ℕ) : Type 0 where
  pub from : top < r
  pub within : r ≤ h
  pub few : r ≤ top + most
  pub marked : (i : ℕ) → top ≤ i → i < r → Marked marks i

abbrev pub Quiet : List ℕ → ℕ → Type 0
Quiet c i = (d : ℕ) → d < nearby → get_or c (i + d) 0 ≡ 0

pub record Spread (n : ℕ) (c : List ℕ) (h : ℕ) (d l : List ℕ) : Type 0 where
  pub long : length l ≡ length d
  pub clear : (i : ℕ) → i < h → get_or l i 0 ≡ 0 → (e : ℕ) → e < n → get_or c (i + e) 0 ≡ 0
  pub behind : (j : ℕ) → h ≤ j → get_or l j 0 ≡ get_or d j 0
