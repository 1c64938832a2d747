-- 02, T-09: how far a pixel sees, for every table, size and number of passes.
--     Far d t        in each pass the table t sees d rows and columns far
--     six            every table sees six rows and columns far
--     six_needed     for some accepted table fewer will not do
--     alone          a strip beside its parts cleaned alone
-- Assumes nothing.
use Rattle.std.specs.Prelude.{List, ◌⊎◌, ◌≡◌, ℕ, suc, ◌+◌, ◌*◌, ◌≤◌, ◌<◌, length, get_or, take, drop, Ok}
use Rattle.image.specs.Parts.{rows_of}
use Rattle.operator.proofs.Exact.{exact}
use Rattle.operator.proofs.Locality.{locality, part_alone}
use Rattle.operator.specs.Image.{pixel}
use Rattle.operator.specs.Pass.{passes}
use Rattle.seq.specs.Lists.{sum_of}
use Rattle.table.specs.declared.Table.{Table}
use Rattle.table.specs.Record.{record_verdict}

-- images of w × h pixels that agree at every pixel within d × k rows and columns of another have one value at that one after k passes
abbrev pub Far : ℕ → Table → Type 0
Far d t =
    (w h : ℕ) (a b : List ℕ) (k r c : ℕ) → r < h → c < w
    → ((r' c' : ℕ) → r' < h → c' < w → (r ≤ r' + d * k) × (r' ≤ r + d * k) → (c ≤ c' + d * k) × (c' ≤ c + d * k) → pixel w a r' c' ≡ pixel w b r' c')
    → pixel w (passes t w h k a) r c ≡ pixel w (passes t w h k b) r c

pub six : (t : Table) → Far 6 t
six = locality

pub six_needed : (t : Table) × (record_verdict t ≡ Ok tt) × ((d : ℕ) → Far d t → 6 ≤ d)
six_needed = exact

-- part i of a strip, cut into parts of the heights hs
module _ (t : Table) (w : ℕ) (hs strip : List ℕ) (k i r c : ℕ) (among : i < length hs) (row : r < get_or hs i 0) (column : c < w) where
  abbrev top : ℕ
  top = sum_of (take i hs)

  abbrev part : List ℕ
  part = take (w * get_or hs i 0) (drop (w * top) strip)

  -- at least 6 × k rows of it between row r and each seam: the first part has none above, the last none below
  pub alone : (i ≡ 0) ⊎ (6 * k ≤ r) → (suc i ≡ length hs) ⊎ (r + 6 * k < get_or hs i 0)
      → pixel w (passes t w (sum_of hs) k strip) (top + r) c ≡ pixel w (passes t w (get_or hs i 0) k part) r c
  unfolding rows_of
  alone upper lower = part_alone t w hs strip k i r c among row column (record { upper = upper; lower = lower })
