-- How far a pixel sees (02, T-09).
--     reach                   how far one pass looks, in rows and in columns
--     Near d i j              i and j are at most d apart
--     Alike d w h a b r c     two images of w × h pixels agree at every pixel within d rows and d columns of (r, c)
--     Sees d t                images that are alike within d × k of a pixel have one value there after k passes with the table t
--     Locality                so it is with reach for every table; Exact: for some accepted table with no smaller number
--     Inner d hs i r          at least d rows of part i lie between its row r and each seam; the strip's own edges are no seams
--     PartAlone               there a strip and the part cleaned alone have one value after k passes
-- Assumes nothing.
use Rattle.std.specs.Prelude.{List, ◌⊎◌, ◌≡◌, ℕ, suc, ◌+◌, ◌*◌, ◌≤◌, ◌<◌, length, get_or, Ok}
use Rattle.image.specs.Parts.{above, part_of}
use Rattle.operator.specs.Image.{pixel}
use Rattle.operator.specs.Pass.{passes}
use Rattle.seq.specs.Lists.{sum_of}
use Rattle.table.specs.declared.Table.{Table}
use Rattle.table.specs.Record.{record_verdict}

abbrev pub reach : ℕ
reach = 6

abbrev pub Near : ℕ → ℕ → ℕ → Type 0
Near d i j = (i ≤ j + d) × (j ≤ i + d)

abbrev pub Alike : ℕ → ℕ → ℕ → List ℕ → List ℕ → ℕ → ℕ → Type 0
Alike d w h a b r c = (r' c' : ℕ) → r' < h → c' < w → Near d r r' → Near d c c' → pixel w a r' c' ≡ pixel w b r' c'

abbrev pub Sees : ℕ → Table → Type 0
Sees d t =
    (w h : ℕ) (a b : List ℕ) (k r c : ℕ) → r < h → c < w → Alike (d * k) w h a b r c
    → pixel w (passes t w h k a) r c ≡ pixel w (passes t w h k b) r c

abbrev pub Locality : Type 0
Locality = (t : Table) → Sees reach t

abbrev pub Exact : Type 0
Exact = (t : Table) × (record_verdict t ≡ Ok tt) × ((d : ℕ) → Sees d t → reach ≤ d)

pub record Inner (d : ℕ) (hs : List ℕ) (i r : ℕ) : Type 0 where
  pub upper : (i ≡ 0) ⊎ (d ≤ r)
  pub lower : (suc i ≡ length hs) ⊎ (r + d < get_or hs i 0)

-- row r of part i is row above hs i + r of the strip
abbrev pub PartAlone : Type 0
PartAlone =
    (t : Table) (w : ℕ) (hs img : List ℕ) (k i r c : ℕ) → i < length hs → r < get_or hs i 0 → c < w → Inner (reach * k) hs i r
    → pixel w (passes t w (sum_of hs) k img) (above hs i + r) c ≡ pixel w (passes t w (get_or hs i 0) k (part_of w hs i img)) r c
