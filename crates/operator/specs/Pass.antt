-- One pass (01), for a table t and an image of w × h pixels.
--     placed i b b'             along one side of the image: where a translate that puts b at i puts b'; fits size i b b': within the side
--     inside w h r c b b'       the translate that puts position b at (r, c) puts b' inside the image
--     solid w h img v r c K b   that translate of K lies wholly inside, and all its pixels have value v
--     opened t w h img v r c    (r, c) lies in a solid translate of a persistent element (01: covered for v)
--     held t w h img v r c      some element has all its offsets at (r, c) opened for v
--     pass_at t w h img r c      the pixel after one pass: it changes exactly when, of value v, it is held for 1 − v
--     pass t w h img            the image after one pass; passes t w h n img: after n
--     Stable t w h img          one pass leaves it as it is (01: at rest)
-- Assumes nothing.
use Rattle.std.specs.Prelude.{Bool, cond, ◌&&◌, List, ◌≡◌, ℕ, zero, suc, ◌+◌, ◌-◌, ◌*◌, ◌/◌, ◌%◌, leb, ltb, eqb}
use Rattle.operator.specs.Image.{pixel}
use Rattle.operator.specs.Window.{site_row, site_col}
use Rattle.seq.specs.Lists.{any, all}
use Rattle.seq.specs.Tab.{tab}
use Rattle.table.specs.declared.Table.{Table}
use Rattle.table.specs.Mask.{across, down, positions}
use Rattle.table.specs.Record.{masks, persistents}

abbrev pub placed : ℕ → ℕ → ℕ → ℕ
placed i b b' = i + b' - b

abbrev pub fits : ℕ → ℕ → ℕ → ℕ → Bool
fits size i b b' = leb b (i + b') && ltb (placed i b b') size

unfoldable pub inside : ℕ → ℕ → ℕ → ℕ → ℕ → ℕ → Bool
inside w h r c b b' = fits h r (down b) (down b') && fits w c (across b) (across b')

unfoldable pub solid : ℕ → ℕ → List ℕ → ℕ → ℕ → ℕ → ℕ → ℕ → Bool
solid w h img v r c K b =
    all (λ b'. inside w h r c b b' && eqb (pixel w img (placed r (down b) (down b')) (placed c (across b) (across b'))) v) (positions K)

unfoldable pub opened : Table → ℕ → ℕ → List ℕ → ℕ → ℕ → ℕ → Bool
opened t w h img v r c = any (λ K. any (solid w h img v r c K) (positions K)) (persistents t)

unfoldable pub held : Table → ℕ → ℕ → List ℕ → ℕ → ℕ → ℕ → Bool
held t w h img v r c = any (λ e. all (λ n. opened t w h img v (site_row h r n) (site_col w c n)) (positions e)) (masks t)

unfoldable pub pass_at : Table → ℕ → ℕ → List ℕ → ℕ → ℕ → ℕ
pass_at t w h img r c = cond (held t w h img (1 - pixel w img r c) r c) (1 - pixel w img r c) (pixel w img r c)

unfoldable pub pass : Table → ℕ → ℕ → List ℕ → List ℕ
pass t w h img = tab (λ i. pass_at t w h img (i / w) (i % w)) (w * h)

abbrev pub passes : Table → ℕ → ℕ → ℕ → List ℕ → List ℕ
passes t w h zero img = img
passes t w h (suc n) img = pass t w h (passes t w h n img)

abbrev pub Stable : Table → ℕ → ℕ → List ℕ → Type 0
Stable t w h img = pass t w h img ≡ img
