-- The plain rule ψ (01): a pixel changes exactly when some element has all its offsets of the other value.
--     opposed t w h img v r c    some element has the value v at all its offsets at (r, c)
--     plain_at t w h img r c      the pixel after it; plain t w h img: the image
-- Assumes nothing.
use Rattle.std.specs.Prelude.{Bool, cond, List, ℕ, ◌-◌, ◌*◌, ◌/◌, ◌%◌, eqb}
use Rattle.operator.specs.Image.{pixel}
use Rattle.operator.specs.Window.{site_row, site_col}
use Rattle.seq.specs.Lists.{any, all}
use Rattle.seq.specs.Tab.{tab}
use Rattle.table.specs.declared.Table.{Table}
use Rattle.table.specs.Mask.{positions}
use Rattle.table.specs.Record.{masks}

unfoldable pub opposed : Table → ℕ → ℕ → List ℕ → ℕ → ℕ → ℕ → Bool
opposed t w h img v r c = any (λ e. all (λ n. eqb (pixel w img (site_row h r n) (site_col w c n)) v) (positions e)) (masks t)

unfoldable pub plain_at : Table → ℕ → ℕ → List ℕ → ℕ → ℕ → ℕ
plain_at t w h img r c = cond (opposed t w h img (1 - pixel w img r c) r c) (1 - pixel w img r c) (pixel w img r c)

unfoldable pub plain : Table → ℕ → ℕ → List ℕ → List ℕ
plain t w h img = tab (λ i. plain_at t w h img (i / w) (i % w)) (w * h)
