-- 02, T-03: a walk over an image carries row and column along, and at each pixel they are those of its index.
--     row_carried, column_carried, index_below     a walk at row r and column c is at the index r · w + c
--     pass_judged, preview_judged     pixel i of one pass, and of the preview, is judged at the row and the column of i
-- Assumes nothing.
use Rattle.std.specs.Prelude.{List, ◌≡◌, ℕ, ◌+◌, ◌*◌, ◌/◌, ◌%◌, ◌<◌, get_or}
use Rattle.operator.specs.Pass.{pass_at, pass}
use Rattle.operator.specs.Preview.{pattern, five_or_more, preview}
use Rattle.operator.specs.Window.{window}
use Rattle.seq.proofs.Grid.{cell_at, cell_tab}
use Rattle.seq.specs.Grid.{Cell}
use Rattle.table.specs.declared.Table.{Table}

module _ (w h r c : ℕ) (high : r < h) (wide : c < w) where
  pub row_carried : r ≡ (r * w + c) / w
  row_carried = (cell_at high wide).row

  pub column_carried : c ≡ (r * w + c) % w
  column_carried = (cell_at high wide).column

  pub index_below : r * w + c < w * h
  index_below = (cell_at high wide).below

-- of every table and image
module _ (w h i r c : ℕ) (img : List ℕ) (row : r ≡ i / w) (column : c ≡ i % w) (below : i < w * h) where
  cell : Cell w h i r c
  cell = record { row = row; column = column; below = below }

  pub pass_judged : (t : Table) → get_or (pass t w h img) i 0 ≡ pass_at t w h img r c
  unfolding pass
  pass_judged t = cell_tab w (pass_at t w h img) 0 cell

  pub preview_judged : get_or (preview w h img) i 0 ≡ five_or_more (pattern (window w h img r c))
  unfolding preview
  preview_judged = cell_tab w (λ r c. five_or_more (pattern (window w h img r c))) 0 cell
