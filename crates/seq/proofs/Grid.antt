-- A grid of rows of w cells, laid out row by row: the cell at row r and column c < w has the index r · w + c.
--     grid w g                 the table of g at row and column, as a function of the index
--     cell_row, cell_column    the row and the column of the index r · w + c
--     index_row                the row of an index below w · h is below h
--     next_column, next_row    the index one column on, and the index one row on
--     cell_below, row_below    a cell and a whole row of h rows lie below w · h
--     cell_at                  a walk that carries r and c is at the cell of the index r · w + c
--     cell_index, cell_sides   the index of a cell, and that row and column are within the grid
--     by_cell                  what holds at every row and column holds at every index
--     grid_same, grid_ext      tables that agree at every row and column agree at every index, and are equal as lists
--     grid_at                  the table at the index r · w + c is g r c
--     cell_tab                 and so is the list of it at a cell
--     grid_row                 the rows before r, and row r, are the rows before r + 1
--     fill_cell, fill_row      a list that is filled row by row: one cell more, one row more
--     stored_row               the same for a run of stores that starts anywhere
--     row_passes, first_rows    some cell of a row passes a test; the row of the first index that passes a test is the first row in which one passes
-- Assumes nothing.
use Rattle.std.specs.Prelude.{Option, None, Some, option_map, is_some}
use mathlib.Core.Bool.{Bool, false}
use mathlib.Core.List.{List, ◌++◌}
use mathlib.Core.Path.{◌≡◌, refl, sym, ap, ap₂, ◌∙◌, subst}
use Prim.Native.Nat.{ℕ, zero, suc, ◌+◌, ◌*◌, ◌/◌, ◌%◌, ◌≤◌, ◌<◌}
use native.Mathlib.Nat.{zero-mul, mul_comm, mul-le-mul_right, div-lt_iff_lt-mul, mod-lt, div-add-mod'}
use native.Mathlib.Omega.{arith}
use lib.Arith.{digits_div, digits_mod, digits_lt}
use lib.ListN.{length, get_or, set}
use lib.Seq.{sets}
use Rattle.seq.specs.Grid.{Cell}
use Rattle.seq.specs.Tab.{tab, first, Filled}
use Rattle.seq.proofs.Notes.{first_some}
use Rattle.seq.proofs.Stores.{tab_add, Stored, stored_run, fill_run}
use Rattle.seq.proofs.Tab.{get_d_tab, tab_ext, fill_more, first_at, first_none, first_found, first_nothing, Found}

abbrev pub grid {ℓ} : {A : Type ℓ} → ℕ → (ℕ → ℕ → A) → ℕ → A
grid w g i = g (i / w) (i % w)

pub cell_row : (r : ℕ) {w c : ℕ} → c < w → (r * w + c) / w ≡ r
cell_row r h = digits_div r h

pub cell_column : (r : ℕ) {w c : ℕ} → c < w → (r * w + c) % w ≡ c
cell_column r h = digits_mod r h

pub index_row : (i w h : ℕ) → 0 < w → i < w * h → i / w < h
index_row i w h pos l = (div-lt_iff_lt-mul pos).1 (omega (arith, mul_comm w h))

pub next_column : (r w c : ℕ) → r * w + c + 1 ≡ r * w + (c + 1)
next_column r w c = omega arith

pub next_row : (r w : ℕ) → r * w + w ≡ (r + 1) * w
next_row r w = omega arith

pub cell_below : {r h w c : ℕ} → r < h → c < w → r * w + c < w * h
cell_below {r} {h} {w} {c} p q = omega (arith, digits_lt p q, mul_comm w h)

pub row_below : {r h : ℕ} (w : ℕ) → r < h → (r + 1) * w ≤ w * h
row_below {r} {h} w p = let q : r + 1 ≤ h = omega arith in omega (arith, mul-le-mul_right w q, mul_comm w h)

-- a product that is above some number has a first factor above 0
factor_pos : (i w h : ℕ) → i < w * h → 0 < w
factor_pos i zero h p = omega (arith, zero-mul h)
factor_pos i (suc w) h p = omega arith

module _ {w h r c : ℕ} where
  pub cell_at : r < h → c < w → Cell w h (r * w + c) r c
  cell_at p q = record { row = sym (cell_row r q); column = sym (cell_column r q); below = cell_below p q }

  module _ {i : ℕ} (k : Cell w h i r c) where
    pub cell_index : r * w + c ≡ i
    cell_index = rw (k.row, k.column) (div-add-mod' i w)

    pub cell_sides : (r < h) × (c < w)
    cell_sides =
        let pos : 0 < w = factor_pos i w h k.below in
        (rw k.row (index_row i w h pos k.below), rw k.column (mod-lt i pos))

-- an index is that of its row and column
pub by_cell {ℓ} : (w h : ℕ) (P : ℕ → Type ℓ) → ((r c : ℕ) → r < h → c < w → P (r * w + c)) → (i : ℕ) → i < w * h → P i
by_cell w h P f i l =
    let k : Cell w h i (i / w) (i % w) = record { row = refl; column = refl; below = l } in
    subst P (cell_index k) (f (i / w) (i % w) (cell_sides k).0 (cell_sides k).1)

module _ {ℓ} {A : Type ℓ} (w h : ℕ) (f g : ℕ → ℕ → A) (same : (r c : ℕ) → r < h → c < w → f r c ≡ g r c) where
  pub grid_same : (i : ℕ) → i < w * h → grid w f i ≡ grid w g i
  grid_same i l =
      let k : Cell w h i (i / w) (i % w) = record { row = refl; column = refl; below = l } in
      same (i / w) (i % w) (cell_sides k).0 (cell_sides k).1

  pub grid_ext : tab (grid w f) (w * h) ≡ tab (grid w g) (w * h)
  grid_ext = tab_ext (grid w f) (grid w g) (w * h) grid_same

module _ {ℓ} {A : Type ℓ} (w : ℕ) (g : ℕ → ℕ → A) where
  pub grid_at : (r c : ℕ) → c < w → grid w g (r * w + c) ≡ g r c
  grid_at r c h = ap₂ g (cell_row r h) (cell_column r h)

  pub cell_tab : {h i r c : ℕ} (d : A) → Cell w h i r c → get_or (tab (grid w g) (w * h)) i d ≡ g r c
  cell_tab {h} {i} d k = get_d_tab (grid w g) (w * h) i d k.below ∙ sym (ap₂ g k.row k.column)

  pub grid_row : (r : ℕ) → tab (grid w g) ((r + 1) * w) ≡ tab (grid w g) (r * w) ++ tab (g r) w
  grid_row r =
      ap (tab (grid w g)) (sym (next_row r w))
      ∙ tab_add (grid w g) (r * w) w
      ∙ ap (λ (t : List A). tab (grid w g) (r * w) ++ t) (tab_ext (λ c. grid w g (r * w + c)) (g r) w (grid_at r))

  pub fill_cell : {d l : List A} {a : A} (r c : ℕ) → Filled (grid w g) d l (r * w + c) → c < w → r * w + c < length d → a ≡ g r c
      → Filled (grid w g) d (set l (r * w + c) a) (r * w + c + 1)
  fill_cell r c f h b e = fill_more f b (e ∙ sym (grid_at r c h))

  pub fill_row : {d l l' : List A} (r : ℕ) → Filled (grid w g) d l (r * w) → (r + 1) * w ≤ length d → l' ≡ sets l (r * w) (tab (g r) w)
      → Filled (grid w g) d l' ((r + 1) * w)
  fill_row r f h e = rw (← next_row r w) (fill_run (g r) w f (rw (next_row r w) h) (λ c b. sym (grid_at r c b)) e)

  pub stored_row : {d l l' : List A} {i : ℕ} (r : ℕ) → Stored (grid w g) d i l (r * w) → l' ≡ sets l (i + r * w) (tab (g r) w)
      → Stored (grid w g) d i l' ((r + 1) * w)
  stored_row r s e = rw (← next_row r w) (stored_run (g r) w s (λ c b. sym (grid_at r c b)) e)

-- some cell of row r passes the test of its index
abbrev pub row_passes : (ℕ → Bool) → ℕ → ℕ → Bool
row_passes p w r = is_some (first (λ c. p (r * w + c)) w)

-- no index below r · w passes, so no row before r has one that does
rows_none : (p : ℕ → Bool) (w r : ℕ) → ((i : ℕ) → i < r * w → p i ≡ false) → (k : ℕ) → k < r → row_passes p w k ≡ false
rows_none p w r none_below k b =
    ap is_some (first_none (λ c. p (k * w + c)) w (λ c q. none_below (k * w + c) (digits_lt b q)))

pub first_rows : (p : ℕ → Bool) (w h : ℕ) → option_map (λ i. i / w) (first p (w * h)) ≡ first (row_passes p w) h
first_rows p w h = step (first p (w * h)) refl
  where
    at : (i : ℕ) → Found p (w * h) i → 0 < w → first (row_passes p w) h ≡ Some (i / w)
    at i f pos =
        let split : i / w * w + i % w ≡ i = div-add-mod' i w in
        first_at (row_passes p w) h (i / w) (index_row i w h pos f.below)
        (rows_none p w (i / w) (λ k b. f.lowest k (omega arith)))
        (first_some (λ c. p (i / w * w + c)) w (mod-lt i pos) (rw split f.passes))

    step : (o : Option ℕ) → first p (w * h) ≡ o → option_map (λ i. i / w) o ≡ first (row_passes p w) h
    step None e = sym (first_none (row_passes p w) h (rows_none p w h (λ i b. first_nothing p (w * h) e i (rw (mul_comm w h) b))))
    step (Some i) e = let f = first_found p (w * h) i e in sym (at i f (factor_pos i w h f.below))
