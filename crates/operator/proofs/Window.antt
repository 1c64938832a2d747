-- The places that a window reads lie inside the image.
--     side_le       a side of a grid is at most its area
--     row_within    a clamped row lies within the image
--     window_at_lem     position n of the window is the pixel that stands for n
--     rowed_over    an area that is filled row by row, at the end
-- Assumes nothing.
use mathlib.Core.List.{List, [], ◌++◌}
use mathlib.Core.Path.{◌≡◌, sym, ap, ◌∙◌}
use Prim.Native.Nat.{ℕ, ◌+◌, ◌*◌, ◌≤◌, ◌<◌}
use native.Mathlib.Nat.{le-mul_of_pos_right, mul_comm}
use native.Mathlib.Omega.{arith}
use lib.ListN.{get_or, drop}
use Rattle.seq.specs.Tab.{tab}
use Rattle.seq.proofs.Grid.{grid, row_below}
use Rattle.seq.proofs.Rows.{Rowed, rowed_all}
use Rattle.seq.proofs.Tab.{length_tab, get_d_tab}
use Rattle.table.specs.Mask.{position_count, across, down}
use Rattle.verdict.specs.Writer.{over}
use Rattle.operator.specs.Image.{pixel}
use Rattle.operator.specs.Window.{clamp, site_row, site_col, window, window_at}

pub side_le : {w c : ℕ} (h : ℕ) → c < w → h ≤ w * h
side_le {w} h p = let q : 0 < w = omega arith in omega (arith, le-mul_of_pos_right h q, mul_comm h w)

pub row_within : (w h r : ℕ) {n : ℕ} → 0 < h → w * h ≤ n → clamp h r * w + w ≤ n
row_within w h r p q = let l : clamp h r < h = omega arith in omega (arith, row_below w l)

pub window_at_lem : (w h : ℕ) (img : List ℕ) (r c n : ℕ) → n < position_count → window_at (window w h img r c) n ≡ pixel w img (site_row h r n) (site_col w c n)
unfolding window
window_at_lem w h img r c n l =
    ap (λ (row : List ℕ). get_or row (across n) 0) (get_d_tab (λ y. tab (λ x. pixel w img (clamp h (r + y)) (clamp w (c + x))) 5) 5 (down n) [] (omega arith))
    ∙ get_d_tab (λ x. pixel w img (site_row h r n) (clamp w (c + x))) 5 (across n) 0 (omega arith)

pub rowed_over : {w h : ℕ} {g : ℕ → ℕ → ℕ} {d l : List ℕ} {r : ℕ} → Rowed w h g d l r → h ≤ r → l ≡ over (tab (grid w g) (w * h)) d
unfolding over
rowed_over {w} {h} {g} {d} s b = rowed_all s b ∙ ap (λ (k : ℕ). tab (grid w g) (w * h) ++ drop k d) (sym (length_tab (grid w g) (w * h)))
