-- Rows of an image, and the parts of a strip.
--     rows_at       a pixel of some rows is the image's own
--     rows_length   as many pixels as the rows have
--     first_part, part_behind    the first part; those behind it are parts of what is below it
--     part_ends     a part ends within the strip; part_last: the last one where the strip does
-- Assumes nothing.
use mathlib.Core.List.{List, [], ◌∷◌}
use mathlib.Core.Path.{◌≡◌, sym, ap, ◌∙◌}
use Prim.Native.Nat.{ℕ, zero, suc, ◌+◌, ◌*◌, ◌≤◌, ◌<◌}
use native.Mathlib.Nat.{mul_comm, mul-add, mul-zero}
use native.Mathlib.Omega.{arith}
use lib.ListN.{length, get_or, take, drop, length-drop}
use lib.Seq.{length-take-le, get_or-take, get_or-drop, drop-drop}
use Rattle.seq.specs.Lists.{sum_of}
use Rattle.seq.proofs.Grid.{cell_below}
use Rattle.image.specs.Parts.{rows_of, above, part_of}

pub rows_at : (w top n : ℕ) (img : List ℕ) (r c : ℕ) → r < n → c < w → get_or (rows_of w top n img) (r * w + c) 0 ≡ get_or img ((top + r) * w + c) 0
unfolding rows_of
rows_at w top n img r c l m =
    get_or-take (w * n) (drop (w * top) img) (r * w + c) 0 (cell_below l m)
    ∙ get_or-drop (w * top) img (r * w + c) 0
    ∙ ap (λ i. get_or img i 0) (omega (arith, mul_comm w top))

pub rows_length : (w top n : ℕ) (img : List ℕ) → w * (top + n) ≤ length img → length (rows_of w top n img) ≡ w * n
unfolding rows_of
rows_length w top n img l = length-take-le (w * n) (drop (w * top) img) (omega (arith, length-drop (w * top) img, mul-add w top n))

pub first_part : (w h : ℕ) (hs img : List ℕ) → part_of w (h ∷ hs) 0 img ≡ take (w * h) img
unfolding rows_of
first_part w h hs img = rw (mul-zero w)

pub part_behind : (w h : ℕ) (hs img : List ℕ) (i : ℕ) → part_of w (h ∷ hs) (suc i) img ≡ part_of w hs i (drop (w * h) img)
unfolding rows_of
part_behind w h hs img i =
    ap (take (w * get_or hs i 0)) (ap (λ (k : ℕ). drop k img) (mul-add w h (above hs i)) ∙ sym (drop-drop (w * above hs i) (w * h) img))

pub part_ends : (hs : List ℕ) (i : ℕ) → i < length hs → above hs i + get_or hs i 0 ≤ sum_of hs
part_ends [] i l = omega arith
part_ends (h ∷ hs) zero l = omega arith
part_ends (h ∷ hs) (suc i) l = omega (arith, part_ends hs i (omega arith))

pub part_last : (hs : List ℕ) (i : ℕ) → suc i ≡ length hs → above hs i + get_or hs i 0 ≡ sum_of hs
part_last [] i e = omega arith
part_last (h ∷ []) zero e = omega arith
part_last (h ∷ g ∷ hs) zero e = absurd (omega arith)
part_last (h ∷ hs) (suc i) e = omega (arith, part_last hs i (omega arith))
