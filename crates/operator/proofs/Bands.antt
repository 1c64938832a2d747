-- Some rows of the image after a pass, from a band of the image (02, T-08).
--     rows_length, pass_length     the pixels of some rows, and of the image after a pass
--     band_pass                    the rows are those of the band's own next image, if the band keeps six rows where it is cut
-- Assumes nothing.
use mathlib.Core.List.{List}
use mathlib.Core.Logic.{◌⊎◌, ⊎_elim, inl, inr}
use mathlib.Core.Path.{◌≡◌, sym, ap, ◌∙◌}
use Prim.Native.Nat.{ℕ, ◌+◌, ◌-◌, ◌*◌, ◌≤◌, ◌<◌}
use native.Mathlib.Nat.{mul_comm, mul-le-mul_right, mul-add}
use native.Mathlib.Omega.{arith}
use lib.ListN.{length, get_or, drop, length-drop}
use lib.Seq.{ext_get_or, length-take-le}
use Rattle.image.proofs.Parts.{rows_at}
use Rattle.image.specs.Parts.{rows_of}
use Rattle.operator.specs.Image.{pixel}
use Rattle.operator.specs.Locality.{reach}
use Rattle.operator.specs.Pass.{pass_at, pass}
use Rattle.operator.proofs.Locality.{pass_at_lem}
use Rattle.operator.proofs.Seen.{Side, pass_at_seen}
use Rattle.seq.proofs.Grid.{by_cell}
use Rattle.seq.proofs.Tab.{length_tab}
use Rattle.table.specs.declared.Table.{Table}

pub rows_length : (w h from n : ℕ) (img : List ℕ) → length img ≡ w * h → from + n ≤ h → length (rows_of w from n img) ≡ w * n
unfolding rows_of
rows_length w h from n img e l =
    length-take-le (w * n) (drop (w * from) img)
    (let q = length-drop (w * from) img in
    let m : w * (from + n) ≤ w * h = omega (arith, mul-le-mul_right w l, mul_comm w (from + n), mul_comm w h) in
    omega (arith, mul-add w from n))

pub pass_length : (t : Table) (w h : ℕ) (img : List ℕ) → length (pass t w h img) ≡ w * h
unfolding pass
pass_length t w h img = length_tab _ (w * h)

module _ (t : Table) (w h H top from n : ℕ) (img : List ℕ) (tall : top + h ≤ H) (starts : top ≤ from) (ends : from + n ≤ top + h)
    (upper : (top ≡ 0) ⊎ (top + reach ≤ from)) (lower : (top + h ≡ H) ⊎ (from + n + reach ≤ top + h)) where
  -- a row that is kept has six rows of the band on each side where the band is cut
  kept_side : (r : ℕ) → r < n → Side reach top h H (from - top + r)
  kept_side r l = record { upper = ⊎_elim inl (λ e. inr (omega arith)) upper; lower = ⊎_elim inl (λ e. inr (omega arith)) lower }

  band_pixel : (r c : ℕ) → r < n → c < w → pixel w (rows_of w from n (pass t w H img)) r c ≡ pixel w (rows_of w (from - top) n (pass t w h (rows_of w top h img))) r c
  band_pixel r c l m =
      rows_at w from n (pass t w H img) r c l m
      ∙ pass_at_lem t w H img (from + r) c (omega arith) m
      ∙ ap (λ x. pass_at t w H img x c) (omega arith)
      ∙ sym (pass_at_seen h top w (rows_of w top h img) img H tall t (from - top + r) c (omega arith) m (kept_side r l) (λ r' c' i j p q. rows_at w top h img r' c' i j))
      ∙ sym (pass_at_lem t w h (rows_of w top h img) (from - top + r) c (omega arith) m)
      ∙ sym (rows_at w (from - top) n (pass t w h (rows_of w top h img)) r c l m)

  pub band_pass : rows_of w from n (pass t w H img) ≡ rows_of w (from - top) n (pass t w h (rows_of w top h img))
  band_pass =
      ext_get_or 0 _ _ (long ∙ sym (rows_length w h (from - top) n _ (pass_length t w h _) (omega arith)))
      (λ i l. by_cell w n (λ k. get_or (rows_of w from n (pass t w H img)) k 0 ≡ get_or (rows_of w (from - top) n (pass t w h (rows_of w top h img))) k 0) band_pixel i (rw long at l))
    where
      long : length (rows_of w from n (pass t w H img)) ≡ w * n
      long = rows_length w H from n (pass t w H img) (pass_length t w H img) (omega arith)
