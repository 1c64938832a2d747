-- How far a pixel sees, over any number of passes.
--     pass_at_lem         a pixel after a pass
--     passes_seen     an image beside a taller one that has its rows: the same after k passes, reach × k away from what differs
--     locality        two images of one size
--     part_alone      a strip beside its parts
-- Assumes nothing.
use mathlib.Core.List.{List}
use mathlib.Core.Logic.{inl, inr, ⊎_elim}
use mathlib.Core.Path.{◌≡◌, refl, sym, ap, ◌∙◌}
use Prim.Native.Nat.{ℕ, zero, suc, ◌+◌, ◌*◌, ◌≤◌, ◌<◌}
use native.Mathlib.Omega.{arith}
use lib.ListN.{get_or}
use Rattle.image.proofs.Parts.{rows_at, part_ends, part_last}
use Rattle.image.specs.Parts.{above, part_of}
use Rattle.operator.specs.Image.{pixel}
use Rattle.operator.specs.Locality.{reach, Locality, Inner, PartAlone}
use Rattle.operator.specs.Pass.{pass_at, pass, passes}
use Rattle.operator.proofs.Seen.{Side, side_near, Agree, agree_near, pass_at_seen}
use Rattle.seq.proofs.Grid.{cell_at, cell_tab}
use Rattle.seq.specs.Lists.{sum_of}
use Rattle.table.specs.declared.Table.{Table}

pub pass_at_lem : (t : Table) (w h : ℕ) (img : List ℕ) (r c : ℕ) → r < h → c < w → pixel w (pass t w h img) r c ≡ pass_at t w h img r c
unfolding pass
pass_at_lem t w h img r c l m = cell_tab w (pass_at t w h img) 0 (cell_at l m)

module _ (h top w : ℕ) (a b : List ℕ) (H : ℕ) (tall : top + h ≤ H) (t : Table) where
  -- what one pass sees is within reach, and agrees after the passes before
  pub passes_seen : (k r c : ℕ) → r < h → c < w → Side (reach * k) top h H r → Agree h top w a b (reach * k) r c
      → pixel w (passes t w h k a) r c ≡ pixel w (passes t w H k b) (top + r) c
  passes_seen zero r c l m s g = g r c l m (omega arith, omega arith) (omega arith, omega arith)
  passes_seen (suc k) r c l m s g =
      pass_at_lem t w h (passes t w h k a) r c l m
      ∙ pass_at_seen h top w (passes t w h k a) (passes t w H k b) H tall t r c l m
      (side_near reach 0 r (omega arith) (omega arith, omega arith) s)
      (λ r' c' i j rows columns. passes_seen k r' c' i j
      (side_near (reach * k) reach r' (omega arith) rows s)
      (agree_near h top w a b (reach * k) reach r' c' (omega arith) rows columns g))
      ∙ sym (pass_at_lem t w H (passes t w H k b) (top + r) c (omega arith) m)

pub locality : Locality
locality t w h a b k r c l m same =
    passes_seen h 0 w a b h (omega arith) t k r c l m (record { upper = inl refl; lower = inl (omega arith) })
    (λ r' c' i j p q. same r' c' i j p q ∙ ap (λ z. pixel w b z c') (omega arith))
    ∙ ap (λ z. pixel w (passes t w h k b) z c) (omega arith)

-- the first part starts and the last one ends where the strip does
part_side : (hs : List ℕ) (i d r : ℕ) → Inner d hs i r → Side d (above hs i) (get_or hs i 0) (sum_of hs) r
part_side hs i d r s = record {
  upper = ⊎_elim (λ e. inl (ap (above hs) e)) (λ l. inr (omega arith)) s.upper;
  lower = ⊎_elim (λ e. inl (part_last hs i e)) (λ l. inr (omega arith)) s.lower;
}

pub part_alone : PartAlone
part_alone t w hs img k i r c l m n s =
    sym (passes_seen (get_or hs i 0) (above hs i) w (part_of w hs i img) img (sum_of hs) (part_ends hs i l) t k r c m n
    (part_side hs i (reach * k) r s)
    (λ r' c' u v p q. rows_at w (above hs i) (get_or hs i 0) img r' c' u v))
