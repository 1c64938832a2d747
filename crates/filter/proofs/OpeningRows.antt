-- The opening in the plane is the opening of the image.
--     side_within          a translate's place in the frame lies in the image, along one side
--     framed_solid         a translate's place in the frame, of a value
--     translate_bit        a translate's bit in the plane is its place in the framed image
--     opens_inside         what an element opens in the plane is what it opens in the image
--     opens_outside        outside the image that is nothing
--     framed_opens         so it is for all elements of a table
--     map_rows             and the map of a block has the openings of its rows
-- Assumes nothing.
use mathlib.Core.Bool.{Bool, true, false, ◌&&◌}
use mathlib.Core.List.{List}
use mathlib.Core.Path.{◌≡◌, refl, ap, ap₂, ◌∙◌}
use Prim.Native.Nat.{ℕ, ◌+◌, ◌-◌, ◌*◌, ◌≤◌, ◌<◌}
use native.Mathlib.Omega.{arith}
use borrow.Author.Tests.{le-leb, leb-true}
use lib.Dec.{ltb, eqb}
use lib.ListN.{length, get_or}
use Rattle.seq.specs.Bits.{bit}
use Rattle.seq.specs.Lists.{any}
use Rattle.seq.specs.Loops.{Swept}
use Rattle.seq.proofs.Bits.{bit_zero}
use Rattle.seq.proofs.Lists.{clash, not_true_false, bool_ext, and_left, and_right, any_ext, any_none, all_ext, all_elim}
use Rattle.table.specs.declared.Table.{Table}
use Rattle.table.specs.Mask.{position_count, across, down, positions}
use Rattle.table.specs.Record.{persistents}
use Rattle.operator.specs.Image.{pixel}
use Rattle.operator.specs.Pass.{placed, fits, inside, solid, opened}
use Rattle.filter.specs.Code.Opening.{shift, opens, OpenedBy, MapRows}
use Rattle.filter.specs.Code.Plane.{band, halo, step, rim, within, in_frame, framed_is, Packed}
use Rattle.filter.proofs.ShiftLaws.{position_below}

-- along one side: the frame moves every place by its breadth m, and no place is cut
side_within : (m size i b b' : ℕ) → b ≤ m → within m size (i + m - b + b') ≡ fits size i b b'
side_within m size i b b' h =
    let e : i + m - b + b' - m ≡ placed i b b' = omega arith in
    ap₂ ◌&&◌
    (bool_ext _ _ (λ t. le-leb b (i + b') (omega (arith, leb-true m (i + m - b + b') t)))
    (λ t. le-leb m (i + m - b + b') (omega (arith, leb-true b (i + b') t))))
    (ap (λ (k : ℕ). ltb k size) e)

framed_solid : (w h : ℕ) (img : List ℕ) (v r c b b' : ℕ) → b < position_count
    → framed_is w h img v (r + rim - down b + down b') (c + halo - across b + across b')
    ≡ (inside w h r c b b' && eqb (pixel w img (placed r (down b) (down b')) (placed c (across b) (across b'))) v)
unfolding framed_is inside
framed_solid w h img v r c b b' p =
    let x : r + rim - down b + down b' - rim ≡ placed r (down b) (down b') = omega arith in
    let y : c + halo - across b + across b' - halo ≡ placed c (across b) (across b') = omega arith in
    rw (side_within rim h r (down b) (down b') (omega arith), side_within halo w c (across b) (across b') (omega arith), x, y) refl

-- a place of the frame that lies in the image
inside_frame : (w h R C : ℕ) → in_frame w h R C ≡ true → (rim ≤ R) × (halo ≤ C)
inside_frame w h R C e =
    (leb-true rim R (and_left _ (ltb (R - rim) h) (and_left _ (within halo w C) e)), leb-true halo C (and_left _ (ltb (C - halo) w) (and_right (within rim h R) _ e)))

-- position (x', y') of the window that puts (x, y) at byte k of row R
window_place : (R k x y x' y' : ℕ) → x ≤ R → y ≤ k → step * R + k - (step * x + y) + (step * x' + y') ≡ step * (R - x + x') + (k - y + y')
window_place R k x y x' y' p q = omega arith

module _ (w h : ℕ) (img l : List ℕ) (f : Packed w h img l) where
  module _ (R k lane v : ℕ) (low : 4 ≤ R) (high : R < h + 8) (left : 4 ≤ k) (right : k < 76) (lanes : lane < 4) (values : v < 2) where
    translate_bit : (b b' : ℕ) → b < position_count → b' < position_count
        → bit (get_or l (step * R + k - shift b + shift b') 0) (2 * lane + v) ≡ framed_is w h img v (R - down b + down b') (band * lane + k - across b + across b')
    translate_bit b b' p p' =
        let e : band * lane + (k - across b + across b') ≡ band * lane + k - across b + across b' = omega arith in
        rw (
          window_place R k (down b) (across b) (down b') (across b') (omega arith) (omega arith),
          f.coded (R - down b + down b') (k - across b + across b') lane v (omega arith) (omega arith) lanes values,
          e,
        ) refl

    -- inside the image
    opens_inside : (K : ℕ) → in_frame w h R (band * lane + k) ≡ true
        → opens (positions K) l (step * R + k) (2 * lane + v) ≡ any (solid w h img v (R - rim) (band * lane + k - halo) K) (positions K)
    unfolding opens solid
    opens_inside K t =
        any_ext _ _ (positions K) (λ b m. all_ext _ _ (positions K) (λ b' m'. same b b' (position_below K m) (position_below K m')))
      where
        same : (b b' : ℕ) → b < position_count → b' < position_count
            → bit (get_or l (step * R + k - shift b + shift b') 0) (2 * lane + v)
            ≡ (inside w h (R - rim) (band * lane + k - halo) b b' && eqb (pixel w img (placed (R - rim) (down b) (down b')) (placed (band * lane + k - halo) (across b) (across b'))) v)
        same b b' p p' =
            let g = inside_frame w h R (band * lane + k) t in
            let x : R - rim + rim ≡ R = omega arith in
            let y : band * lane + k - halo + halo ≡ band * lane + k = omega arith in
            translate_bit b b' p p' ∙ rw (x, y) at (framed_solid w h img v (R - rim) (band * lane + k - halo) b b' p)

    -- outside it no translate that has the place lies wholly inside
    opens_outside : (K : ℕ) → in_frame w h R (band * lane + k) ≡ false → opens (positions K) l (step * R + k) (2 * lane + v) ≡ false
    unfolding opens framed_is
    opens_outside K t = any_none _ (positions K) (λ b m. not_true_false _ (λ e. clash (all_elim _ e m) (out b (position_below K m))))
      where
        out : (b : ℕ) → b < position_count → bit (get_or l (step * R + k - shift b + shift b) 0) (2 * lane + v) ≡ false
        out b p =
            let x : R - down b + down b ≡ R = omega arith in
            let y : band * lane + k - across b + across b ≡ band * lane + k = omega arith in
            translate_bit b b p p ∙ rw (x, y, t)

    pub framed_opens : (t : Table)
        → any (λ K. opens (positions K) l (step * R + k) (2 * lane + v)) (persistents t) ≡ (in_frame w h R (band * lane + k) && opened t w h img v (R - rim) (band * lane + k - halo))
    unfolding opened
    framed_opens t = cases (in_frame w h R (band * lane + k)) refl
      where
        cases : (x : Bool) → in_frame w h R (band * lane + k) ≡ x
            → any (λ K. opens (positions K) l (step * R + k) (2 * lane + v)) (persistents t) ≡ (x && opened t w h img v (R - rim) (band * lane + k - halo))
        cases true e = any_ext _ _ (persistents t) (λ K _. opens_inside K e)
        cases false e = any_none _ (persistents t) (λ K _. opens_outside K e)

  pub map_rows : (t : Table) (top rows : ℕ) {c d e : List ℕ} → top + rows ≤ h → step * (rows + 4) ≤ length c
      → Swept (λ j. 0) c d 0 (0 + (rows + 4) * step) → OpenedBy (persistents t) l top rows d e → MapRows (opened t w h img) w h top rows e
  map_rows t top rows {c} {d} {e} fit long s o = record { long = rw (o.long, s.long) long; coded = coded }
    where
      coded : (r k lane v : ℕ) → r < rows + 4 → 4 ≤ k → k < 76 → lane < 4 → v < 2
          → bit (get_or e (step * r + k) 0) (2 * lane + v)
          ≡ (in_frame w h (top + r + 4) (band * lane + k) && opened t w h img v (top + r - 2) (band * lane + k - halo))
      coded r k lane v p a b q u =
          let place : step * top + 320 + (step * r + k) ≡ step * (top + r + 4) + k = omega arith in
          let row : top + r + 4 - rim ≡ top + r - 2 = omega arith in
          o.coded (step * r + k) (2 * lane + v) (omega arith) (omega arith) (omega arith)
          ∙ rw (s.inner (step * r + k) (omega arith) (omega arith), bit_zero (2 * lane + v), place, ← row)
          (framed_opens (top + r + 4) k lane v (omega arith) (omega arith) a b q u t)
