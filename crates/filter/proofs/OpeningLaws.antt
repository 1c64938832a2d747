-- What the loops of the module `opening` add to the map.
--     any_shifts, all_shifts             the tests over a mask's shifts are those over its positions
--     open_one                           the erosion by a mask's shifts, spread, is what the mask opens
-- Assumes nothing.
use mathlib.Core.Bool.{Bool, true, ◌||◌, or-false}
use mathlib.Core.List.{List, [], ◌∷◌}
use mathlib.Core.Path.{◌≡◌, sym, ap, ◌∙◌}
use Prim.Native.Nat.{ℕ, ◌+◌, ◌-◌, ◌*◌, ◌≤◌, ◌<◌}
use native.Mathlib.Omega.{arith}
use lib.ListN.{get_or}
use Rattle.seq.specs.Bits.{bit}
use Rattle.seq.specs.Lists.{any, all}
use Rattle.seq.proofs.Lists.{bool_ext, any_intro, any_elim, any_ext, all_intro, all_elim, all_ext}
use Rattle.table.specs.Mask.{position_count, positions}
use Rattle.filter.specs.Code.Opening.{shift, opens, OpenedBy, Shifts}
use Rattle.filter.specs.Code.Plane.{step}
use Rattle.filter.specs.Code.Sweep.{Eroded, Dilated}
use Rattle.filter.proofs.ShiftLaws.{position_below}

module _ (K : ℕ) {at : List ℕ} (s : Shifts K at) (p : ℕ → Bool) where
  pub any_shifts : any p at ≡ any (λ b. p (shift b)) (positions K)
  any_shifts = bool_ext (any p at) (any (λ b. p (shift b)) (positions K)) found back
    where
      found : any p at ≡ true → any (λ b. p (shift b)) (positions K) ≡ true
      found e =
          let w = any_elim p at e in
          let o = s.only w.0 w.1 in
          any_intro (λ b. p (shift b)) o.1 (ap p (sym o.2) ∙ w.2)

      back : any (λ b. p (shift b)) (positions K) ≡ true → any p at ≡ true
      back e = let w = any_elim (λ b. p (shift b)) (positions K) e in any_intro p (s.whole w.0 w.1) w.2

  pub all_shifts : all p at ≡ all (λ b. p (shift b)) (positions K)
  all_shifts = bool_ext (all p at) (all (λ b. p (shift b)) (positions K)) down up
    where
      down : all p at ≡ true → all (λ b. p (shift b)) (positions K) ≡ true
      down e = all_intro (λ b. p (shift b)) (positions K) (λ b m. all_elim p e (s.whole b m))

      up : all (λ b. p (shift b)) (positions K) ≡ true → all p at ≡ true
      up e = all_intro p at (λ a m. let o = s.only a m in ap p o.2 ∙ all_elim (λ b. p (shift b)) e o.1)

module _ (l : List ℕ) (top rows : ℕ) where
  pub open_one : (K : ℕ) {at d e f : List ℕ} → Shifts K at → Eroded at (top * step) ((rows + 8) * step - 4) l e
      → Dilated at ((rows + 4) * step - 8) e d f → OpenedBy (K ∷ []) l top rows d f
  unfolding opens
  open_one K {at} {d} {e} {f} s c g = record { long = g.long; coded = coded }
    where
      place : (j b b' : ℕ) → 4 ≤ j → b < position_count
          → top * step + (j + 320 - shift b) + shift b' ≡ step * top + 320 + j - shift b + shift b'
      place j b b' p q = omega arith

      -- the translate of which byte j is position b
      solid : (j t b : ℕ) → 4 ≤ j → j < step * (rows + 4) - 4 → t < 8 → b < position_count
          → bit (get_or e (j + 320 - shift b) 0) t ≡ all (λ b'. bit (get_or l (step * top + 320 + j - shift b + shift b') 0) t) (positions K)
      solid j t b p q u m =
          c.coded (j + 320 - shift b) t (omega arith) u
          ∙ all_shifts K s (λ a. bit (get_or l (top * step + (j + 320 - shift b) + a) 0) t)
          ∙ all_ext _ _ (positions K) (λ b' _. ap (λ (i : ℕ). bit (get_or l i 0) t) (place j b b' p m))

      coded : (j t : ℕ) → 4 ≤ j → j < step * (rows + 4) - 4 → t < 8
          → bit (get_or f j 0) t ≡ (bit (get_or d j 0) t || any (λ M. opens (positions M) l (step * top + 320 + j) t) (K ∷ []))
      coded j t p q u =
          g.coded j t p (omega arith) u
          ∙ ap (λ (x : Bool). bit (get_or d j 0) t || x)
          (any_shifts K s (λ a. bit (get_or e (j + 320 - a) 0) t)
          ∙ any_ext _ _ (positions K) (λ b m. solid j t b p q u (position_below K m))
          ∙ sym (or-false _))
