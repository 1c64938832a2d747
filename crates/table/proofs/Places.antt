-- The rules 4 and 6, place by place.
--     bad_first, bad_next     the rule on a mask of a list, by the mask before it
--     bad_within, bad_past    at a place of a record, below the count and past it
--     mask_valid, good_valid, mask_rises     a mask that is not bad is a valid mask, above the one before
--     places_used, places_left    what a list without bad places has in the places that are in use, and in the others
--     place_lt                no mask of a list without bad places has a bit above position 24
--     missed_is               an element is missed where a position of the persistent element has no partner in it
-- Assumes nothing.
use Rattle.std.specs.Prelude.{None, is_some}
use mathlib.Core.Bool.{Bool, true, false, not, ◌&&◌, ◌||◌, not-not}
use mathlib.Core.List.{List}
use mathlib.Core.Path.{◌≡◌, refl, sym, ap, ◌∙◌}
use Prim.Native.Nat.{ℕ, suc, ◌-◌, ◌^◌, ◌≤◌, ◌<◌}
use native.Mathlib.Nat.{lt_of_lt_of_le}
use native.Mathlib.Omega.{arith}
use borrow.Author.Tests.{leb-false, le-leb, lt-leb, lt-ltb, le-ltb, eqb-true, not-false}
use lib.Dec.{leb, eqb}
use lib.ListN.{length, get_or}
use Rattle.seq.specs.Bits.{bit}
use Rattle.seq.specs.Tab.{first}
use Rattle.seq.proofs.Tab.{first_nothing}
use Rattle.seq.proofs.Tests.{or_none_left, or_none_right}
use Rattle.table.specs.declared.mask.Kind.{Kind}
use Rattle.table.specs.Code.Search.{leaves_centre, bad_after, bad_of, lowest_bad}
use Rattle.table.specs.Mask.{position_count, centre, valid_mask, unpartnered, persistent_for}
use Rattle.table.specs.Record.{not_rising, bad_mask, bad_place}
use Rattle.table.proofs.Positions.{mask_least, mask_lt}

pub mask_valid : (ms : List ℕ) (k : ℕ) → bad_mask ms k ≡ false → valid_mask (get_or ms k 0) ≡ true
unfolding bad_mask
mask_valid ms k e = not-false (valid_mask (get_or ms k 0)) (or_none_left (not (valid_mask (get_or ms k 0))) (not_rising ms k) e)

pub mask_rises : (ms : List ℕ) (k : ℕ) → bad_mask ms (suc k) ≡ false → get_or ms k 0 < get_or ms (suc k) 0
unfolding bad_mask not_rising
mask_rises ms k e =
    leb-false (get_or ms (suc k) 0) (get_or ms k 0)
    (rw (le-leb 1 (suc k) (omega arith), again) at (or_none_right (not (valid_mask (get_or ms (suc k) 0))) (not_rising ms (suc k)) e))
  where
    again : suc k - 1 ≡ k
    again = omega arith

module _ (kind : Kind) (ms : List ℕ) (k : ℕ) where
  -- the first mask has none before it, and a valid mask is above 0
  pub bad_first : k ≡ 0 → bad_of kind ms k ≡ bad_after kind 0 (get_or ms k 0)
  unfolding bad_of bad_after bad_mask not_rising
  bad_first z =
      ap (λ (b : Bool). (leaves_centre kind && bit (get_or ms k 0) centre) || b)
      (simp (lt-leb 1 k (omega arith)) (step (valid_mask (get_or ms k 0)) refl))
    where
      step : (v : Bool) → valid_mask (get_or ms k 0) ≡ v → (not v || false) ≡ (not v || leb (get_or ms k 0) 0)
      step true e = sym (lt-leb (get_or ms k 0) 0 (mask_least (get_or ms k 0) e))
      step false e = refl

  pub bad_next : 1 ≤ k → bad_of kind ms k ≡ bad_after kind (get_or ms (k - 1) 0) (get_or ms k 0)
  unfolding bad_of bad_after bad_mask not_rising
  bad_next h = simp (le-leb 1 k h)

  pub good_valid : bad_of kind ms k ≡ false → valid_mask (get_or ms k 0) ≡ true
  unfolding bad_of
  good_valid e = mask_valid ms k (or_none_right (leaves_centre kind && bit (get_or ms k 0) centre) (bad_mask ms k) e)

module _ (ms : List ℕ) (n : ℕ) (bad : ℕ → Bool) (k : ℕ) where
  pub bad_within : k < n → bad_place ms n bad k ≡ bad k
  unfolding bad_place
  bad_within h = simp (lt-ltb k n h)

  pub bad_past : n ≤ k → bad_place ms n bad k ≡ not (eqb (get_or ms k 0) 0)
  unfolding bad_place
  bad_past h = simp (le-ltb k n h)

-- a list of m places without a bad one
module _ (ms : List ℕ) (n : ℕ) (bad : ℕ → Bool) (m : ℕ) (e : first (bad_place ms n bad) m ≡ None) (k : ℕ) (l : k < m) where
  pub places_used : k < n → bad k ≡ false
  places_used h = sym (bad_within ms n bad k h) ∙ first_nothing (bad_place ms n bad) m e k l

  pub places_left : n ≤ k → get_or ms k 0 ≡ 0
  places_left h = eqb-true (get_or ms k 0) 0 (not-false (eqb (get_or ms k 0) 0) (sym (bad_past ms n bad k h) ∙ first_nothing (bad_place ms n bad) m e k l))

pub place_lt : (kind : Kind) (ms : List ℕ) (n : ℕ) → lowest_bad kind ms n ≡ None → n ≤ length ms → (k : ℕ) → k < n → get_or ms k 0 < 2 ^ position_count
unfolding lowest_bad
place_lt kind ms n e m k h = mask_lt (get_or ms k 0) (good_valid kind ms k (places_used ms n (bad_of kind ms) (length ms) e k (lt_of_lt_of_le h m) h))

pub missed_is : (K e : ℕ) → not (persistent_for K e) ≡ is_some (unpartnered K e)
unfolding persistent_for
missed_is K e = not-not (is_some (unpartnered K e))
