-- Masks as sets of positions: what one `and` tests.
--     mask_least, mask_lt    a valid mask is at least 1, and has no bit above position 24
--     meets_and         two masks share a position exactly when their `and` is not 0
--     apart_masks, meeting_masks      by what the `and` is
--     columns           for each column of b, the offsets a whose column added to it stays in the window
--     partners_bit      the persistent element moved by -b, cut to these columns, has just the offsets a with b + a in it
--     partner_and       b has a partner in e exactly when e shares a position with that mask
-- Assumes nothing.
use mathlib.Core.Bool.{Bool, true, false, not, ◌&&◌, and-true, and-false}
use mathlib.Core.List.{List, [], ◌∷◌}
use mathlib.Core.Logic.{⊎_elim}
use mathlib.Core.Path.{◌≡◌, refl, ap, ap₂, ◌∙◌}
use Prim.Native.Nat.{ℕ, ◌+◌, ◌-◌, ◌*◌, ◌/◌, ◌%◌, ◌^◌, ◌≤◌, ◌<◌}
use native.Mathlib.Nat.{mod-eq_of_lt}
use native.Mathlib.Omega.{arith}
use borrow.Author.Tests.{eq-eqb, ne_eqb}
use lib.Bits.{bit_and}
use lib.Dec.{leb, eqb}
use lib.ListN.{get_or}
use Rattle.seq.specs.Bits.{bit}
use Rattle.seq.specs.Lists.{all, same}
use Rattle.seq.specs.Tab.{up_to}
use Rattle.seq.proofs.Bits.{bit_and_lem, bit_shr, bit_shl, bit_low, bit_above, any_and}
use Rattle.seq.proofs.Lists.{all_elim, same_true}
use Rattle.seq.proofs.Tab.{up_to_intro}
use Rattle.seq.proofs.Tests.{between, outside}
use Rattle.table.specs.Mask.{position_count, across, down, largest_mask, positions, valid_mask, meets, sum_inside, sum, partner}

pub mask_least : (m : ℕ) → valid_mask m ≡ true → 1 ≤ m
unfolding valid_mask
mask_least m e = (between 1 m largest_mask e).0

pub mask_lt : (m : ℕ) → valid_mask m ≡ true → m < 2 ^ position_count
unfolding valid_mask
mask_lt m e = let w = (between 1 m largest_mask e).1 in omega arith

pub meets_and : (e f : ℕ) → e < 2 ^ position_count → meets e f ≡ not (eqb (bit_and e f) 0)
unfolding meets positions
meets_and e f h = any_and (bit f) position_count e f h (λ n l. refl)

-- the same of a test for no position in common
pub apart_masks : (e f : ℕ) → e < 2 ^ position_count → bit_and e f ≡ 0 → not (meets e f) ≡ true
apart_masks e f h z = ap not (meets_and e f h ∙ ap not (eq-eqb (bit_and e f) 0 z))

pub meeting_masks : (e f : ℕ) → e < 2 ^ position_count → (bit_and e f ≡ 0 → ⊥) → not (meets e f) ≡ false
meeting_masks e f h z = ap not (meets_and e f h ∙ ap not (ne_eqb (bit_and e f) 0 z))

-- the lowest bit of each of the five rows
abbrev each_row : ℕ
each_row = 1082401

abbrev pub columns : List ℕ
columns = 0b11100 * each_row ∷ 0b11110 * each_row ∷ 0b11111 * each_row ∷ 0b01111 * each_row ∷ 0b00111 * each_row ∷ []

abbrev column : ℕ → ℕ → Bool
column x a = leb 2 (x + across a) && leb (x + across a) 6

right : ℕ → ℕ → Bool
right x a = same (bit (get_or columns x 0) a) (column x a)

all_right : all (λ x. all (right x) (up_to position_count)) (up_to 5) ≡ true
unfolding right bit up_to
all_right = refl

columns_bit : (x a : ℕ) → x < 5 → a < position_count → bit (get_or columns x 0) a ≡ column x a
unfolding right
columns_bit x a hx ha =
    same_true (bit (get_or columns x 0) a) (column x a)
    (all_elim (right x) (all_elim (λ y. all (right y) (up_to position_count)) all_right (up_to_intro hx)) (up_to_intro ha))

module _ (K b a : ℕ) (hK : K < 2 ^ position_count) (hb : b < position_count) (ha : a < position_count) where
  abbrev row : Bool
  row = leb 2 (down b + down a) && leb (down b + down a) 6

  -- a column of the window: then b + a is in the mask exactly when its row is one too, and it stands in the persistent element
  inside : (2 ≤ across b + across a) × (across b + across a ≤ 6) → (r : Bool) → row ≡ r → bit (K * 2 ^ 12) (b + a) ≡ (r && bit K (sum b a))
  unfolding sum
  inside h true e = let w = between 2 (down b + down a) 6 e in ap (bit (K * 2 ^ 12)) (omega arith) ∙ bit_shl K 12 (sum b a)
  inside h false e = ⊎_elim (λ (m : down b + down a < 2). bit_low K 12 (b + a) (omega arith)) above (outside 2 (down b + down a) 6 e)
    where
      above : 6 < down b + down a → bit (K * 2 ^ 12) (b + a) ≡ false
      above m = ap (bit (K * 2 ^ 12)) (omega arith) ∙ bit_shl K 12 (b + a - 12) ∙ bit_above K position_count (b + a - 12) hK (omega arith)

  moved : (t : Bool) → column (across b) a ≡ t → (bit (K * 2 ^ 12) (b + a) && t) ≡ ((t && row) && bit K (sum b a))
  moved true e = and-true (bit (K * 2 ^ 12) (b + a)) ∙ inside (between 2 (across b + across a) 6 e) row refl
  moved false e = and-false (bit (K * 2 ^ 12) (b + a))

  pub partners_bit : bit (bit_and (K * 4096 % 18446744073709551616 / 2 ^ b) (get_or columns (b % 5) 0)) a ≡ (sum_inside b a && bit K (sum b a))
  unfolding sum_inside
  partners_bit =
      bit_and_lem (K * 4096 % 18446744073709551616 / 2 ^ b) (get_or columns (b % 5) 0) a
      ∙ ap₂ ◌&&◌
      (ap (λ (x : ℕ). bit (x / 2 ^ b) a) (mod-eq_of_lt (omega arith)) ∙ bit_shr (K * 4096) b a)
      (columns_bit (across b) a (omega arith) ha)
      ∙ moved (column (across b) a) refl

pub partner_and : (K e b m : ℕ) → e < 2 ^ position_count → ((a : ℕ) → a < position_count → bit m a ≡ (sum_inside b a && bit K (sum b a)))
    → partner K e b ≡ not (eqb (bit_and e m) 0)
unfolding partner positions
partner_and K e b m he h = any_and (λ a. sum_inside b a && bit K (sum b a)) position_count e m he h
