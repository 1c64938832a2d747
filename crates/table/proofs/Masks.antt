-- The positions of masks.
--     position_intro, position_elim     the positions of a mask are its bits below their number
--     some_bit, valid_position          a number from 1 below 2 ^ k has a bit below k, so a valid mask has a position
--     meets_shared                      masks that meet share a position
--     sum_tests, sum_below, sum_down, sum_across     the position number of an offset sum that lies in the window
--     persistent_partner                a position of a persistent element has a partner in the element
-- Assumes nothing.
use mathlib.Core.Bool.{true, not, ◌&&◌}
use mathlib.Core.List.{Memᴰ}
use mathlib.Core.Logic.{⊎_elim}
use mathlib.Core.Path.{◌≡◌, ap}
use Prim.Native.Nat.{ℕ, zero, suc, ◌+◌, ◌%◌, ◌^◌, ◌≤◌, ◌<◌}
use native.Mathlib.Nat.{div-eq_of_lt-le}
use native.Mathlib.Omega.{arith}
use borrow.Author.Tests.{not-true, not-false}
use lib.Dec.{leb}
use Rattle.seq.specs.Bits.{bit}
use Rattle.seq.proofs.Bits.{bit_one, bits_of_intro, bits_of_elim}
use Rattle.seq.proofs.Lists.{and_left, and_right, any_elim}
use Rattle.seq.proofs.Members.{not_some}
use Rattle.seq.proofs.Tab.{first_nothing}
use Rattle.seq.proofs.Tests.{between, lt_or_le}
use Rattle.table.specs.Mask.{position_count, across, down, positions, valid_mask, meets, sum_inside, sum, partner, unpartnered, persistent_for}
use Rattle.table.proofs.Positions.{mask_least, mask_lt}

pub position_intro : (m : ℕ) {n : ℕ} → n < position_count → bit m n ≡ true → Memᴰ n (positions m)
unfolding positions
position_intro m l h = bits_of_intro position_count m l h

pub position_elim : (m : ℕ) {n : ℕ} → Memᴰ n (positions m) → (n < position_count) × (bit m n ≡ true)
unfolding positions
position_elim m k = bits_of_elim position_count m k

-- the highest bit is k where the number is 2 ^ k or more, and lower where it is less
some_bit : (k m : ℕ) → 1 ≤ m → m < 2 ^ k → (n : ℕ) × (n < k) × (bit m n ≡ true)
some_bit zero m l h = absurd (omega arith)
some_bit (suc k) m l h = ⊎_elim (λ e. lower (some_bit k m l e)) highest (lt_or_le m (2 ^ k))
  where
    lower : (n : ℕ) × (n < k) × (bit m n ≡ true) → (n : ℕ) × (n < suc k) × (bit m n ≡ true)
    lower (n, i, b) = (n, omega arith, b)

    highest : 2 ^ k ≤ m → (n : ℕ) × (n < suc k) × (bit m n ≡ true)
    highest i =
        let q = div-eq_of_lt-le {k = 1} (2 ^ k) {m = m} (omega arith) (omega arith) in
        (k, omega arith, bit_one m k (ap (λ x. x % 2) q))

pub valid_position : (m : ℕ) → valid_mask m ≡ true → (n : ℕ) × Memᴰ n (positions m)
valid_position m h =
    let (n, l, b) = some_bit position_count m (mask_least m h) (mask_lt m h) in
    (n, position_intro m l b)

pub meets_shared : (e f : ℕ) → meets e f ≡ true → (n : ℕ) × Memᴰ n (positions e) × Memᴰ n (positions f)
unfolding meets
meets_shared e f h =
    let (n, m, b) = any_elim (bit f) (positions e) h in
    (n, m, position_intro f (position_elim e m).0 b)

module _ (b a : ℕ) (h : sum_inside b a ≡ true) where
  -- the four tests
  sum_tests : ((2 ≤ across b + across a) × (across b + across a ≤ 6)) × ((2 ≤ down b + down a) × (down b + down a ≤ 6))
  unfolding sum_inside
  sum_tests =
      let x = leb 2 (across b + across a) && leb (across b + across a) 6 in
      (between 2 (across b + across a) 6 (and_left x _ h), between 2 (down b + down a) 6 (and_right x _ h))

  sum_below : sum b a < position_count
  unfolding sum
  sum_below = omega (arith, sum_tests)

  pub sum_down : down (sum b a) + 2 ≡ down b + down a
  unfolding sum
  sum_down = omega (arith, sum_tests)

  pub sum_across : across (sum b a) + 2 ≡ across b + across a
  unfolding sum
  sum_across = omega (arith, sum_tests)

pub persistent_partner : (K e b : ℕ) → persistent_for K e ≡ true → Memᴰ b (positions K)
    → (a : ℕ) × Memᴰ a (positions e) × (sum_inside b a ≡ true) × Memᴰ (sum b a) (positions K)
unfolding persistent_for unpartnered partner
persistent_partner K e b h m =
    let (l, i) = position_elim K m in
    let p = first_nothing (λ n. bit K n && not (partner K e n)) position_count (not_some (unpartnered K e) (not-true _ h)) b l in
    let (a, n, s) = any_elim _ (positions e) (not-false (partner K e b) (rw i at p)) in
    let inside = and_left (sum_inside b a) _ s in
    (a, n, inside, position_intro K (sum_below b a inside) (and_right (sum_inside b a) _ s))
