-- Counting the flips (the module `turn`).
--     pairs             the sums of neighbouring bits that the code makes
--     ones_lanes                  they count the lanes with bit 0, over all bytes
--     lanes_half, lanes_le        the lanes with bit 1, and that there are at most four
--     tallied_none, tallied_more  a loop's start and one byte more
--     tallied_join, tallied_le    two stretches, and a bound
--     count_zero                  the count below 0
--     count_behind                the count where nothing passes behind a bound
--     tallied_lanes, tallied_row  the count over a row's bytes, lane by lane, and by columns
-- Assumes nothing.
use mathlib.Core.Bool.{Bool, true, false}
use mathlib.Core.List.{List, [], ◌∷◌}
use mathlib.Core.Path.{◌≡◌, refl, sym, ap, ◌∙◌}
use Prim.Native.Nat.{ℕ, zero, suc, ◌+◌, ◌-◌, ◌*◌, ◌/◌, ◌≤◌, ◌<◌}
use native.Mathlib.Numerals.{add-one}
use native.Mathlib.Omega.{arith}
use borrow.Author.Tests.{eqb-true}
use lib.Bits.{bit_and}
use lib.Dec.{eqb}
use lib.ListN.{get_or}
use Rattle.seq.specs.Bits.{bit}
use Rattle.seq.specs.Lists.{all, one, count, sum_of}
use Rattle.seq.specs.Tab.{tab, up_to}
use Rattle.seq.proofs.Bits.{bit_half}
use Rattle.seq.proofs.Lists.{count_ext, count_le, count_none, sum_of_append}
use Rattle.seq.proofs.Members.{count_add}
use Rattle.seq.proofs.Stores.{tab_add}
use Rattle.seq.proofs.Tab.{tab_suc, tab_ext, up_to_elim, up_to_test, count_up_to}
use Rattle.filter.specs.Code.Plane.{band}
use Rattle.filter.specs.Code.Turn.{lane_count, tallied}

abbrev pub pairs : ℕ → ℕ
pairs f = bit_and (bit_and f 85) 51 + bit_and (bit_and f 85 / 4) 51

ones_all : all (λ f. eqb (bit_and (pairs f) 15 + pairs f / 16) (lane_count 0 f)) (up_to 256) ≡ true
unfolding lane_count bit up_to
ones_all = refl

pub ones_lanes : (f : ℕ) → f < 256 → bit_and (pairs f) 15 + pairs f / 16 ≡ lane_count 0 f
ones_lanes f l = eqb-true _ _ (up_to_test (λ x. eqb (bit_and (pairs x) 15 + pairs x / 16) (lane_count 0 x)) 256 ones_all f l)

pub lanes_half : (x : ℕ) → lane_count 0 (x / 2) ≡ lane_count 1 x
unfolding lane_count
lanes_half x = count_ext (λ l. bit (x / 2) (2 * l + 0)) (λ l. bit x (2 * l + 1)) (up_to 4) (λ l m. bit_half x (2 * l + 0) ∙ ap (bit x) (omega arith))

pub lanes_le : (v x : ℕ) → lane_count v x ≤ 4
unfolding lane_count up_to
lanes_le v x = count_le (λ l. bit x (2 * l + v)) (up_to 4)

module _ (v : ℕ) (flips : List ℕ) (from : ℕ) where
  abbrev lanes : ℕ → ℕ
  lanes k = lane_count v (get_or flips (from + k) 0)

  pub tallied_none : tallied v flips from 0 ≡ 0
  unfolding tallied
  tallied_none = refl

  tallied_suc : (n : ℕ) → tallied v flips from (suc n) ≡ tallied v flips from n + lane_count v (get_or flips (from + n) 0)
  unfolding tallied
  tallied_suc n = ap sum_of (tab_suc lanes n) ∙ sum_of_append (tab lanes n) (lanes n ∷ []) ∙ omega arith

  pub tallied_more : (n : ℕ) → tallied v flips from (n + 1) ≡ tallied v flips from n + lane_count v (get_or flips (from + n) 0)
  tallied_more n = rw add-one (tallied_suc n)

  pub tallied_join : (m n : ℕ) → tallied v flips from m + tallied v flips (from + m) n ≡ tallied v flips from (m + n)
  unfolding tallied
  tallied_join m n =
      sym
      (ap sum_of (tab_add lanes m n)
      ∙ sum_of_append (tab lanes m) (tab (λ k. lanes (m + k)) n)
      ∙ ap (λ (t : List ℕ). sum_of (tab lanes m) + sum_of t) (tab_ext (λ k. lanes (m + k)) (λ k. lane_count v (get_or flips (from + m + k) 0)) n (λ k l. moved k)))
    where
      moved : (k : ℕ) → lane_count v (get_or flips (from + (m + k)) 0) ≡ lane_count v (get_or flips (from + m + k) 0)
      moved k = ap (λ (j : ℕ). lane_count v (get_or flips j 0)) (omega arith)

  pub tallied_le : (n : ℕ) → tallied v flips from n ≤ 4 * n
  tallied_le zero = omega (arith, tallied_none)
  tallied_le (suc n) = omega (arith, tallied_le n, tallied_suc n, lanes_le v (get_or flips (from + n) 0))

  -- one lane after the other
  abbrev pub lane : ℕ → ℕ → ℕ
  lane l n = count (λ k. bit (get_or flips (from + k) 0) (2 * l + v)) (up_to n)

  lane_more : (l n : ℕ) → lane l (suc n) ≡ lane l n + one (bit (get_or flips (from + n) 0) (2 * l + v))
  lane_more l n = count_up_to (λ k. bit (get_or flips (from + k) 0) (2 * l + v)) n

  pub tallied_lanes : (n : ℕ) → tallied v flips from n ≡ lane 0 n + lane 1 n + lane 2 n + lane 3 n
  unfolding lane_count up_to
  tallied_lanes zero = omega (arith, tallied_none)
  tallied_lanes (suc n) = omega (arith, tallied_suc n, tallied_lanes n, lane_more 0 n, lane_more 1 n, lane_more 2 n, lane_more 3 n)

pub count_zero : (p : ℕ → Bool) → count p (up_to 0) ≡ 0
unfolding up_to
count_zero p = refl

pub count_behind : (p : ℕ → Bool) (m n : ℕ) → m ≤ n → ((i : ℕ) → m ≤ i → p i ≡ false) → count p (up_to n) ≡ count p (up_to m)
count_behind p m n l h =
    let e : m + (n - m) ≡ n = omega arith in
    let none : count (λ i. p (m + i)) (up_to (n - m)) ≡ 0 = count_none (λ i. p (m + i)) (up_to (n - m)) (λ i q. h (m + i) (omega arith)) in
    ap (λ (k : ℕ). count p (up_to k)) (sym e) ∙ count_add p m (n - m) ∙ omega arith

-- the columns of a row, from its bytes
pub tallied_row : (v : ℕ) (flips : List ℕ) (from : ℕ) (p : ℕ → Bool)
    → ((k l : ℕ) → k < band → l < 4 → bit (get_or flips (from + k) 0) (2 * l + v) ≡ p (band * l + k)) → tallied v flips from band ≡ count p (up_to (4 * band))
tallied_row v flips from p h =
    omega (
      arith,
      tallied_lanes v flips from band,
      lane_columns 0 (omega arith),
      lane_columns 1 (omega arith),
      lane_columns 2 (omega arith),
      lane_columns 3 (omega arith),
      count_add p 192 band,
      count_add p 128 band,
      count_add p 64 band,
      count_add p 0 band,
      count_zero p,
    )
  where
    lane_columns : (l : ℕ) → l < 4 → lane v flips from l band ≡ count (λ k. p (band * l + k)) (up_to band)
    lane_columns l q = count_ext (λ k. bit (get_or flips (from + k) 0) (2 * l + v)) (λ k. p (band * l + k)) (up_to band) (λ k m. h k l (up_to_elim band m) q)
