-- The bytes of numbers, as they are written.
--     length_number, count_bounds      a number has as many bytes as groups, one to four
--     masks_size, masks_size_le        the bytes of masks: a sum over them, four for each at most
--     Putting l at n j left out        where writing n at a position stands after j groups
--     masks_last                       the bytes of one mask more
--     first_bytes ms k                  the bytes of the first k masks
--     first_more, first_size, first_le, first_all     one mask more; their number; in order; all of them
--     Placed ms l at k next out        where writing masks stands after k
--     length_bytes                     the length of a record's file, part by part
--     to_leading t, to_count t, to_elements t, to_ranks t, fits     a file up to each of its parts, which fits where the file does
--     Wrote l bytes at out             where writing a file stands after some bytes
--     wrote_leading, wrote_count, wrote_elements, wrote_ranks     where it stands after each part of a record's file
-- Assumes nothing.
use Rattle.std.specs.List.{sum_by}
use Rattle.std.proofs.lemmas.List.Sums.{sum_by-cons}
use mathlib.Core.List.{List, [], ◌∷◌, ◌++◌, map, append-nil}
use mathlib.Core.Path.{◌≡◌, refl, sym, ap, ap₂, ◌∙◌}
use Prim.Native.Nat.{ℕ, ◌+◌, ◌*◌, ◌/◌, ◌%◌, ◌^◌, ◌≤◌, ◌<◌}
use native.Mathlib.Decide.{le_ind}
use native.Mathlib.Nat.{div-div-eq-div-mul, pow-suc, le_trans, le_of_lt, le_refl, zero-add}
use native.Mathlib.Numerals.{add-one}
use native.Mathlib.Omega.{arith}
use lib.Dec.{leb, ltb}
use lib.ListN.{length, get_or, take, set, length-append}
use lib.Seq.{sets, length-sets, take-suc, take_all}
use Rattle.seq.specs.Lists.{one, join}
use Rattle.seq.specs.Tab.{tab}
use Rattle.seq.proofs.Joins.{map_append, join_append}
use Rattle.seq.proofs.Lists.{one_le}
use Rattle.seq.proofs.Stores.{sets_append, sets_tab, sets_front}
use Rattle.seq.proofs.Tab.{length_tab}
use Rattle.table.specs.declared.Table.{Table}
use Rattle.table.specs.Number.{group_count, group, number_bytes}
use Rattle.table.specs.File.{if_several, masks_bytes, table_bytes}
use Rattle.table.specs.Record.{masks, persistents}
use Rattle.verdict.specs.Writer.{over}

pub length_number : (n : ℕ) → length (number_bytes n) ≡ group_count n
unfolding number_bytes
length_number n = length_tab (group n) (group_count n)

pub count_bounds : (n : ℕ) → (1 ≤ group_count n) × (group_count n ≤ 4)
unfolding group_count
count_bounds n = (omega arith, omega (arith, one_le (leb (2 ^ 7) n), one_le (leb (2 ^ 14) n), one_le (leb (2 ^ 21) n)))

pub masks_last : (ms : List ℕ) (m : ℕ) → masks_bytes (ms ++ m ∷ []) ≡ masks_bytes ms ++ number_bytes m
masks_last ms m =
    ap join (map_append number_bytes ms (m ∷ []))
    ∙ join_append (map number_bytes ms) (number_bytes m ∷ [])
    ∙ ap (λ (l : List ℕ). masks_bytes ms ++ l) (append-nil (number_bytes m))

-- the length of masks, as an iterator adds it up
pub masks_size : (ms : List ℕ) → length (masks_bytes ms) ≡ sum_by group_count ms
masks_size [] = refl
masks_size (m ∷ ms) =
    length-append (number_bytes m) (masks_bytes ms) ∙ ap₂ ◌+◌ (length_number m) (masks_size ms) ∙ sym (sum_by-cons group_count m ms)

pub masks_size_le : (ms : List ℕ) → length (masks_bytes ms) ≤ 4 * length ms
masks_size_le [] = omega arith
masks_size_le (m ∷ ms) = omega (arith, length-append (number_bytes m) (masks_bytes ms), length_number m, masks_size_le ms, count_bounds m)

pub record Putting (l : List ℕ) (at n j left : ℕ) (out : List ℕ) : Type 0 where
  pub within : j ≤ group_count n
  pub shifted : left ≡ n / 128 ^ j
  pub stored : out ≡ sets l at (tab (group n) j)

module _ {l : List ℕ} {at n j left : ℕ} {out : List ℕ} (p : Putting l at n j left out) where
  pub putting_more : {count b : ℕ} → count ≡ group_count n → j < count → b ≡ left % 128 + 128 * one (ltb (j + 1) count)
      → Putting l at n (j + 1) (left / 128) (set out (at + j) b)
  unfolding group
  putting_more {count} {b} c h e = record { within = omega arith; shifted = next; stored = ap₂ (λ (t : List ℕ) (x : ℕ). set t (at + j) x) p.stored byte ∙ sets_tab l at (group n) j }
    where
      next : left / 128 ≡ n / 128 ^ (j + 1)
      next = ap (λ (x : ℕ). x / 128) p.shifted ∙ div-div-eq-div-mul n (128 ^ j) 128 ∙ ap (λ (x : ℕ). n / x) (sym (rw add-one (pow-suc 128 j)))

      byte : b ≡ group n j
      byte = e ∙ ap₂ (λ (x k : ℕ). x % 128 + 128 * one (ltb (j + 1) k)) p.shifted c

  pub putting_all : group_count n ≤ j → out ≡ sets l at (number_bytes n)
  unfolding number_bytes
  putting_all h = p.stored ∙ ap (λ (k : ℕ). sets l at (tab (group n) k)) all
    where
      all : j ≡ group_count n
      all = omega (arith, p.within)

abbrev pub first_bytes : List ℕ → ℕ → List ℕ
first_bytes ms k = masks_bytes (take k ms)

module _ (ms : List ℕ) where
  pub first_more : (k : ℕ) → k < length ms → first_bytes ms (k + 1) ≡ first_bytes ms k ++ number_bytes (get_or ms k 0)
  first_more k h = ap (first_bytes ms) (add-one k) ∙ ap masks_bytes (take-suc ms k 0 h) ∙ masks_last (take k ms) (get_or ms k 0)

  pub first_size : (k : ℕ) → k < length ms → length (first_bytes ms (k + 1)) ≡ length (first_bytes ms k) + group_count (get_or ms k 0)
  first_size k h =
      ap length (first_more k h) ∙ length-append (first_bytes ms k) (number_bytes (get_or ms k 0))
      ∙ ap (λ (n : ℕ). length (first_bytes ms k) + n) (length_number (get_or ms k 0))

  pub first_le : (k m : ℕ) → k ≤ m → m ≤ length ms → length (first_bytes ms k) ≤ length (first_bytes ms m)
  first_le k m h =
      le_ind (λ (i : ℕ). i ≤ length ms → length (first_bytes ms k) ≤ length (first_bytes ms i))
      (λ l. le_refl (length (first_bytes ms k)))
      (λ i g less l. le_trans (less (le_of_lt l)) (omega (arith, first_size i l, ap (λ (j : ℕ). length (first_bytes ms j)) (add-one i))))
      m h

  pub first_all : (k : ℕ) → length ms ≤ k → first_bytes ms k ≡ masks_bytes ms
  first_all k h = ap masks_bytes (take_all k ms h)

pub record Placed (ms l : List ℕ) (at k next : ℕ) (out : List ℕ) : Type 0 where
  pub within : k ≤ length ms
  pub reached : next ≡ at + length (first_bytes ms k)
  pub stored : out ≡ sets l at (first_bytes ms k)

module _ {ms l : List ℕ} {at k next : ℕ} {out : List ℕ} (p : Placed ms l at k next out) where
  pub placed_length : length out ≡ length l
  placed_length = ap length p.stored ∙ length-sets l at (first_bytes ms k)

  -- one mask more fits where all of them do
  pub placed_fits : k < length ms → at + length (masks_bytes ms) ≤ length l → next + group_count (get_or ms k 0) ≤ length out
  placed_fits h b =
      omega (arith, p.reached, placed_length, first_size ms k h, first_le ms (k + 1) (length ms) (omega arith) (le_refl (length ms)), ap length (first_all ms (length ms) (le_refl (length ms))))

  pub placed_more : {next' : ℕ} {out' : List ℕ} → k < length ms → next' ≡ next + group_count (get_or ms k 0) → out' ≡ sets out next (number_bytes (get_or ms k 0))
      → Placed ms l at (k + 1) next' out'
  placed_more h e s =
      record {
        within = omega arith;
        reached = omega (arith, p.reached, first_size ms k h);
        stored =
            s ∙ ap₂ (λ (o : List ℕ) (i : ℕ). sets o i (number_bytes (get_or ms k 0))) p.stored p.reached
            ∙ sets_append (first_bytes ms k) (number_bytes (get_or ms k 0)) l at ∙ ap (sets l at) (sym (first_more ms k h));
      }

-- ---- the bytes of a record, part by part

pub length_bytes : (t : Table)
    → length (table_bytes t)
    ≡ length (if_several t 0) + group_count t.count + length (masks_bytes (masks t)) + length (if_several t t.ranks) + length (masks_bytes (persistents t))
unfolding table_bytes
length_bytes t = simp (length-append, length_number)

-- a file up to each of its parts
module _ (t : Table) where
  abbrev pub to_leading : List ℕ
  to_leading = if_several t 0

  abbrev pub to_count : List ℕ
  to_count = to_leading ++ number_bytes t.count

  abbrev pub to_elements : List ℕ
  to_elements = to_count ++ masks_bytes (masks t)

  abbrev pub to_ranks : List ℕ
  to_ranks = to_elements ++ if_several t t.ranks

  -- each fits where the file does
  pub fits : (n : ℕ) → length (table_bytes t) ≤ n → (length to_leading ≤ n) × (length to_count ≤ n) × (length to_elements ≤ n) × (length to_ranks ≤ n)
  unfolding table_bytes
  fits n h =
      let ranks = front to_ranks (masks_bytes (persistents t)) h in
      let elements = front to_elements (if_several t t.ranks) ranks in
      let count = front to_count (masks_bytes (masks t)) elements in
      (front to_leading (number_bytes t.count) count, count, elements, ranks)
    where
      front : (a b : List ℕ) → length (a ++ b) ≤ n → length a ≤ n
      front a b l = omega (arith, length-append a b)

pub record Wrote (l bytes : List ℕ) (at : ℕ) (out : List ℕ) : Type 0 where
  pub reached : at ≡ length bytes
  pub stored : out ≡ sets l 0 bytes

pub wrote_none : (l : List ℕ) → Wrote l [] 0 l
wrote_none l = record { reached = refl; stored = refl }

module _ {l bytes : List ℕ} {at : ℕ} {out : List ℕ} (w : Wrote l bytes at out) where
  pub wrote_length : length out ≡ length l
  wrote_length = ap length w.stored ∙ length-sets l 0 bytes

  pub wrote_fits : (part : List ℕ) → length (bytes ++ part) ≤ length l → at + length part ≤ length out
  wrote_fits part h = omega (arith, w.reached, wrote_length, length-append bytes part)

  pub wrote_more : (part : List ℕ) {past : ℕ} {out' : List ℕ} → past ≡ at + length part → out' ≡ sets out at part → Wrote l (bytes ++ part) past out'
  wrote_more part e s =
      record {
        reached = e ∙ ap (λ (n : ℕ). n + length part) w.reached ∙ sym (length-append bytes part);
        stored = s ∙ ap₂ (λ (o : List ℕ) (i : ℕ). sets o i part) w.stored (w.reached ∙ sym (zero-add (length bytes))) ∙ sets_append bytes part l 0;
      }

  pub wrote_all : length bytes ≤ length l → out ≡ over bytes l
  unfolding over
  wrote_all h = w.stored ∙ sets_front bytes l h

-- where the writing of a record's file stands after each part, by what each part's writing answers
module _ (t : Table) (l : List ℕ) {a : ℕ} {o : List ℕ} (leading : (a ≡ 0 + length (if_several t 0)) × (o ≡ sets l 0 (if_several t 0))) where
  pub wrote_leading : Wrote l (to_leading t) a o
  wrote_leading = wrote_more (wrote_none l) (if_several t 0) leading.0 leading.1

  module _ {b : ℕ} {p : List ℕ} (count : (b ≡ a + group_count t.count) × (p ≡ sets o a (number_bytes t.count))) where
    pub wrote_count : Wrote l (to_count t) b p
    wrote_count =
        wrote_more wrote_leading (number_bytes t.count) (count.0 ∙ ap (λ (k : ℕ). a + k) (sym (length_number t.count))) count.1

    module _ {d : ℕ} {q : List ℕ} (elements : (d ≡ b + length (masks_bytes (masks t))) × (q ≡ sets p b (masks_bytes (masks t)))) where
      pub wrote_elements : Wrote l (to_elements t) d q
      wrote_elements = wrote_more wrote_count (masks_bytes (masks t)) elements.0 elements.1

      pub wrote_ranks : {e : ℕ} {r : List ℕ} → (e ≡ d + length (if_several t t.ranks)) × (r ≡ sets q d (if_several t t.ranks)) → Wrote l (to_ranks t) e r
      wrote_ranks ranks = wrote_more wrote_elements (if_several t t.ranks) ranks.0 ranks.1
