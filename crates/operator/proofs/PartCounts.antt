-- What a step changes in the parts of a strip (02, T-08). The lists may be any; of the second one only places of the first count.
--     changed_few                       no more pixels change than there are
--     added_split, removed_split        the changes before a place and behind it
--     added_rows, removed_rows          the changes in the first of some rows and in the rest of them
--     added_past, removed_past          none past the parts
--     parts_added, parts_removed        those of all parts are those of the strip
--     one_added, one_removed            the one part of a single image
--     counts_same                       no part has a count where nothing changes
-- Assumes nothing.
use mathlib.Core.Bool.{Bool, true, false, ◌&&◌, ◌||◌}
use mathlib.Core.List.{List, [], ◌∷◌}
use mathlib.Core.Path.{◌≡◌, refl, sym, ap, ap₂, ◌∙◌}
use Prim.Native.Nat.{ℕ, zero, suc, ◌+◌, ◌-◌, ◌*◌, ◌≤◌, ◌<◌, min}
use native.Mathlib.Nat.{mul-add, mul-zero}
use native.Mathlib.Omega.{arith}
use borrow.Author.Tests.{ne_eqb}
use lib.Dec.{eqb}
use lib.ListN.{length, get_or, take, drop, length-take, length-drop, get_or-eq_default}
use lib.Seq.{get_or-take, get_or-drop, take-take, take_all, drop-drop}
use Rattle.image.proofs.Parts.{first_part, part_behind}
use Rattle.image.specs.Parts.{rows_of, above, part_of}
use Rattle.image.specs.Strip.{max_parts, no_counts}
use Rattle.operator.specs.Image.{added, removed}
use Rattle.operator.specs.Parts.{added_in, removed_in, part_counts}
use Rattle.seq.specs.Lists.{one, count, sum_of}
use Rattle.seq.specs.Tab.{tab, up_to}
use Rattle.seq.proofs.Lists.{clash, count_ext, count_le, count_none, count_sum}
use Rattle.seq.proofs.Members.{count_add, drop_take}
use Rattle.seq.proofs.Tab.{tab_ext, up_to_elim, length_up_to}

-- from 0 to 1, and from 1 to 0
abbrev gain : ℕ → ℕ → Bool
gain x y = eqb x 0 && eqb y 1

abbrev loss : ℕ → ℕ → Bool
loss x y = eqb x 1 && eqb y 0

-- a pixel is not added and removed at once
one_of_two : (a b c d : Bool) → (a && c) ≡ false → one (a && b) + one (c && d) ≡ one ((a && b) || (c && d)) + one false
one_of_two true b true d e = clash refl e
one_of_two true true false d e = refl
one_of_two true false false d e = refl
one_of_two false b true true e = refl
one_of_two false b true false e = refl
one_of_two false b false d e = refl

not_both : (x : ℕ) → (gain x x ≡ false) × (loss x x ≡ false)
not_both zero = (refl, refl)
not_both (suc x) = let e = ne_eqb (suc x) 0 (λ z. omega arith) in (rw e, by (eqb (suc x) 1) e)
  where
    by : (b : Bool) → eqb (suc x) 0 ≡ false → (b && eqb (suc x) 0) ≡ false
    by true e = e
    by false e = refl

change_once : (x y : ℕ) → one (gain x y) + one (loss x y) ≡ one (gain x y || loss x y) + one false
change_once x y = one_of_two (eqb x 0) (eqb y 1) (eqb x 1) (eqb y 0) (not_both x).0

pub changed_few : (a b : List ℕ) → added a b + removed a b ≤ length a
unfolding added removed
changed_few a b =
    let gains : ℕ → Bool = λ i. gain (get_or a i 0) (get_or b i 0) in
    let loses : ℕ → Bool = λ i. loss (get_or a i 0) (get_or b i 0) in
    omega (
      arith,
      count_sum gains loses (λ i. gains i || loses i) (λ i. false) (up_to (length a)) (λ i _. change_once (get_or a i 0) (get_or b i 0)),
      count_none (λ i. false) (up_to (length a)) (λ i _. refl),
      count_le (λ i. gains i || loses i) (up_to (length a)),
      length_up_to (length a),
    )

-- the pairs of pixels, of both images, that pass a test
module _ (q : ℕ → ℕ → Bool) where
  abbrev pairs : List ℕ → List ℕ → ℕ
  pairs a b = count (λ i. q (get_or a i 0) (get_or b i 0)) (up_to (length a))

  pairs_split : (a b : List ℕ) (n : ℕ) → pairs a b ≡ pairs (take n a) (take n b) + pairs (drop n a) (drop n b)
  pairs_split a b n =
      ap (λ k. count p (up_to k)) (omega arith)
      ∙ count_add p (min n (length a)) (length a - n)
      ∙ ap₂ ◌+◌
      (rw (length-take n a) (count_ext _ _ (up_to (min n (length a))) (λ i m. let k = up_to_elim (min n (length a)) m in sym (ap₂ q (get_or-take n a i 0 (omega arith)) (get_or-take n b i 0 (omega arith))))))
      (rw (length-drop n a) (count_ext _ _ (up_to (length a - n)) (λ i m. let k = up_to_elim (length a - n) m in behind i (omega arith))))
    where
      p : ℕ → Bool
      p i = q (get_or a i 0) (get_or b i 0)

      behind : (i : ℕ) → n < length a → p (min n (length a) + i) ≡ q (get_or (drop n a) i 0) (get_or (drop n b) i 0)
      behind i l = let e : min n (length a) + i ≡ n + i = omega arith in ap p e ∙ sym (ap₂ q (get_or-drop n a i 0) (get_or-drop n b i 0))

  pairs_rows : (w from n m : ℕ) (a b : List ℕ)
      → pairs (rows_of w from (n + m) a) (rows_of w from (n + m) b)
      ≡ pairs (rows_of w from n a) (rows_of w from n b) + pairs (rows_of w (from + n) m a) (rows_of w (from + n) m b)
  unfolding rows_of
  pairs_rows w from n m a b =
      pairs_split (rows_of w from (n + m) a) (rows_of w from (n + m) b) (w * n)
      ∙ ap₂ ◌+◌ (ap₂ pairs (upper a) (upper b)) (ap₂ pairs (lower a) (lower b))
    where
      upper : (l : List ℕ) → take (w * n) (rows_of w from (n + m) l) ≡ rows_of w from n l
      upper l = take-take (w * n) (w * (n + m)) (drop (w * from) l) (omega (arith, mul-add w n m))

      lower : (l : List ℕ) → drop (w * n) (rows_of w from (n + m) l) ≡ rows_of w (from + n) m l
      lower l =
          ap (λ k. drop (w * n) (take k (drop (w * from) l))) (mul-add w n m)
          ∙ drop_take (w * n) (w * m) (drop (w * from) l)
          ∙ ap (take (w * m)) (drop-drop (w * n) (w * from) l ∙ ap (λ k. drop k l) (sym (mul-add w from n)))

  abbrev pairs_in : ℕ → List ℕ → List ℕ → List ℕ → ℕ → ℕ
  pairs_in w hs a b i = pairs (part_of w hs i a) (part_of w hs i b)

  no_row : (w from : ℕ) (a b : List ℕ) → pairs (rows_of w from 0 a) (rows_of w from 0 b) ≡ 0
  unfolding rows_of up_to
  no_row w from a b = rw (mul-zero w)

  pairs_past : (w : ℕ) (hs a b : List ℕ) (i : ℕ) → length hs ≤ i → pairs_in w hs a b i ≡ 0
  pairs_past w hs a b i l = rw (get_or-eq_default hs 0 {n = i} l) (no_row w (above hs i) a b)

  all_zero : (f : ℕ → ℕ) (n : ℕ) → ((i : ℕ) → f i ≡ 0) → sum_of (tab f n) ≡ 0
  all_zero f zero e = refl
  all_zero f (suc n) e = omega (arith, e 0, all_zero (λ k. f (suc k)) n (λ i. e (suc i)))

  pairs_parts : (w : ℕ) (hs : List ℕ) (n : ℕ) (a b : List ℕ) → length hs ≤ n → length a ≡ w * sum_of hs → sum_of (tab (pairs_in w hs a b) n) ≡ pairs a b
  unfolding up_to
  pairs_parts w [] n a b l e =
      all_zero (pairs_in w [] a b) n (λ i. pairs_past w [] a b i (omega arith))
      ∙ let z : length a ≡ 0 = omega (arith, mul-zero w) in sym (rw z)
  pairs_parts w (h ∷ hs) zero a b l e = absurd (omega arith)
  pairs_parts w (h ∷ hs) (suc n) a b l e =
      ap₂ ◌+◌ (ap₂ pairs (first_part w h hs a) (first_part w h hs b))
      (ap sum_of (tab_ext _ (pairs_in w hs (drop (w * h) a) (drop (w * h) b)) n (λ k _. ap₂ pairs (part_behind w h hs a k) (part_behind w h hs b k)))
      ∙ pairs_parts w hs n (drop (w * h) a) (drop (w * h) b) (omega arith) (omega (arith, length-drop (w * h) a, mul-add w h (sum_of hs))))
      ∙ sym (pairs_split a b (w * h))

  pairs_one : (w h : ℕ) (a b : List ℕ) → length a ≡ w * h → length b ≡ w * h → pairs_in w (h ∷ []) a b 0 ≡ pairs a b
  pairs_one w h a b e f =
      ap₂ pairs (first_part w h [] a ∙ take_all (w * h) a (omega arith)) (first_part w h [] b ∙ take_all (w * h) b (omega arith))

module _ (a b : List ℕ) where
  pub added_split : (n : ℕ) → added a b ≡ added (take n a) (take n b) + added (drop n a) (drop n b)
  unfolding added
  added_split = pairs_split gain a b

  pub removed_split : (n : ℕ) → removed a b ≡ removed (take n a) (take n b) + removed (drop n a) (drop n b)
  unfolding removed
  removed_split = pairs_split loss a b

  module _ (w from n m : ℕ) where
    pub added_rows : added (rows_of w from (n + m) a) (rows_of w from (n + m) b)
        ≡ added (rows_of w from n a) (rows_of w from n b) + added (rows_of w (from + n) m a) (rows_of w (from + n) m b)
    unfolding added
    added_rows = pairs_rows gain w from n m a b

    pub removed_rows : removed (rows_of w from (n + m) a) (rows_of w from (n + m) b)
        ≡ removed (rows_of w from n a) (rows_of w from n b) + removed (rows_of w (from + n) m a) (rows_of w (from + n) m b)
    unfolding removed
    removed_rows = pairs_rows loss w from n m a b

-- of parts of the width w and the heights hs
module _ (w : ℕ) (hs a b : List ℕ) where
  pub added_past : (i : ℕ) → length hs ≤ i → added_in w hs a b i ≡ 0
  unfolding added
  added_past = pairs_past gain w hs a b

  pub removed_past : (i : ℕ) → length hs ≤ i → removed_in w hs a b i ≡ 0
  unfolding removed
  removed_past = pairs_past loss w hs a b

  pub parts_added : length hs ≤ max_parts → length a ≡ w * sum_of hs → sum_of (tab (added_in w hs a b) max_parts) ≡ added a b
  unfolding added
  parts_added = pairs_parts gain w hs max_parts a b

  pub parts_removed : length hs ≤ max_parts → length a ≡ w * sum_of hs → sum_of (tab (removed_in w hs a b) max_parts) ≡ removed a b
  unfolding removed
  parts_removed = pairs_parts loss w hs max_parts a b

module _ (w h : ℕ) (a b : List ℕ) where
  pub one_added : length a ≡ w * h → length b ≡ w * h → added_in w (h ∷ []) a b 0 ≡ added a b
  unfolding added
  one_added = pairs_one gain w h a b

  pub one_removed : length a ≡ w * h → length b ≡ w * h → removed_in w (h ∷ []) a b 0 ≡ removed a b
  unfolding removed
  one_removed = pairs_one loss w h a b

none_changed : (a : List ℕ) → (added a a ≡ 0) × (removed a a ≡ 0)
unfolding added removed
none_changed a = (
  count_none (λ i. gain (get_or a i 0) (get_or a i 0)) (up_to (length a)) (λ i _. (not_both (get_or a i 0)).0),
  count_none (λ i. loss (get_or a i 0) (get_or a i 0)) (up_to (length a)) (λ i _. (not_both (get_or a i 0)).1),
)

pub counts_same : (w : ℕ) (hs a : List ℕ) → part_counts w hs a a ≡ no_counts
unfolding part_counts
counts_same w hs a =
    ap₂ (λ (x y : List ℕ). record { added = x; removed = y })
    (tab_ext (added_in w hs a a) (λ i. 0) max_parts (λ i l. (none_changed (part_of w hs i a)).0))
    (tab_ext (removed_in w hs a a) (λ i. 0) max_parts (λ i l. (none_changed (part_of w hs i a)).1))
