-- Numbers in the fewest groups, read and written group by group.
--     bytes_last, bytes_next     a number's bytes: its lowest group, then the others
--     Fewest k l n r       l starts with the groups of n, k at most, of which the last is not 0, and goes on with r
--     reads        what the definitions read there
--     written      l is the written number, then r
--     stands       the written number stands so
--     found        so does what the definitions read as whole and fewest
-- Assumes nothing.
use mathlib.Core.Bool.{Bool, true, false, cond}
use mathlib.Core.List.{List, [], ◌∷◌, ◌++◌}
use mathlib.Core.Logic.{◌⊎◌, inl, inr}
use mathlib.Core.Path.{◌≡◌, refl, sym, ap, ap₂, ◌∙◌}
use Prim.Native.Nat.{ℕ, zero, suc, ◌+◌, ◌*◌, ◌/◌, ◌%◌, ◌^◌, ◌≤◌, ◌<◌}
use native.Mathlib.Nat.{le_of_suc-le-suc, div-one, div-div-eq-div-mul, pow-suc, mul_comm, one-le-pow}
use native.Mathlib.Omega.{arith}
use borrow.Author.Tests.{leb-true, leb-false, ltb-true, le-leb, lt-leb, lt-ltb, le-ltb}
use lib.Dec.{leb, ltb, leb-suc-suc}
use lib.ListN.{length, get_or, take, drop}
use lib.Pow.{are_bytes}
use Rattle.seq.specs.Lists.{one}
use Rattle.seq.specs.Tab.{tab}
use Rattle.seq.proofs.Lists.{bool_ext, and_left, and_right}
use Rattle.seq.proofs.Tab.{tab_ext}
use Rattle.seq.proofs.Tests.{lt_or_le}
use Rattle.table.specs.Number.{run, groups, group_count, group, number_bytes}
use Rattle.table.proofs.Bytes.{count_bounds}

-- ---- writing, group by group

div_test : (m n : ℕ) → leb m (n / 128) ≡ leb (128 * m) n
div_test m n =
    bool_ext (leb m (n / 128)) (leb (128 * m) n)
    (λ p. let h = leb-true m (n / 128) p in le-leb (128 * m) n (omega arith))
    (λ p. let h = leb-true (128 * m) n p in le-leb m (n / 128) (omega arith))

count_next : (n : ℕ) → 128 ≤ n → n < 2 ^ 28 → group_count n ≡ suc (group_count (n / 128))
unfolding group_count
count_next n h l =
    omega (arith, ap one (div_test 128 n), ap one (div_test 16384 n), ap one (le-leb 128 n h), ap one (lt-leb 2097152 (n / 128) (omega arith)))

count_last : (n : ℕ) → n < 128 → group_count n ≡ 1
unfolding group_count
count_last n l = omega (arith, ap one (lt-leb 128 n l), ap one (lt-leb 16384 n (omega arith)), ap one (lt-leb 2097152 n (omega arith)))

-- the lowest group, and the others as those of the number without it
group_first : (n : ℕ) {b : Bool} → ltb 1 (group_count n) ≡ b → group n 0 ≡ n % 128 + 128 * one b
unfolding group
group_first n e = omega (arith, ap (λ (x : ℕ). x % 128) (div-one n), ap one e)

group_next : (n k : ℕ) → group_count n ≡ suc (group_count (n / 128)) → group n (suc k) ≡ group (n / 128) k
unfolding group
group_next n k e = ap₂ (λ (x : ℕ) (b : Bool). x % 128 + 128 * one b) shifted more_groups
  where
    shifted : n / 128 ^ suc k ≡ n / 128 / 128 ^ k
    shifted = ap (λ (x : ℕ). n / x) (pow-suc 128 k ∙ mul_comm (128 ^ k) 128) ∙ sym (div-div-eq-div-mul n 128 (128 ^ k))

    more_groups : ltb (suc k + 1) (group_count n) ≡ ltb (k + 1) (group_count (n / 128))
    more_groups = ap₂ ltb again e ∙ leb-suc-suc (suc (k + 1)) (group_count (n / 128))
      where
        again : suc k + 1 ≡ suc (k + 1)
        again = omega arith

pub bytes_last : (n : ℕ) → n < 128 → number_bytes n ≡ n ∷ []
unfolding number_bytes
bytes_last n l =
    ap (tab (group n)) (count_last n l)
    ∙ ap (λ (b : ℕ). b ∷ []) (group_first n (le-ltb 1 (group_count n) (omega (arith, count_last n l))) ∙ omega arith)

pub bytes_next : (n : ℕ) → 128 ≤ n → n < 2 ^ 28 → number_bytes n ≡ (n % 128 + 128) ∷ number_bytes (n / 128)
unfolding number_bytes
bytes_next n h l =
    ap (tab (group n)) (count_next n h l)
    ∙ ap₂ ◌∷◌
    (group_first n (lt-ltb 1 (group_count n) (omega (arith, count_next n h l, count_bounds (n / 128)))))
    (tab_ext (λ k. group n (suc k)) (group (n / 128)) (group_count (n / 128)) (λ k m. group_next n k (count_next n h l)))

-- ---- groups at the front of a list of bytes

pub data Fewest : ℕ → List ℕ → ℕ → List ℕ → Type 0 where
  last : {k a : ℕ} {r : List ℕ} → 1 ≤ a → a < 128 → Fewest (suc k) (a ∷ r) a r
  next : {k a n m : ℕ} {l r : List ℕ} → 128 ≤ a → a < 256 → m ≡ a % 128 + 128 * n → Fewest k l n r → Fewest (suc k) (a ∷ l) m r

-- how the definitions read them: as many bytes with bit 7 set as `index` says, then one that is not 0
pub record Reads (k : ℕ) (l : List ℕ) (n : ℕ) (r : List ℕ) : Type 0 where
  pub index : ℕ
  pub counted : run (take k l) ≡ index
  pub few : index < k
  pub whole : index < length l
  pub nonzero : 1 ≤ get_or l index 0
  pub is : groups (take (suc index) l) ≡ n
  pub behind : drop (suc index) l ≡ r
  pub positive : 1 ≤ n

pub reads : {k : ℕ} {l : List ℕ} {n : ℕ} {r : List ℕ} → Fewest k l n r → Reads k l n r
reads (last {k} {a} {r} p h) =
    record {
      index = 0;
      counted = simp (lt-leb 128 a h);
      few = omega arith;
      whole = omega arith;
      nonzero = p;
      is = omega arith;
      behind = refl;
      positive = p;
    }
reads (next {k} {a} {n} {m} {l} {r} p h e f) =
    let w = reads f in
    record {
      index = suc w.index;
      counted = simp (le-leb 128 a p) (ap suc w.counted);
      few = omega (arith, w.few);
      whole = omega (arith, w.whole);
      nonzero = w.nonzero;
      is = omega (arith, w.is);
      behind = w.behind;
      positive = omega (arith, w.positive);
    }

-- they are the written groups, where there are four at most
pub written : {k : ℕ} {l : List ℕ} {n : ℕ} {r : List ℕ} → Fewest k l n r → n < 2 ^ 28 → l ≡ number_bytes n ++ r
written (last {a = a} {r = r} p h) b = ap (λ (l : List ℕ). l ++ r) (sym (bytes_last a h))
written (next {k} {a} {n} {m} {l} {r} p h e f) b =
    let w = (reads f).positive in
    ap₂ ◌∷◌ low (written f (omega arith) ∙ ap (λ (x : ℕ). number_bytes x ++ r) high)
    ∙ ap (λ (x : List ℕ). x ++ r) (sym (bytes_next m (omega arith) b))
  where
    low : a ≡ m % 128 + 128
    low = omega arith

    high : n ≡ m / 128
    high = omega arith

-- and the written groups stand so
pub stands : (k n : ℕ) (r : List ℕ) → 1 ≤ n → n < 128 ^ k → n < 2 ^ 28 → Fewest k (number_bytes n ++ r) n r
stands zero n r p h b = absurd (omega arith)
stands (suc k) n r p h b = step (lt_or_le n 128) (stands k (n / 128) r)
  where
    step : (n < 128) ⊎ (128 ≤ n) → (1 ≤ n / 128 → n / 128 < 128 ^ k → n / 128 < 2 ^ 28 → Fewest k (number_bytes (n / 128) ++ r) (n / 128) r)
        → Fewest (suc k) (number_bytes n ++ r) n r
    step (inl l) above = rw (bytes_last n l) (last p l)
    step (inr l) above =
        rw (bytes_next n l b)
        (next {a = n % 128 + 128} {n = n / 128} {m = n} (omega arith) (omega arith) (omega arith) (above (omega arith) (omega (arith, pow-suc 128 k)) (omega arith)))

pub fewest_lt : {k : ℕ} {l : List ℕ} {n : ℕ} {r : List ℕ} → Fewest k l n r → n < 128 ^ k
fewest_lt (last {k} {a} p h) = omega (arith, pow-suc 128 k, one-le-pow k 128 (omega arith))
fewest_lt (next {k} p h e f) = omega (arith, pow-suc 128 k, fewest_lt f)

-- a run of bytes with bit 7 set that ends below k, in a byte that is not 0
pub found : (k : ℕ) (l : List ℕ) → are_bytes l ≡ true → run (take k l) < k → run (take k l) < length l → 1 ≤ get_or l (run (take k l)) 0
    → (n : ℕ) × (r : List ℕ) × Fewest k l n r
found zero l b few whole nonzero = absurd (omega arith)
found (suc k) [] b few whole nonzero = absurd (omega arith)
found (suc k) (a ∷ l) b few whole nonzero =
    step (leb 128 a) refl few whole nonzero (found k l (and_right (ltb a 256) (are_bytes l) b))
  where
    byte : a < 256
    byte = ltb-true a 256 (and_left (ltb a 256) (are_bytes l) b)

    step : (t : Bool) → leb 128 a ≡ t → cond t (suc (run (take k l))) 0 < suc k → cond t (suc (run (take k l))) 0 < suc (length l)
        → 1 ≤ get_or (a ∷ l) (cond t (suc (run (take k l))) 0) 0
        → (run (take k l) < k → run (take k l) < length l → 1 ≤ get_or l (run (take k l)) 0 → (n : ℕ) × (r : List ℕ) × Fewest k l n r)
        → (n : ℕ) × (r : List ℕ) × Fewest (suc k) (a ∷ l) n r
    step true e f w z above =
        let x = above (le_of_suc-le-suc f) (le_of_suc-le-suc w) z in
        (a % 128 + 128 * x.0, x.1, next (leb-true 128 a e) byte refl x.2)
    step false e f w z above = (a, l, last z (leb-false 128 a e))
