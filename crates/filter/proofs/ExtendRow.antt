-- The edge rule in one row of the opening map: column 64 l + k − 8 is byte k of lane l, and the last column is column q of band L.
--     within_true, within_low, within_high     a place of a frame lies inside along one side, or before, or behind it
--     Lefted, lefted            the columns before the first stand for it
--     Ended, ended              the two columns behind the last one stand for it, in its own band
--     Edged, uncrossed, crossed       and in the band before, where the last column is its band's first
--     widened                   so every window of the row reads what it is to read
--     widening, widening_crossed      the row is widened by two stores, or by three
-- Assumes nothing.
use mathlib.Core.Bool.{Bool, true, false, ◌&&◌, and-false}
use mathlib.Core.List.{List}
use mathlib.Core.Logic.{⊎_elim}
use mathlib.Core.Path.{◌≡◌, refl, sym, ap, ap₂, ◌∙◌}
use Prim.Native.Nat.{ℕ, zero, suc, ◌+◌, ◌-◌, ◌*◌, ◌≤◌, ◌<◌}
use native.Mathlib.Omega.{arith}
use borrow.Author.Tests.{lt-ltb, le-ltb, le-leb, lt-leb}
use lib.Dec.{leb, ltb}
use lib.ListN.{get_or}
use Rattle.seq.specs.Bits.{bit}
use Rattle.seq.proofs.Tests.{lt_or_le}
use Rattle.operator.specs.Window.{clamp}
use Rattle.filter.specs.Code.Plane.{band, halo, within}
use Rattle.filter.specs.Code.Extend.{RowOf, Widened, Joined, Widening}
use Rattle.filter.proofs.ExtendLanes.{eq_or_not}

pub within_true : (m size i : ℕ) → m ≤ i → i < size + m → within m size i ≡ true
within_true m size i p q = ap₂ ◌&&◌ (le-leb m i p) (lt-ltb (i - m) size (omega arith))

pub within_low : (m size i : ℕ) → i < m → within m size i ≡ false
within_low m size i p = ap (λ (t : Bool). t && ltb (i - m) size) (lt-leb m i p)

pub within_high : (m size i : ℕ) → size + m ≤ i → within m size i ≡ false
within_high m size i p = ap (λ (t : Bool). leb m i && t) (le-ltb (i - m) size (omega arith)) ∙ and-false (leb m i)

-- behind the frame's breadth only the far side counts
within_far : (m size i : ℕ) → m ≤ i → within m size i ≡ ltb i (size + m)
within_far m size i p =
    ⊎_elim
    (λ a. within_true m size i p a ∙ sym (lt-ltb i (size + m) a))
    (λ a. within_high m size i a ∙ sym (le-ltb i (size + m) a))
    (lt_or_le i (size + m))

module _ (w : ℕ) (P : ℕ → ℕ → Bool) (at : ℕ) where
  -- bit v of lane l in byte k of the row
  abbrev Has : List ℕ → ℕ → ℕ → ℕ → Bool → Type 0
  Has m k l v b = bit (get_or m (at + k) 0) (2 * l + v) ≡ b

  pub record Lefted (m : List ℕ) : Type 0 where
    pub coded : (k l v : ℕ) → 6 ≤ k → k < 76 → l < 4 → v < 2 → Has m k l v (ltb (band * l + k) (w + halo) && P v (band * l + k - halo))

  pub lefted : {d m : List ℕ} → 1 ≤ w → RowOf w P d at → Joined d m (at + 8) 0 (at + 8 - 2) 0 → Lefted m
  lefted {d} {m} w1 r j = record { coded = coded }
    where
      -- what is not stored
      kept : (k l v : ℕ) → 6 ≤ k → k < 76 → l < 4 → v < 2 → 8 ≤ band * l + k → bit (get_or m (at + k) 0) (2 * l + v) ≡ bit (get_or d (at + k) 0) (2 * l + v)
          → Has m k l v (ltb (band * l + k) (w + halo) && P v (band * l + k - halo))
      kept k l v a b c u h e =
          e ∙ r.coded k l v (omega arith) b c u ∙ ap (λ (t : Bool). t && P v (band * l + k - halo)) (within_far halo w (band * l + k) h)

      first : (k v : ℕ) → 6 ≤ k → k < 8 → v < 2 → Has m k 0 v (ltb (band * 0 + k) (w + halo) && P v (band * 0 + k - halo))
      first k v a b u =
          let z : band * 0 + k - halo ≡ 0 = omega arith in
          j.here (at + k) v (omega arith) (omega arith) u
          ∙ rw (
            r.coded k 0 v (omega arith) (omega arith) (omega arith) u,
            r.coded 8 0 v (omega arith) (omega arith) (omega arith) u,
            within_low halo w (band * 0 + k) (omega arith),
            within_true halo w (band * 0 + 8) (omega arith) (omega arith),
            lt-ltb (band * 0 + k) (w + halo) (omega arith),
            z,
          ) refl

      coded : (k l v : ℕ) → 6 ≤ k → k < 76 → l < 4 → v < 2 → Has m k l v (ltb (band * l + k) (w + halo) && P v (band * l + k - halo))
      coded k zero v a b c u =
          ⊎_elim (λ h. first k v a h u)
          (λ h. kept k 0 v a b c u (omega arith) (ap (λ (x : ℕ). bit x (2 * 0 + v)) (j.after (at + k) (omega arith))))
          (lt_or_le k 8)
      coded k (suc l) v a b c u = kept k (suc l) v a b c u (omega arith) (j.others (at + k) (suc l) v u (omega arith))

  module _ (L q : ℕ) (e : w ≡ band * L + q + 1) (low : L < 4) (near : q < band) where
    abbrev Inner : List ℕ → Type 0
    Inner m = (k l v : ℕ) → 6 ≤ k → k < 76 → l < 4 → v < 2 → band * l + k < w + halo → Has m k l v (P v (band * l + k - halo))

    -- the two columns behind the last one, in its own band
    abbrev Outer : List ℕ → Type 0
    Outer m = (k v : ℕ) → halo + q < k → k < halo + q + 3 → v < 2 → Has m k L v (P v (w - 1))

    -- the column behind the last one, in the band before
    abbrev Across : List ℕ → Type 0
    Across m = (v : ℕ) → q ≡ 0 → 1 ≤ L → v < 2 → Has m 73 (L - 1) v (P v (w - 1))

    -- what is stored behind the last column changes none inside
    inner_kept : {d m : List ℕ} {from lane to n : ℕ} → ((k : ℕ) → band * n + k < w + halo → at + k < to) → Inner d → Joined d m from lane to n → Inner m
    inner_kept {n = n} z f j k l v a b c u h =
        ⊎_elim
        (λ g. ap (λ (x : ℕ). bit x (2 * l + v)) (j.before (at + k) (z k (rw g at h))))
        (j.others (at + k) l v u)
        (eq_or_not l n)
        ∙ f k l v a b c u h

    lefted_inner : {d : List ℕ} → Lefted d → Inner d
    lefted_inner f k l v a b c u h = f.coded k l v a b c u ∙ rw (lt-ltb (band * l + k) (w + halo) h) refl

    pub record Ended (m : List ℕ) : Type 0 where
      pub inner : Inner m
      pub outer : Outer m
      pub beyond : (k l v : ℕ) → 6 ≤ k → k < 76 → l < 4 → v < 2 → (l ≡ L → ⊥) → w + halo ≤ band * l + k → Has m k l v false

    pub ended : {d m : List ℕ} → Lefted d → Joined d m (at + 8 + q) L (at + 8 + q + 1) L → Ended m
    ended {d} {m} f j = record { inner = inner_kept (λ k h. omega arith) (lefted_inner f) j; outer = outer; beyond = beyond }
      where
        outer : Outer m
        outer k v a b u =
            let i : at + 8 + q ≡ at + (8 + q) = omega arith in
            let z : band * L + (8 + q) - halo ≡ w - 1 = omega arith in
            j.here (at + k) v (omega arith) (omega arith) u
            ∙ rw (
              i,
              f.coded k L v (omega arith) (omega arith) low u,
              lefted_inner f (8 + q) L v (omega arith) (omega arith) low u (omega arith),
              le-ltb (band * L + k) (w + halo) (omega arith),
              z,
            ) refl

        beyond : (k l v : ℕ) → 6 ≤ k → k < 76 → l < 4 → v < 2 → (l ≡ L → ⊥) → w + halo ≤ band * l + k → Has m k l v false
        beyond k l v a b c u g h = j.others (at + k) l v u g ∙ f.coded k l v a b c u ∙ rw (le-ltb (band * l + k) (w + halo) h) refl

    pub record Edged (m : List ℕ) : Type 0 where
      pub inner : Inner m
      pub outer : Outer m
      pub across : Across m

    pub uncrossed : {m : List ℕ} → Ended m → (q ≡ 0 → 1 ≤ L → ⊥) → Edged m
    uncrossed f n = record { inner = f.inner; outer = f.outer; across = λ v a b u. absurd (n a b) }

    pub crossed : {d m : List ℕ} → Ended d → q ≡ 0 → 1 ≤ L → Joined d m (at + 8) L (at + 8 + 64 + 1) (L - 1) → Edged m
    crossed {d} {m} f z p j = record { inner = inner_kept (λ k h. omega arith) f.inner j; outer = outer; across = across }
      where
        outer : Outer m
        outer k v a b u = j.others (at + k) L v u (omega arith) ∙ f.outer k v a b u

        across : Across m
        across v _ _ u =
            let s : band * L + 8 - halo ≡ w - 1 = omega arith in
            j.here (at + 73) v (omega arith) (omega arith) u
            ∙ rw (
              f.beyond 73 (L - 1) v (omega arith) (omega arith) (omega arith) u (omega arith) (omega arith),
              f.inner 8 L v (omega arith) (omega arith) low u (omega arith),
              s,
            ) refl

    pub widened : {m : List ℕ} → Edged m → Widened w P m at
    widened {m} f = record { coded = coded }
      where
        coded : (k l v x : ℕ) → k < band → l < 4 → v < 2 → x < 5 → band * l + k < w
            → bit (get_or m (at + (6 + k) + x) 0) (2 * l + v) ≡ P v (clamp w (band * l + k + x))
        coded k l v x a b u c h = rw i (⊎_elim inside (λ g. ⊎_elim (before g) (last g) (lt_or_le l L)) (lt_or_le (band * l + (6 + k + x)) (w + halo)))
          where
            Right : Type 0
            Right = Has m (6 + k + x) l v (P v (clamp w (band * l + k + x)))

            i : at + (6 + k) + x ≡ at + (6 + k + x)
            i = omega arith

            inside : band * l + (6 + k + x) < w + halo → Right
            inside g = f.inner (6 + k + x) l v (omega arith) (omega arith) b u g ∙ ap (P v) (omega arith)

            before : w + halo ≤ band * l + (6 + k + x) → l < L → Right
            before g o =
                let s : 6 + k + x ≡ 73 = omega arith in
                let t : l ≡ L - 1 = omega arith in
                let z : w - 1 ≡ clamp w (band * l + k + x) = omega arith in
                rw (s, t) (f.across v (omega arith) (omega arith) u) ∙ ap (P v) z

            last : w + halo ≤ band * l + (6 + k + x) → L ≤ l → Right
            last g o =
                let t : l ≡ L = omega arith in
                let z : w - 1 ≡ clamp w (band * l + k + x) = omega arith in
                rw t (f.outer (6 + k + x) v (omega arith) (omega arith) u) ∙ ap (P v) z

module _ (L q at : ℕ) (d : List ℕ) (low : L < 4) (near : q < band) where
  stages : (P : ℕ → ℕ → Bool) {a b : List ℕ} → RowOf (band * L + q + 1) P d at → Joined d a (at + 8) 0 (at + 8 - 2) 0
      → Joined a b (at + 8 + q) L (at + 8 + q + 1) L → Ended (band * L + q + 1) P at L q refl low near b
  stages P r i j = ended _ P at L q refl low near (lefted _ P at (omega arith) r i) j

  pub widening : {a b : List ℕ} → (q ≡ 0 → 1 ≤ L → ⊥) → Joined d a (at + 8) 0 (at + 8 - 2) 0
      → Joined a b (at + 8 + q) L (at + 8 + q + 1) L → Widening (band * L + q + 1) d b at
  widening n i j =
      record {
        long = j.long ∙ i.long;
        widened = λ P r. widened _ P at L q refl low near (uncrossed _ P at L q refl low near (stages P r i j) n);
        before = λ k p. j.before k (omega arith) ∙ i.before k (omega arith);
        after = λ k p. j.after k (omega arith) ∙ i.after k (omega arith);
      }

  pub widening_crossed : {a b c : List ℕ} → q ≡ 0 → 1 ≤ L → Joined d a (at + 8) 0 (at + 8 - 2) 0
      → Joined a b (at + 8 + q) L (at + 8 + q + 1) L → Joined b c (at + 8) L (at + 8 + 64 + 1) (L - 1) → Widening (band * L + q + 1) d c at
  widening_crossed z p i j k =
      record {
        long = k.long ∙ j.long ∙ i.long;
        widened = λ P r. widened _ P at L q refl low near (crossed _ P at L q refl low near (stages P r i j) z p k);
        before = λ m s. k.before m (omega arith) ∙ j.before m (omega arith) ∙ i.before m (omega arith);
        after = λ m s. k.after m (omega arith) ∙ j.after m (omega arith) ∙ i.after m (omega arith);
      }
