-- Counting what goes from one value to another.
--     counted_few                                 no more than there are pixels
--     counted_none, counted_one, counted_join     none, one pixel more, one stretch behind the other
--     counted_all                                 the count, however it is written
--     counted_parts                               it is what is added and removed from one part of a list to another's
-- Assumes nothing.
use mathlib.Core.Bool.{Bool, ◌&&◌}
use mathlib.Core.List.{List}
use mathlib.Core.Path.{◌≡◌, refl, sym, ap, ap₂, ◌∙◌, subst}
use Prim.Native.Nat.{ℕ, ◌+◌, ◌≤◌}
use native.Mathlib.Numerals.{add-one}
use native.Mathlib.Omega.{arith}
use lib.Dec.{eqb}
use lib.ListN.{length, get_or, take, drop, length-drop}
use lib.Seq.{length-take-le, get_or-take, get_or-drop}
use Rattle.filter.specs.Code.Strip.{gained, lost, Counted}
use Rattle.operator.specs.Image.{added, removed}
use Rattle.seq.specs.Lists.{one, count}
use Rattle.seq.specs.Tab.{up_to}
use Rattle.seq.proofs.Lists.{count_ext, count_le}
use Rattle.seq.proofs.Members.{count_add}
use Rattle.seq.proofs.Tab.{count_up_to, up_to_elim, length_up_to}

-- the pairs of pixels that pass a test
module _ (q : ℕ → ℕ → Bool) (a b : List ℕ) where
  abbrev pairs : ℕ → ℕ → ℕ → ℕ
  pairs i j n = count (λ k. q (get_or a (i + k) 0) (get_or b (j + k) 0)) (up_to n)

  pairs_none : (i j : ℕ) → pairs i j 0 ≡ 0
  unfolding up_to
  pairs_none i j = refl

  pairs_more : (i j n : ℕ) → pairs i j (n + 1) ≡ pairs i j n + one (q (get_or a (i + n) 0) (get_or b (j + n) 0))
  pairs_more i j n = rw add-one (count_up_to (λ k. q (get_or a (i + k) 0) (get_or b (j + k) 0)) n)

  pairs_join : (i j m n : ℕ) → pairs i j (m + n) ≡ pairs i j m + pairs (i + m) (j + m) n
  pairs_join i j m n =
      count_add (λ k. q (get_or a (i + k) 0) (get_or b (j + k) 0)) m n
      ∙ ap (λ (x : ℕ). pairs i j m + x) (count_ext _ _ (up_to n) (λ k _. ap₂ q (ap (λ (x : ℕ). get_or a x 0) (omega arith)) (ap (λ (x : ℕ). get_or b x 0) (omega arith))))

  pairs_few : (i j n : ℕ) → pairs i j n ≤ n
  pairs_few i j n = omega (arith, count_le (λ k. q (get_or a (i + k) 0) (get_or b (j + k) 0)) (up_to n), length_up_to n)

  -- of the parts that the pixels stand in
  pairs_parts : (i j n : ℕ) → i + n ≤ length a
      → pairs i j n ≡ count (λ k. q (get_or (take n (drop i a)) k 0) (get_or (take n (drop j b)) k 0)) (up_to (length (take n (drop i a))))
  pairs_parts i j n l =
      rw (length-take-le n (drop i a) (omega (arith, length-drop i a)))
      (count_ext _ _ (up_to n) (λ k m. let p = up_to_elim n m in sym (ap₂ q (get_or-take n (drop i a) k 0 p ∙ get_or-drop i a k 0) (get_or-take n (drop j b) k 0 p ∙ get_or-drop j b k 0))))

-- from 0 to 1, and from 1 to 0
abbrev gain : ℕ → ℕ → Bool
gain x y = eqb x 0 && eqb y 1

abbrev loss : ℕ → ℕ → Bool
loss x y = eqb x 1 && eqb y 0

pub counted_none : (a : List ℕ) (i : ℕ) (b : List ℕ) (j : ℕ) → Counted a i b j 0 0 0
unfolding gained lost
counted_none a i b j = record { more = sym (pairs_none gain a b i j); less = sym (pairs_none loss a b i j) }

module _ {a : List ℕ} {i : ℕ} {b : List ℕ} {j n x y : ℕ} (s : Counted a i b j n x y) where
  pub counted_few : (x ≤ n) × (y ≤ n)
  unfolding gained lost
  counted_few = (omega (arith, s.more, pairs_few gain a b i j n), omega (arith, s.less, pairs_few loss a b i j n))

  pub counted_one : {u v : ℕ} → u ≡ one (gain (get_or a (i + n) 0) (get_or b (j + n) 0)) → v ≡ one (loss (get_or a (i + n) 0) (get_or b (j + n) 0))
      → Counted a i b j (n + 1) (x + u) (y + v)
  unfolding gained lost
  counted_one p q = record { more = omega (arith, s.more, pairs_more gain a b i j n); less = omega (arith, s.less, pairs_more loss a b i j n) }

  pub counted_join : {m u v : ℕ} → Counted a (i + n) b (j + n) m u v → Counted a i b j (n + m) (x + u) (y + v)
  unfolding gained lost
  counted_join {m} r = record {
    more = omega (arith, s.more, r.more, pairs_join gain a b i j n m);
    less = omega (arith, s.less, r.less, pairs_join loss a b i j n m);
  }

  pub counted_all : (m : ℕ) → n ≡ m → Counted a i b j m x y
  counted_all m e = subst (λ (k : ℕ). Counted a i b j k x y) e s

  pub counted_parts : i + n ≤ length a → (x ≡ added (take n (drop i a)) (take n (drop j b))) × (y ≡ removed (take n (drop i a)) (take n (drop j b)))
  unfolding gained lost added removed
  counted_parts l = (s.more ∙ pairs_parts gain a b i j n l, s.less ∙ pairs_parts loss a b i j n l)
