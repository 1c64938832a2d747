-- The front of a list, and one element more: where a loop that reads a list from the front stands.
--     any_append, all_append               the tests over two lists
--     all_join                             a test over joined lists, list by list
--     any_snoc, all_snoc                   one element more at a list's end
--     any_front, all_front, count_front    the tests over the front of i + 1 elements
--     sum_front                            their sum
-- Assumes nothing.
use mathlib.Core.Bool.{Bool, true, false, ◌&&◌, ◌||◌, or-false, and-true}
use mathlib.Core.List.{List, [], ◌∷◌, ◌++◌}
use mathlib.Core.Path.{◌≡◌, refl, ap, ◌∙◌}
use Prim.Native.Nat.{ℕ, ◌+◌, ◌<◌}
use native.Mathlib.Numerals.{add-one}
use native.Mathlib.Omega.{arith}
use lib.ListN.{length, get_or, take}
use lib.Seq.{take-suc}
use Rattle.seq.specs.Lists.{any, all, one, count, sum_of, join}
use Rattle.seq.proofs.Lists.{count_append, sum_of_append}

module _ {ℓ} {A : Type ℓ} (p : A → Bool) where
  pub any_append : (l k : List A) → any p (l ++ k) ≡ (any p l || any p k)
  any_append [] k = refl
  any_append (x ∷ l) k = step (p x) (any_append l k)
    where
      step : (b : Bool) → any p (l ++ k) ≡ (any p l || any p k) → (b || any p (l ++ k)) ≡ ((b || any p l) || any p k)
      step true e = refl
      step false e = e

  pub all_append : (l k : List A) → all p (l ++ k) ≡ (all p l && all p k)
  all_append [] k = refl
  all_append (x ∷ l) k = step (p x) (all_append l k)
    where
      step : (b : Bool) → all p (l ++ k) ≡ (all p l && all p k) → (b && all p (l ++ k)) ≡ ((b && all p l) && all p k)
      step true e = e
      step false e = refl

  pub all_join : (ls : List (List A)) → all p (join ls) ≡ all (all p) ls
  all_join [] = refl
  all_join (l ∷ ls) = all_append l (join ls) ∙ ap (λ (b : Bool). all p l && b) (all_join ls)

  pub any_snoc : (l : List A) (a : A) → any p (l ++ a ∷ []) ≡ (any p l || p a)
  any_snoc l a = any_append l (a ∷ []) ∙ ap (λ (b : Bool). any p l || b) (or-false (p a))

  pub all_snoc : (l : List A) (a : A) → all p (l ++ a ∷ []) ≡ (all p l && p a)
  all_snoc l a = all_append l (a ∷ []) ∙ ap (λ (b : Bool). all p l && b) (and-true (p a))

  module _ (l : List A) (i : ℕ) (d : A) (h : i < length l) where
    -- the front of i + 1 elements
    front_more : take (i + 1) l ≡ take i l ++ get_or l i d ∷ []
    front_more = rw add-one (take-suc l i d h)

    pub any_front : any p (take (i + 1) l) ≡ (any p (take i l) || p (get_or l i d))
    any_front = ap (any p) front_more ∙ any_snoc (take i l) (get_or l i d)

    pub all_front : all p (take (i + 1) l) ≡ (all p (take i l) && p (get_or l i d))
    all_front = ap (all p) front_more ∙ all_snoc (take i l) (get_or l i d)

    pub count_front : count p (take (i + 1) l) ≡ count p (take i l) + one (p (get_or l i d))
    count_front = ap (count p) front_more ∙ count_append p (take i l) (get_or l i d ∷ []) ∙ omega arith

pub sum_front : (l : List ℕ) (i : ℕ) → i < length l → sum_of (take (i + 1) l) ≡ sum_of (take i l) + get_or l i 0
sum_front l i h = rw add-one (ap sum_of (take-suc l i 0 h)) ∙ sum_of_append (take i l) (get_or l i 0 ∷ []) ∙ omega arith
