-- What the library's iterators give, in the words of the definitions.
--     position_first     what `position` finds in a list is what a search of its places finds
--     found_below        a place that is found is below the bound
--     sum_same           the sum of a list
-- Assumes nothing.
use Rattle.std.specs.List.{position, position_or_len, sum}
use Rattle.std.specs.Prelude.{Option, None, Some, option_map, IfSome}
use Rattle.std.proofs.lemmas.List.Sums.{sum_by-cons}
use mathlib.Core.Bool.{Bool, true, false, cond, not}
use mathlib.Core.List.{List, [], ◌∷◌}
use mathlib.Core.Path.{◌≡◌, refl, ap, ◌∙◌}
use Prim.Native.Nat.{ℕ, suc, ◌+◌, ◌≤◌, ◌<◌}
use native.Mathlib.Omega.{arith}
use borrow.Author.Tests.{lt-ltb}
use lib.Dec.{ltb, leb-suc-suc}
use lib.ListN.{length, get_or}
use Rattle.seq.proofs.Tab.{first_found}
use Rattle.seq.specs.Lists.{sum_of}
use Rattle.seq.specs.Tab.{first, first_or}

-- the list is one longer at its front
one_more : (t : Bool) (n m : ℕ)
    → cond (ltb (cond (not t) (1 + n) 0) (suc m)) (Some (cond (not t) (1 + n) 0)) None ≡ first_or t (cond (ltb n m) (Some n) None)
one_more true n m = rw (lt-ltb 0 (suc m) (omega arith))
one_more false n m = let e : 1 + n ≡ suc n = omega arith in rw (e, leb-suc-suc) (step (ltb n m))
  where
    step : (b : Bool) → cond b (Some (suc n)) None ≡ option_map suc (cond b (Some n) None)
    step true = refl
    step false = refl

pub position_first : {X : Type 0} (p : X → Bool) (xs : List X) (d : X) → position p xs ≡ first (λ i. p (get_or xs i d)) (length xs)
position_first p [] d = refl
position_first p (x ∷ xs) d = one_more (p x) (position_or_len p xs) (length xs) ∙ ap (first_or (p x)) (position_first p xs d)

pub found_below : (p : ℕ → Bool) (n m : ℕ) → n ≤ m → IfSome (first p n) (λ i. i < m)
found_below p n m l = step (first p n) refl
  where
    step : (o : Option ℕ) → first p n ≡ o → IfSome o (λ i. i < m)
    step None q = tt
    step (Some i) q = omega (arith, (first_found p n i q).below)

pub sum_same : (xs : List ℕ) → sum xs ≡ sum_of xs
sum_same [] = refl
sum_same (x ∷ xs) = sum_by-cons (λ v. v) x xs ∙ ap (λ (n : ℕ). x + n) (sum_same xs)
