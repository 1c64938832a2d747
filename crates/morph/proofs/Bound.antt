-- The changes of all passes, counted over a list of sites.
--     differing_le, differ_sum, differing_sum    distances: at most the sites, and how they add up
--     iterate_settled                            a site has its first value or is settled
--     distance, changing                         the changes are the distance to the first image, and at least the passes that change
--     bound                                      the theorem
-- Assumes nothing.
use mathlib.Core.Bool.{Bool, not}
use mathlib.Core.List.{List, [], ◌∷◌}
use mathlib.Core.Logic.{◌⊎◌, inl, inr, ⊎_elim}
use mathlib.Core.Path.{◌≡◌, refl, ap, ◌∙◌}
use Prim.Native.Nat.{ℕ, zero, suc, ◌+◌, ◌≤◌}
use native.Mathlib.Omega.{arith}
use lib.ListN.{length}
use Rattle.seq.specs.Lists.{any, one, count, same}
use Rattle.seq.specs.Tab.{up_to}
use Rattle.seq.proofs.Lists.{same_refl, count_le, any_count, count_none}
use Rattle.seq.proofs.Tab.{count_up_to}
use Rattle.morph.specs.System.{System, Image, Lawful}
use Rattle.morph.specs.Operator.{iterate, changes}
use Rattle.morph.specs.Bound.{differing, total, Bound}
use Rattle.morph.proofs.Operator.{next_held}
use Rattle.morph.proofs.SingleChange.{Settled, settled_next, next_settled}

-- at most all sites differ
differing_le : {S : Type 0} (X Y : Image S) (l : List S) → differing X Y l ≤ length l
unfolding differing
differing_le X Y l = count_le _ l

-- of three values in a row, two neighbours equal, the outer two differ as often as the neighbours do
differ_sum : (x y z : Bool) → (y ≡ x) ⊎ (z ≡ y) → one (not (same x z)) ≡ one (not (same x y)) + one (not (same y z))
differ_sum x y z (inl e) = rw (e, same_refl x) (omega arith)
differ_sum x y z (inr e) = rw (e, same_refl y) (omega arith)

-- so distances add up where no site changes twice
differing_sum : {S : Type 0} (X Y Z : Image S) (l : List S) → ((p : S) → (Y p ≡ X p) ⊎ (Z p ≡ Y p))
    → differing X Z l ≡ differing X Y l + differing Y Z l
unfolding differing
differing_sum X Y Z [] h = refl
differing_sum X Y Z (p ∷ l) h = omega (arith, differ_sum (X p) (Y p) (Z p) (h p), differing_sum X Y Z l h)

module _ {S : Type 0} {𝓢 : System S} (law : Lawful 𝓢) (X : Image S) where
  -- after any number of passes a site has its first value or is settled
  iterate_settled : (p : S) (n : ℕ) → (iterate 𝓢 n X p ≡ X p) ⊎ Settled 𝓢 (iterate 𝓢 n X) p
  iterate_settled p zero = inl refl
  iterate_settled p (suc n) =
      let before = iterate_settled p n in
      ⊎_elim (λ e. ⊎_elim (λ d. inl (e ∙ d)) (λ s. inr (settled_next law _ p s)) before) inr (next_settled law (iterate 𝓢 n X) p)

  -- the distance to the first image grows by the changes of each pass, since a settled site does not change
  distance : (l : List S) (n : ℕ)
      → differing X (iterate 𝓢 n X) l ≡ total (λ i. differing (iterate 𝓢 i X) (iterate 𝓢 (suc i) X) l) n
  unfolding differing
  distance l zero = count_none _ l (λ p m. ap not (same_refl (X p)))
  distance l (suc n) = omega (arith, distance l n, differing_sum X (iterate 𝓢 n X) (iterate 𝓢 (suc n) X) l once)
    where
      once : (p : S) → (iterate 𝓢 n X p ≡ X p) ⊎ (iterate 𝓢 (suc n) X p ≡ iterate 𝓢 n X p)
      once p = ⊎_elim inl (λ s. inr (next_held law (iterate 𝓢 n X) _ p s)) (iterate_settled p n)

  -- each pass that changes a site of l adds at least one change
  changing : (l : List S) (n : ℕ)
      → count (λ i. any (changes 𝓢 X i) l) (up_to n) ≤ total (λ i. differing (iterate 𝓢 i X) (iterate 𝓢 (suc i) X) l) n
  unfolding differing changes up_to
  changing l zero = omega arith
  changing l (suc n) =
      omega (arith, changing l n, any_count (changes 𝓢 X n) l, count_up_to (λ i. any (changes 𝓢 X i) l) n)

-- the passes that change a site are at most the changes, these are the distance, and that is at most the sites
pub bound : {S : Type 0} {𝓢 : System S} → Lawful 𝓢 → Bound 𝓢
bound {S} {𝓢} law = record {
  distance = distance law;
  passes = λ X l n. omega (arith, changing law X l n, distance law X l n, differing_le X (iterate 𝓢 n X) l);
}
