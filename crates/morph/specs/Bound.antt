-- Counting changes over a finite list of sites.
--     differing X Y l     how many of the sites l have different values in X and Y
--     total f n           f 0 + f 1 + .. + f (n − 1)
--     Bound 𝓢             what is counted: the sites that differ from the first image are the changes of all passes together,
--                         and at most as many passes change a site of l as l has sites
-- Assumes nothing.
use Rattle.std.specs.Prelude.{not, List, ◌≡◌, ℕ, zero, suc, ◌+◌, ◌≤◌, length}
use Rattle.seq.specs.Lists.{any, count, same}
use Rattle.seq.specs.Tab.{up_to}
use Rattle.morph.specs.System.{System, Image}
use Rattle.morph.specs.Operator.{iterate, changes}

unfoldable pub differing : {S : Type 0} → Image S → Image S → List S → ℕ
differing X Y l = count (λ p. not (same (X p) (Y p))) l

abbrev pub total : (ℕ → ℕ) → ℕ → ℕ
total f zero = 0
total f (suc n) = total f n + f n

pub record Bound {S : Type 0} (𝓢 : System S) : Type 0 where
  pub distance : (X : Image S) (l : List S) (n : ℕ)
      → differing X (iterate 𝓢 n X) l ≡ total (λ i. differing (iterate 𝓢 i X) (iterate 𝓢 (suc i) X) l) n
  pub passes : (X : Image S) (l : List S) (n : ℕ) → count (λ i. any (changes 𝓢 X i) l) (up_to n) ≤ length l
