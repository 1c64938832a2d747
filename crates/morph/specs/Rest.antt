-- Fixed points of the operator.
--     Stable 𝓢 X      one pass leaves X as it is (01: at rest)
--     rested 𝓢 l X    as many passes as there are sites
--     Rest 𝓢 l        X comes to rest within as many passes as there are sites, stays there, and exchange and order carry over
-- Assumes nothing.
use Rattle.std.specs.Prelude.{not, List, ◌≡◌, ℕ, ◌≤◌, length}
use Rattle.morph.specs.System.{System, Image}
use Rattle.morph.specs.Operator.{next, iterate}
use Rattle.morph.specs.Exchange.{complement}
use Rattle.morph.specs.Order.{Below}

abbrev pub Stable : {S : Type 0} → System S → Image S → Type 0
Stable {S} 𝓢 X = (p : S) → next 𝓢 X p ≡ X p

unfoldable pub rested : {S : Type 0} → System S → List S → Image S → Image S
rested 𝓢 sites X = iterate 𝓢 (length sites) X

pub record Rest {S : Type 0} (𝓢 : System S) (sites : List S) : Type 0 where
  -- a fixed point stays
  pub stays : (X : Image S) (n m : ℕ) → Stable 𝓢 (iterate 𝓢 n X) → n ≤ m → (p : S) → iterate 𝓢 m X p ≡ iterate 𝓢 n X p
  -- there is one after as many passes as there are sites
  pub reached : (X : Image S) → Stable 𝓢 (rested 𝓢 sites X)
  -- it is the first image that a pass leaves as it is, and every later one
  pub first : (X : Image S) (n : ℕ) → Stable 𝓢 (iterate 𝓢 n X) → (p : S) → rested 𝓢 sites X p ≡ iterate 𝓢 n X p
  pub exchange : (X : Image S) (p : S) → rested 𝓢 sites (complement X) p ≡ not (rested 𝓢 sites X p)
  pub order : (X Y : Image S) → Below X Y → Below (rested 𝓢 sites X) (rested 𝓢 sites Y)
