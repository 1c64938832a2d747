-- The operator as the report writes it (000, Propositions 4.3, 5.3 and 6.7): π = (id ∧ ψβ) ∨ ψα.
--     erosions 𝓢 X, dilations 𝓢 X   ⋁ ε_A over the elements A, and its negative ⋀ δ_Ǎ
--     psi 𝓢     ψ = (id ∧ ⋀ δ_Ǎ) ∨ ⋁ ε_A, the centre of the two (5.9)
--     plain 𝓢   01's plain rule: a site changes exactly when some element has all its sites of the other value
--     alpha 𝓢   α, the opening by the blocks
--     beta 𝓢    β, the negative of α
--     modified 𝓢   π = (id ∧ ψβ) ∨ ψα
--     Heijmans 𝓢   what Proposition 6.7 asks of ψ and α, and that `next` is π
-- Assumes nothing.
use Rattle.std.specs.Prelude.{cond, not, ◌&&◌, ◌||◌, ◌≡◌}
use Rattle.seq.specs.Lists.{any, all, same}
use Rattle.morph.specs.System.{System, Image}
use Rattle.morph.specs.Operator.{next}
use Rattle.morph.specs.Exchange.{complement}
use Rattle.morph.specs.Order.{Below}

unfoldable pub erosions : {S : Type 0} → System S → Image S → Image S
erosions 𝓢 X p = any (all X) (𝓢.hits p)

unfoldable pub dilations : {S : Type 0} → System S → Image S → Image S
dilations 𝓢 X p = all (any X) (𝓢.hits p)

unfoldable pub psi : {S : Type 0} → System S → Image S → Image S
psi 𝓢 X p = (X p && dilations 𝓢 X p) || erosions 𝓢 X p

unfoldable pub plain : {S : Type 0} → System S → Image S → Image S
plain 𝓢 X p = cond (any (all (λ q. same (X q) (not (X p)))) (𝓢.hits p)) (not (X p)) (X p)

unfoldable pub alpha : {S : Type 0} → System S → Image S → Image S
alpha 𝓢 X p = any (all X) (𝓢.blocks p)

unfoldable pub beta : {S : Type 0} → System S → Image S → Image S
beta 𝓢 X = complement (alpha 𝓢 (complement X))

unfoldable pub modified : {S : Type 0} → System S → Image S → Image S
modified 𝓢 X p = (X p && psi 𝓢 (beta 𝓢 X) p) || psi 𝓢 (alpha 𝓢 X) p

pub record Heijmans {S : Type 0} (𝓢 : System S) : Type 0 where
  pub psi_plain : (X : Image S) (p : S) → plain 𝓢 X p ≡ psi 𝓢 X p
  pub psi_increasing : (X Y : Image S) → Below X Y → Below (psi 𝓢 X) (psi 𝓢 Y)
  pub psi_self_dual : (X : Image S) (p : S) → psi 𝓢 (complement X) p ≡ not (psi 𝓢 X p)
  pub alpha_increasing : (X Y : Image S) → Below X Y → Below (alpha 𝓢 X) (alpha 𝓢 Y)
  pub alpha_below : (X : Image S) → Below (alpha 𝓢 X) X
  pub alpha_idempotent : (X : Image S) (p : S) → alpha 𝓢 (alpha 𝓢 X) p ≡ alpha 𝓢 X p
  pub alpha_psi : (X : Image S) → Below (alpha 𝓢 X) (psi 𝓢 X)
  pub next_modified : (X : Image S) (p : S) → next 𝓢 X p ≡ modified 𝓢 X p
