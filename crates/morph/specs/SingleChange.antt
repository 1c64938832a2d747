-- A site changes in at most one pass.
--     SingleChange 𝓢    two passes that change a site are the same pass
-- Assumes nothing.
use Rattle.std.specs.Prelude.{true, ◌≡◌, ℕ}
use Rattle.morph.specs.System.{System, Image}
use Rattle.morph.specs.Operator.{changes}

abbrev pub SingleChange : {S : Type 0} → System S → Type 0
SingleChange {S} 𝓢 = (X : Image S) (p : S) (i j : ℕ) → changes 𝓢 X i p ≡ true → changes 𝓢 X j p ≡ true → i ≡ j
