-- Colours exchanged come out exchanged (000: the operator is self-dual).
--     complement X    black and white exchanged
--     Exchange 𝓢      after any number of passes
-- Assumes nothing.
use Rattle.std.specs.Prelude.{not, ◌≡◌, ℕ}
use Rattle.morph.specs.System.{System, Image}
use Rattle.morph.specs.Operator.{iterate}

abbrev pub complement : {S : Type 0} → Image S → Image S
complement X p = not (X p)

abbrev pub Exchange : {S : Type 0} → System S → Type 0
Exchange {S} 𝓢 = (X : Image S) (n : ℕ) (p : S) → iterate 𝓢 n (complement X) p ≡ not (iterate 𝓢 n X p)
