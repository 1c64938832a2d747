-- Order is kept (000: the operator is increasing).
--     Below X Y    whatever is black in X is black in Y
--     Order 𝓢      after any number of passes too
-- Assumes nothing.
use Rattle.std.specs.Prelude.{true, ◌≡◌, ℕ}
use Rattle.morph.specs.System.{System, Image}
use Rattle.morph.specs.Operator.{iterate}

abbrev pub Below : {S : Type 0} → Image S → Image S → Type 0
Below {S} X Y = (p : S) → X p ≡ true → Y p ≡ true

abbrev pub Order : {S : Type 0} → System S → Type 0
Order {S} 𝓢 = (X Y : Image S) → Below X Y → (n : ℕ) → Below (iterate 𝓢 n X) (iterate 𝓢 n Y)
