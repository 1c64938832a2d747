-- The modified operator, as one pass of 01 reads.
--     opened 𝓢 X v p     p lies in a block whose sites all have value v (01: covered for v)
--     held 𝓢 X v p       some element at p has all its sites opened for v
--     next 𝓢 X           one pass: a site changes exactly when it is held for the other value
--     iterate 𝓢 n X      n passes
--     changes 𝓢 X n p    pass n, counted from 0, changes p
-- Assumes nothing.
use Rattle.std.specs.Prelude.{Bool, cond, not, ℕ, zero, suc}
use Rattle.seq.specs.Lists.{any, all, same}
use Rattle.morph.specs.System.{System, Image}

unfoldable pub opened : {S : Type 0} → System S → Image S → Bool → S → Bool
opened 𝓢 X v p = any (all (λ q. same (X q) v)) (𝓢.blocks p)

unfoldable pub held : {S : Type 0} → System S → Image S → Bool → S → Bool
held 𝓢 X v p = any (all (opened 𝓢 X v)) (𝓢.hits p)

unfoldable pub next : {S : Type 0} → System S → Image S → Image S
next 𝓢 X p = cond (held 𝓢 X (not (X p)) p) (not (X p)) (X p)

abbrev pub iterate : {S : Type 0} → System S → ℕ → Image S → Image S
iterate 𝓢 zero X = X
iterate 𝓢 (suc n) X = next 𝓢 (iterate 𝓢 n X)

unfoldable pub changes : {S : Type 0} → System S → Image S → ℕ → S → Bool
changes 𝓢 X n p = not (same (iterate 𝓢 n X p) (iterate 𝓢 (suc n) X p))
