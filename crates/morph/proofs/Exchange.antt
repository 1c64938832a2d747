-- Values exchanged come out exchanged.
--     cond_exchange    a value that is turned or not
--     next_exchange    one pass
--     exchange         the theorem: any number of passes
-- Assumes nothing.
use mathlib.Core.Bool.{Bool, true, false, cond, not}
use mathlib.Core.Path.{◌≡◌, refl, ◌∙◌}
use Prim.Native.Nat.{zero, suc}
use Rattle.morph.specs.System.{System, Image}
use Rattle.morph.specs.Operator.{held, next, iterate}
use Rattle.morph.specs.Exchange.{complement, Exchange}
use Rattle.morph.proofs.Operator.{next_ext, held_exchange}

-- the exchanged value, turned or not, is the exchange of the value turned or not
pub cond_exchange : (b x : Bool) → cond b (not (not x)) (not x) ≡ not (cond b (not x) x)
cond_exchange true x = refl
cond_exchange false x = refl

module _ {S : Type 0} (𝓢 : System S) where
  -- a site is held against its exchanged value exactly when it was held against its value
  pub next_exchange : (X : Image S) (p : S) → next 𝓢 (complement X) p ≡ not (next 𝓢 X p)
  unfolding next
  next_exchange X p = rw (held_exchange 𝓢 X (not (X p)) p) (cond_exchange (held 𝓢 X (not (X p)) p) (X p))

  -- by induction on the passes
  pub exchange : Exchange 𝓢
  exchange X zero p = refl
  exchange X (suc n) p = next_ext 𝓢 _ (complement (iterate 𝓢 n X)) (exchange X n) p ∙ next_exchange (iterate 𝓢 n X) p
