-- Order is kept.
--     held_order    a site that is held in one image gets the value in the other too
--     next_order    one pass
--     order         the theorem: any number of passes
-- Assumes nothing.
use mathlib.Core.Bool.{Bool, true, false}
use mathlib.Core.Logic.{⊎_elim}
use mathlib.Core.Path.{◌≡◌, sym, ◌∙◌}
use Prim.Native.Nat.{zero, suc}
use Rattle.seq.proofs.Lists.{clash, either, not_true_false}
use Rattle.morph.specs.System.{System, Image, Lawful}
use Rattle.morph.specs.Operator.{held, next, iterate}
use Rattle.morph.specs.Order.{Below, Order}
use Rattle.morph.proofs.Operator.{next_cases, opened_mono, held_mono, next_held}

module _ {S : Type 0} {𝓢 : System S} (law : Lawful 𝓢) where
  -- if Y has the value v wherever X has it, then what is held for v in X is held for v in Y, and gets v there
  held_order : (X Y : Image S) (v : Bool) → ((q : S) → X q ≡ v → Y q ≡ v) → (p : S) → held 𝓢 X v p ≡ true → next 𝓢 Y p ≡ v
  held_order X Y v h p k = next_held law Y v p (held_mono 𝓢 X Y v (opened_mono 𝓢 X Y v h) p k)

  -- a site that is black after a pass on X was turned, and so it is in Y; or it stayed black, and is black in Y and not turned,
  -- for what is held for white in Y is held for white in X
  pub next_order : (X Y : Image S) → Below X Y → Below (next 𝓢 X) (next 𝓢 Y)
  next_order X Y below p h = ⊎_elim stay turn (next_cases 𝓢 X p)
    where
      white : (q : S) → Y q ≡ false → X q ≡ false
      white q e = not_true_false (X q) (λ d. clash (below q d) e)

      turn : held 𝓢 X (next 𝓢 X p) p ≡ true → next 𝓢 Y p ≡ true
      turn k = held_order X Y true below p (rw h at k)

      turned : held 𝓢 Y (next 𝓢 Y p) p ≡ true → next 𝓢 Y p ≡ true
      turned k = ⊎_elim (λ b. b) (λ w. clash h (held_order Y X false white p (rw w at k))) (either (next 𝓢 Y p))

      stay : next 𝓢 X p ≡ X p → next 𝓢 Y p ≡ true
      stay e = ⊎_elim (λ d. d ∙ below p (sym e ∙ h)) turned (next_cases 𝓢 Y p)

  -- by induction on the passes
  pub order : Order 𝓢
  order X Y below zero = below
  order X Y below (suc n) = next_order (iterate 𝓢 n X) (iterate 𝓢 n Y) (order X Y below n)
