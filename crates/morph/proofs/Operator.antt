-- The laws of `opened`, `held` and `next`, each said once for both values.
--     next_cases                                  a site keeps its value, or is held for the value that it gets
--     opened_ext, held_ext, next_ext, next_local  equal for images that agree, and which sites have to agree
--     opened_exchange, held_exchange              the same for exchanged values
--     opened_mono, held_mono                      kept where more sites have the value
--     opened_value, opened_meets, held_value      what has the value: an opened site, a site of each element there, an element of a held site
--     held_exclusive, opened_kept                 no site is held for two values, and no opened site against its value
--     next_held, next_opened                      a held site gets the value, an opened site keeps it
--     opened_next, held_next                      what is opened or held stays so
-- Assumes nothing.
use mathlib.Core.Bool.{Bool, true, false, cond, not}
use mathlib.Core.List.{List, Memᴰ}
use mathlib.Core.Logic.{◌⊎◌, inl, inr, ⊎_elim}
use mathlib.Core.Path.{◌≡◌, refl, sym, ap, ◌∙◌, fun_ext}
use Rattle.seq.specs.Lists.{same}
use Rattle.seq.proofs.Lists.{same_true, same_intro, same_not, any_intro, any_elim, any_ext, any_mono, all_intro, all_elim, all_ext, all_mono}
use Rattle.morph.specs.System.{System, Image, Lawful}
use Rattle.morph.specs.Operator.{opened, held, next}
use Rattle.morph.specs.Exchange.{complement}

-- a value is the one or the other
value_cases : (a b : Bool) → (a ≡ b) ⊎ (not a ≡ b)
value_cases true true = inl refl
value_cases true false = inr refl
value_cases false true = inr refl
value_cases false false = inl refl

module _ {S : Type 0} (𝓢 : System S) where
  -- a site keeps its value in a pass, or is held for the value that it gets
  pub next_cases : (X : Image S) (p : S) → (next 𝓢 X p ≡ X p) ⊎ (held 𝓢 X (next 𝓢 X p) p ≡ true)
  unfolding next
  next_cases X p = step (held 𝓢 X (not (X p)) p) refl
    where
      step : (b : Bool) → held 𝓢 X (not (X p)) p ≡ b
          → (cond b (not (X p)) (X p) ≡ X p) ⊎ (held 𝓢 X (cond b (not (X p)) (X p)) p ≡ true)
      step true h = inr h
      step false h = inl refl

  -- opened at p asks only which sites of the blocks at p have the value
  pub opened_ext : (X Y : Image S) (v w : Bool) (p : S)
      → ((T : List S) → Memᴰ T (𝓢.blocks p) → (q : S) → Memᴰ q T → same (X q) v ≡ same (Y q) w)
      → opened 𝓢 X v p ≡ opened 𝓢 Y w p
  unfolding opened
  opened_ext X Y v w p h = any_ext _ _ (𝓢.blocks p) (λ T m. all_ext _ _ T (h T m))

  -- held at p asks only which sites of the elements at p are opened
  pub held_ext : (X Y : Image S) (v w : Bool) (p : S)
      → ((A : List S) → Memᴰ A (𝓢.hits p) → (q : S) → Memᴰ q A → opened 𝓢 X v q ≡ opened 𝓢 Y w q)
      → held 𝓢 X v p ≡ held 𝓢 Y w p
  unfolding held
  held_ext X Y v w p h = any_ext _ _ (𝓢.hits p) (λ A m. all_ext _ _ A (h A m))

  -- a pass looks at p and at the blocks of the sites of the elements at p, and nowhere else
  pub next_local : (X Y : Image S) (p : S) → X p ≡ Y p
      → ((A : List S) → Memᴰ A (𝓢.hits p) → (q : S) → Memᴰ q A
      → (T : List S) → Memᴰ T (𝓢.blocks q) → (s : S) → Memᴰ s T → X s ≡ Y s)
      → next 𝓢 X p ≡ next 𝓢 Y p
  unfolding next
  next_local X Y p e h = rw (e, held_ext X Y v v p (λ A m q n. opened_ext X Y v v q (λ T k s l. ap (λ b. same b v) (h A m q n T k s l))))
    where
      v : Bool
      v = not (Y p)

  -- passes on images that agree at every site agree at every site
  pub next_ext : (X Y : Image S) → ((q : S) → X q ≡ Y q) → (p : S) → next 𝓢 X p ≡ next 𝓢 Y p
  next_ext X Y h p = ap (λ Z. next 𝓢 Z p) (fun_ext h)

  -- with the values exchanged, a site is opened for the exchanged value
  pub opened_exchange : (X : Image S) (v : Bool) (p : S) → opened 𝓢 (complement X) (not v) p ≡ opened 𝓢 X v p
  opened_exchange X v p = opened_ext (complement X) X (not v) v p (λ T m q n. same_not (X q) v)

  -- and held for it
  pub held_exchange : (X : Image S) (v : Bool) (p : S) → held 𝓢 (complement X) (not v) p ≡ held 𝓢 X v p
  held_exchange X v p = held_ext (complement X) X (not v) v p (λ A m q n. opened_exchange X v q)

  -- if Y has the value v wherever X has it, then Y is opened for v wherever X is
  pub opened_mono : (X Y : Image S) (v : Bool) → ((q : S) → X q ≡ v → Y q ≡ v)
      → (p : S) → opened 𝓢 X v p ≡ true → opened 𝓢 Y v p ≡ true
  unfolding opened
  opened_mono X Y v h p = any_mono _ _ (𝓢.blocks p) (λ T m. all_mono _ _ T (λ q n e. same_intro (h q (same_true (X q) v e))))

  -- if Y is opened for v wherever X is, then Y is held for v wherever X is
  pub held_mono : (X Y : Image S) (v : Bool) → ((q : S) → opened 𝓢 X v q ≡ true → opened 𝓢 Y v q ≡ true)
      → (p : S) → held 𝓢 X v p ≡ true → held 𝓢 Y v p ≡ true
  unfolding held
  held_mono X Y v h p = any_mono _ _ (𝓢.hits p) (λ A m. all_mono _ _ A (λ q n. h q))

module _ {S : Type 0} {𝓢 : System S} (law : Lawful 𝓢) (X : Image S) where
  -- a site opened for v has the value v, since it lies in its blocks
  pub opened_value : (v : Bool) (p : S) → opened 𝓢 X v p ≡ true → X p ≡ v
  unfolding opened
  opened_value v p h =
      let (T, m, e) = any_elim _ (𝓢.blocks p) h in
      same_true (X p) v (all_elim (λ q. same (X q) v) e (law.contain p T m))

  -- every element at a site opened for v has a site of value v, one that it shares with the block
  pub opened_meets : (v : Bool) (p : S) → opened 𝓢 X v p ≡ true
      → (A : List S) → Memᴰ A (𝓢.hits p) → (q : S) × Memᴰ q A × (X q ≡ v)
  unfolding opened
  opened_meets v p h A n =
      let (T, m, e) = any_elim _ (𝓢.blocks p) h in
      let (q, i, j) = law.persist p p T A m (law.contain p T m) n in
      (q, i, same_true (X q) v (all_elim (λ s. same (X s) v) e j))

  -- a site held for v has an element whose sites all have the value v
  pub held_value : (v : Bool) (p : S) → held 𝓢 X v p ≡ true
      → (A : List S) × Memᴰ A (𝓢.hits p) × ((q : S) → Memᴰ q A → X q ≡ v)
  unfolding held
  held_value v p h =
      let (A, m, e) = any_elim _ (𝓢.hits p) h in
      (A, m, λ q n. opened_value v q (all_elim (opened 𝓢 X v) e n))

  -- a site is held for one value at most: two elements at a site share a site, and that has one value
  pub held_exclusive : (v w : Bool) (p : S) → held 𝓢 X v p ≡ true → held 𝓢 X w p ≡ true → v ≡ w
  held_exclusive v w p h k =
      let (A, m, a) = held_value v p h in
      let (B, n, b) = held_value w p k in
      let (q, i, j) = law.meet p A B m n in
      sym (a q i) ∙ b q j

  -- a site opened for v is held for no other value: each of its elements has a site of value v
  pub opened_kept : (v w : Bool) (p : S) → opened 𝓢 X v p ≡ true → held 𝓢 X w p ≡ true → v ≡ w
  opened_kept v w p h k =
      let (A, m, a) = held_value w p k in
      let (q, i, e) = opened_meets v p h A m in
      sym e ∙ a q i

  -- blocks stay: a site opened for v has the value v after the pass
  pub next_opened : (v : Bool) (p : S) → opened 𝓢 X v p ≡ true → next 𝓢 X p ≡ v
  next_opened v p h = ⊎_elim (λ e. e ∙ opened_value v p h) (λ k. sym (opened_kept v _ p h k)) (next_cases 𝓢 X p)

  -- a site held for v has the value v after the pass: it is not held against v, and turns to v from the other value
  pub next_held : (v : Bool) (p : S) → held 𝓢 X v p ≡ true → next 𝓢 X p ≡ v
  unfolding next
  next_held v p h = ⊎_elim stay turn (value_cases (X p) v)
    where
      stay : X p ≡ v → next 𝓢 X p ≡ v
      stay e = ⊎_elim (λ k. k ∙ e) (λ k. sym (held_exclusive v _ p h k)) (next_cases 𝓢 X p)

      turn : not (X p) ≡ v → next 𝓢 X p ≡ v
      turn e = rw (e, h)

  -- what is opened stays opened: a block is a block at each of its sites, so it keeps its value throughout
  pub opened_next : (v : Bool) (p : S) → opened 𝓢 X v p ≡ true → opened 𝓢 (next 𝓢 X) v p ≡ true
  unfolding opened
  opened_next v p = any_mono _ _ (𝓢.blocks p) (λ T m e.
      all_intro _ T (λ q n. same_intro (next_opened v q (any_intro _ (law.share p q T m n) e))))

  -- hence what is held stays held
  pub held_next : (v : Bool) (p : S) → held 𝓢 X v p ≡ true → held 𝓢 (next 𝓢 X) v p ≡ true
  held_next v = held_mono 𝓢 X (next 𝓢 X) v (opened_next v)
