-- One pass is the report's operator π = (id ∧ ψβ) ∨ ψα, and ψ and α are what the report asks of them.
--     same_comm, any_same                 the test of a value, either way round
--     centre, centre_mono                 the centre (x ∧ d) ∨ e of e ≤ d turns x where x is not between them, and is increasing
--     opened_alpha, held_alpha            `opened` is α, and `held` is ⋁ ε α, of the sites of one value
--     erosions_complement                 ⋁ ε of the complement is the complement of ⋀ δ
--     erosions_dilations                  ⋁ ε is below ⋀ δ
--     psi_plain, psi_increasing, psi_self_dual, plain_exchange                      the laws of ψ
--     alpha_increasing, alpha_below, alpha_idempotent, alpha_psi, alpha_none, alpha_beta    the laws of α
--     psi_alpha, next_modified            ψα outside the image, and π
--     heijmans                            the theorem
-- Assumes nothing.
use mathlib.Core.Bool.{Bool, true, false, cond, not, ◌&&◌, ◌||◌, not-not}
use mathlib.Core.List.{List, Memᴰ}
use mathlib.Core.Logic.{⊎_elim}
use mathlib.Core.Path.{◌≡◌, refl, sym, ap, ◌∙◌}
use Rattle.seq.specs.Lists.{any, all, same}
use Rattle.seq.proofs.Lists.{clash, not_true_false, bool_ext, and_left, and_right, and_intro, or_cases, or_left, or_right, same_not}
use Rattle.seq.proofs.Lists.{any_intro, any_elim, any_ext, any_mono, all_intro, all_elim, all_ext, all_mono, not_any, not_all}
use Rattle.morph.specs.System.{System, Image, Lawful}
use Rattle.morph.specs.Operator.{opened, held, next}
use Rattle.morph.specs.Exchange.{complement}
use Rattle.morph.specs.Order.{Below}
use Rattle.morph.specs.Heijmans.{erosions, dilations, psi, plain, alpha, beta, modified, Heijmans}
use Rattle.morph.proofs.Operator.{opened_mono, opened_value, opened_meets}
use Rattle.morph.proofs.Exchange.{cond_exchange}

-- the test of two values is symmetric; the other way round it computes at a value
same_comm : (a b : Bool) → same a b ≡ same b a
same_comm true true = refl
same_comm true false = refl
same_comm false true = refl
same_comm false false = refl

-- some list has the value v throughout, tested either way round
any_same : {S : Type 0} (X : Image S) (v : Bool) (ls : List (List S))
    → any (all (λ q. same (X q) v)) ls ≡ any (all (λ q. same v (X q))) ls
any_same X v ls = any_ext _ _ ls (λ A m. all_ext _ _ A (λ q n. same_comm (X q) v))

-- for e ≤ d, to turn x exactly where it is not between e and d is to take the centre (x ∧ d) ∨ e
centre : (x d e t : Bool) → (e ≡ true → d ≡ true) → t ≡ cond x (not d) e → cond t (not x) x ≡ ((x && d) || e)
centre true true e t h k = rw k
centre true false true t h k = clash (h refl) refl
centre true false false t h k = rw k
centre false d true t h k = rw k
centre false d false t h k = rw k

-- the centre grows with each of its parts
centre_mono : {x d e y c b : Bool} → (x ≡ true → y ≡ true) → (d ≡ true → c ≡ true) → (e ≡ true → b ≡ true)
    → ((x && d) || e) ≡ true → ((y && c) || b) ≡ true
centre_mono {x} {d} {e} {y} {c} {b} f g h k =
    ⊎_elim (λ i. or_left b (and_intro (f (and_left x d i)) (g (and_right x d i)))) (λ i. or_right (y && c) (h i)) (or_cases (x && d) e k)

module _ {S : Type 0} (𝓢 : System S) where
  -- a site is opened for v where it lies in the opening of the sites of value v
  opened_alpha : (X : Image S) (v : Bool) (p : S) → opened 𝓢 X v p ≡ alpha 𝓢 (λ q. same v (X q)) p
  unfolding opened alpha
  opened_alpha X v p = any_same X v (𝓢.blocks p)

  -- a site is held for v where some element lies in that opening
  held_alpha : (X : Image S) (v : Bool) (p : S) → held 𝓢 X v p ≡ erosions 𝓢 (alpha 𝓢 (λ q. same v (X q))) p
  unfolding held erosions
  held_alpha X v p = any_ext _ _ (𝓢.hits p) (λ A m. all_ext _ _ A (λ q n. opened_alpha X v q))

  -- some element lies outside X exactly when not every element meets X
  erosions_complement : (X : Image S) (p : S) → erosions 𝓢 (complement X) p ≡ not (dilations 𝓢 X p)
  unfolding erosions dilations
  erosions_complement X p = sym (not_all (any X) (𝓢.hits p) ∙ any_ext _ _ (𝓢.hits p) (λ A m. not_any X A))

  -- the plain rule treats both values alike
  plain_exchange : (X : Image S) (p : S) → plain 𝓢 (complement X) p ≡ not (plain 𝓢 X p)
  unfolding plain
  plain_exchange X p =
      rw (any_ext _ _ (𝓢.hits p) (λ A m. all_ext _ _ A (λ q n. same_not (X q) (not (X p)))))
      (cond_exchange (any (all (λ q. same (X q) (not (X p)))) (𝓢.hits p)) (X p))

  -- ψ is a centre of increasing operators
  psi_increasing : (X Y : Image S) → Below X Y → Below (psi 𝓢 X) (psi 𝓢 Y)
  unfolding psi erosions dilations
  psi_increasing X Y h p = centre_mono (h p)
      (all_mono _ _ (𝓢.hits p) (λ A m. any_mono X Y A (λ q n. h q)))
      (any_mono _ _ (𝓢.hits p) (λ A m. all_mono X Y A (λ q n. h q)))

  -- a block in X is a block in Y
  alpha_increasing : (X Y : Image S) → Below X Y → Below (alpha 𝓢 X) (alpha 𝓢 Y)
  alpha_increasing X Y h p e = sym (opened_alpha Y true p) ∙ opened_mono 𝓢 X Y true h p (opened_alpha X true p ∙ e)

module _ {S : Type 0} {𝓢 : System S} (law : Lawful 𝓢) where
  -- an element in X meets every element at its site, so every element meets X
  erosions_dilations : (X : Image S) → Below (erosions 𝓢 X) (dilations 𝓢 X)
  unfolding erosions dilations
  erosions_dilations X p h =
      let (A, m, e) = any_elim _ (𝓢.hits p) h in
      all_intro _ (𝓢.hits p) (λ B n. let (q, i, j) = law.meet p A B m n in any_intro X j (all_elim X e i))

  -- the plain rule turns a site of X where an element lies outside X, and another site where an element lies in X
  psi_plain : (X : Image S) (p : S) → plain 𝓢 X p ≡ psi 𝓢 X p
  unfolding plain psi erosions
  psi_plain X p = centre (X p) _ _ _ (erosions_dilations X p) (any_same X (not (X p)) (𝓢.hits p) ∙ turned (X p))
    where
      turned : (x : Bool) → any (all (λ q. same (not x) (X q))) (𝓢.hits p) ≡ cond x (not (dilations 𝓢 X p)) (erosions 𝓢 X p)
      turned true = erosions_complement 𝓢 X p
      turned false = refl

  -- ψ is self-dual because the plain rule is
  psi_self_dual : (X : Image S) (p : S) → psi 𝓢 (complement X) p ≡ not (psi 𝓢 X p)
  psi_self_dual X p = sym (psi_plain (complement X) p) ∙ plain_exchange 𝓢 X p ∙ ap not (psi_plain X p)

  -- a site lies in its blocks
  alpha_below : (X : Image S) → Below (alpha 𝓢 X) X
  alpha_below X p h = opened_value law X true p (opened_alpha 𝓢 X true p ∙ h)

  -- a block in X is a block in the opening, since it is a block at each of its sites
  alpha_idempotent : (X : Image S) (p : S) → alpha 𝓢 (alpha 𝓢 X) p ≡ alpha 𝓢 X p
  unfolding alpha
  alpha_idempotent X p = bool_ext _ _ (alpha_below (alpha 𝓢 X) p)
      (any_mono _ _ (𝓢.blocks p) (λ T m e. all_intro _ T (λ q n. any_intro (all X) (law.share p q T m n) e)))

  -- every element at a site of the opening meets the block there
  alpha_psi : (X : Image S) → Below (alpha 𝓢 X) (psi 𝓢 X)
  unfolding psi dilations
  alpha_psi X p h = or_left _ (and_intro (alpha_below X p h) (all_intro _ (𝓢.hits p) meets))
    where
      meets : (A : List S) → Memᴰ A (𝓢.hits p) → any X A ≡ true
      meets A m = let (q, i, e) = opened_meets law X true p (opened_alpha 𝓢 X true p ∙ h) A m in any_intro X i e

  -- outside X there is no opening
  alpha_none : (X : Image S) (p : S) → X p ≡ false → alpha 𝓢 X p ≡ false
  alpha_none X p h = not_true_false _ (λ e. clash (alpha_below X p e) h)

  -- α ≤ id ≤ β
  alpha_beta : (X : Image S) → Below (alpha 𝓢 X) (beta 𝓢 X)
  unfolding beta
  alpha_beta X p h = ap not (alpha_none (complement X) p (ap not (alpha_below X p h)))

  -- at a site of the other value, ψ of the opening of the sites of value v says whether the site is held for v
  psi_alpha : (X : Image S) (v : Bool) (p : S) → same v (X p) ≡ false → psi 𝓢 (alpha 𝓢 (λ q. same v (X q))) p ≡ held 𝓢 X v p
  unfolding psi
  psi_alpha X v p h = rw (alpha_none (λ q. same v (X q)) p h) (sym (held_alpha 𝓢 X v p))

  -- a pass turns a site of X where ψβ is white, and another site where ψα is black, and ψα ≤ ψβ
  next_modified : (X : Image S) (p : S) → next 𝓢 X p ≡ modified 𝓢 X p
  unfolding next modified beta
  next_modified X p = centre (X p) _ _ _ (psi_increasing 𝓢 _ _ (alpha_beta X) p) (turned (X p) refl)
    where
      turned : (x : Bool) → X p ≡ x → held 𝓢 X (not x) p ≡ cond x (not (psi 𝓢 (beta 𝓢 X) p)) (psi 𝓢 (alpha 𝓢 X) p)
      turned true e = sym (psi_alpha X false p (ap not e)) ∙ sym (not-not _) ∙ ap not (sym (psi_self_dual (alpha 𝓢 (complement X)) p))
      turned false e = sym (psi_alpha X true p e)

  -- the laws above
  pub heijmans : Heijmans 𝓢
  heijmans = record {
    psi_plain = psi_plain;
    psi_increasing = psi_increasing 𝓢;
    psi_self_dual = psi_self_dual;
    alpha_increasing = alpha_increasing 𝓢;
    alpha_below = alpha_below;
    alpha_idempotent = alpha_idempotent;
    alpha_psi = alpha_psi;
    next_modified = next_modified;
  }
