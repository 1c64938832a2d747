-- A site changes in at most one pass.
--     changes_none, changes_cases    a pass that keeps a site's value does not change it, and one that does not keep it does
--     Settled 𝓢 X p                  p is held for the value that it has
--     settled_next, next_settled     a settled site stays settled; a pass keeps a site's value or settles it
--     no_more                        no pass changes a site that an earlier one changed
--     single_change                  the theorem
-- Assumes nothing.
use mathlib.Core.Bool.{true, false, not}
use mathlib.Core.Logic.{◌⊎◌, inl, inr, ⊎_elim}
use mathlib.Core.Path.{◌≡◌, sym, ap}
use Prim.Native.Nat.{ℕ, suc, ◌<◌}
use native.Mathlib.Decide.{le_ind}
use native.Mathlib.Omega.{arith}
use Rattle.seq.specs.Lists.{same}
use Rattle.seq.proofs.Lists.{clash, either, same_true, same_intro}
use Rattle.morph.specs.System.{System, Image, Lawful}
use Rattle.morph.specs.Operator.{held, next, iterate, changes}
use Rattle.morph.specs.SingleChange.{SingleChange}
use Rattle.morph.proofs.Operator.{next_cases, next_held, held_next}

-- p is held for the value that it has
abbrev pub Settled : {S : Type 0} → System S → Image S → S → Type 0
Settled 𝓢 X p = held 𝓢 X (X p) p ≡ true

module _ {S : Type 0} (𝓢 : System S) (X : Image S) (n : ℕ) (p : S) where
  -- a pass that keeps a site's value does not change the site
  pub changes_none : next 𝓢 (iterate 𝓢 n X) p ≡ iterate 𝓢 n X p → changes 𝓢 X n p ≡ false
  unfolding changes
  changes_none e = ap not (same_intro (sym e))

  -- a pass keeps a site's value or changes the site
  pub changes_cases : (next 𝓢 (iterate 𝓢 n X) p ≡ iterate 𝓢 n X p) ⊎ (changes 𝓢 X n p ≡ true)
  unfolding changes
  changes_cases =
      ⊎_elim (λ e. inl (sym (same_true _ _ e))) (λ e. inr (ap not e)) (either (same (iterate 𝓢 n X p) (iterate 𝓢 (suc n) X p)))

module _ {S : Type 0} {𝓢 : System S} (law : Lawful 𝓢) where
  -- a settled site keeps its value and stays held for it
  pub settled_next : (X : Image S) (p : S) → Settled 𝓢 X p → Settled 𝓢 (next 𝓢 X) p
  settled_next X p h = rw (next_held law X (X p) p h) (held_next law X (X p) p h)

  -- a pass keeps a site's value or settles the site
  pub next_settled : (X : Image S) (p : S) → (next 𝓢 X p ≡ X p) ⊎ Settled 𝓢 (next 𝓢 X) p
  next_settled X p = ⊎_elim inl (λ h. inr (held_next law X (next 𝓢 X p) p h)) (next_cases 𝓢 X p)

  -- a site that pass i changes is settled from then on, so no later pass changes it
  no_more : (X : Image S) (p : S) (i j : ℕ) → changes 𝓢 X i p ≡ true → i < j → changes 𝓢 X j p ≡ false
  no_more X p i j h l = changes_none 𝓢 X j p (next_held law (iterate 𝓢 j X) _ p later)
    where
      start : Settled 𝓢 (iterate 𝓢 (suc i) X) p
      start = ⊎_elim (λ e. clash h (changes_none 𝓢 X i p e)) (λ s. s) (next_settled (iterate 𝓢 i X) p)

      later : Settled 𝓢 (iterate 𝓢 j X) p
      later = le_ind (λ n. Settled 𝓢 (iterate 𝓢 n X) p) start (λ n k. settled_next (iterate 𝓢 n X) p) j l

  -- of two passes that change a site neither is the earlier
  pub single_change : SingleChange 𝓢
  single_change X p i j h k =
      let a : ¬ (i < j) = λ l. clash k (no_more X p i j h l) in
      let b : ¬ (j < i) = λ l. clash h (no_more X p j i k l) in
      omega arith
