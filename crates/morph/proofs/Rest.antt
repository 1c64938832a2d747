-- Fixed points of the operator.
--     iterate_stable          a fixed point stays
--     quiet_stable            a pass that changes no listed site leaves the image as it is
--     busy 𝓢 l X n            how many of the first n passes change a site of l
--     one_more, busy_until    as long as no image is stable, each pass is one of them
--     reached, first          hence a fixed point after as many passes as there are sites, and only one
--     rest                    the theorem
-- Assumes nothing.
use mathlib.Core.Bool.{true, false}
use mathlib.Core.List.{List}
use mathlib.Core.Logic.{◌⊎◌, inl, inr, ⊎_elim}
use mathlib.Core.Path.{◌≡◌, refl, sym, ap, ◌∙◌}
use Prim.Native.Nat.{ℕ, zero, suc, ◌+◌, ◌≤◌, ◌<◌}
use native.Mathlib.Decide.{le_ind}
use native.Mathlib.Omega.{arith}
use lib.ListN.{length}
use Rattle.seq.specs.Lists.{any, one, count}
use Rattle.seq.specs.Tab.{up_to}
use Rattle.seq.proofs.Lists.{clash, either, any_intro}
use Rattle.seq.proofs.Tab.{count_up_to}
use Rattle.morph.specs.System.{System, Image, Lawful, Listed}
use Rattle.morph.specs.Operator.{held, next, iterate, changes}
use Rattle.morph.specs.Rest.{Stable, rested, Rest}
use Rattle.morph.proofs.Operator.{next_cases, next_ext, held_value}
use Rattle.morph.proofs.SingleChange.{changes_cases}
use Rattle.morph.proofs.Bound.{bound}
use Rattle.morph.proofs.Exchange.{exchange}
use Rattle.morph.proofs.Order.{order}

-- a fixed point stays: by induction on the passes after it
pub iterate_stable : {S : Type 0} (𝓢 : System S) (X : Image S) (n m : ℕ) → Stable 𝓢 (iterate 𝓢 n X) → n ≤ m
    → (p : S) → iterate 𝓢 m X p ≡ iterate 𝓢 n X p
iterate_stable {S} 𝓢 X n m s =
    le_ind (λ k. (p : S) → iterate 𝓢 k X p ≡ iterate 𝓢 n X p) (λ p. refl) (λ k l e p. next_ext 𝓢 _ _ e p ∙ s p) m

-- how many of the first n passes change a site of l
abbrev busy : {S : Type 0} → System S → List S → Image S → ℕ → ℕ
busy 𝓢 l X n = count (λ i. any (changes 𝓢 X i) l) (up_to n)

module _ {S : Type 0} {𝓢 : System S} {sites : List S} (law : Lawful 𝓢) (listed : Listed 𝓢 sites) (X : Image S) where
  -- a pass that changes no listed site changes none, for what is held has an element and is listed
  quiet_stable : (n : ℕ) → any (changes 𝓢 X n) sites ≡ false → Stable 𝓢 (iterate 𝓢 n X)
  quiet_stable n h p = ⊎_elim (λ e. e) quiet (next_cases 𝓢 Y p)
    where
      Y : Image S
      Y = iterate 𝓢 n X

      quiet : held 𝓢 Y (next 𝓢 Y p) p ≡ true → next 𝓢 Y p ≡ Y p
      quiet k =
          let (A, m, a) = held_value law Y (next 𝓢 Y p) p k in
          ⊎_elim (λ e. e) (λ c. clash (any_intro (changes 𝓢 X n) (listed.covers p A m) c) h) (changes_cases 𝓢 X n p)

  -- if the first n passes all change a site, then so does the next, or the image is stable
  one_more : (n : ℕ) → n ≤ busy 𝓢 sites X n → Stable 𝓢 (iterate 𝓢 n X) ⊎ (n < busy 𝓢 sites X (suc n))
  one_more n h = ⊎_elim more (λ e. inl (quiet_stable n e)) (either (any (changes 𝓢 X n) sites))
    where
      more : any (changes 𝓢 X n) sites ≡ true → Stable 𝓢 (iterate 𝓢 n X) ⊎ (n < busy 𝓢 sites X (suc n))
      more e = inr (omega (arith, count_up_to (λ i. any (changes 𝓢 X i) sites) n, ap one e))

  -- after n passes the image is stable, or these passes and the next have all changed a site
  busy_until : (n : ℕ) → Stable 𝓢 (iterate 𝓢 n X) ⊎ (n < busy 𝓢 sites X (suc n))
  busy_until zero = one_more zero (omega arith)
  busy_until (suc n) = ⊎_elim (λ s. inl (next_ext 𝓢 _ _ s)) (one_more (suc n)) (busy_until n)

  -- no more passes change a site than there are sites
  reached : Stable 𝓢 (rested 𝓢 sites X)
  unfolding rested
  reached = ⊎_elim (λ s. s) (λ h. absurd (omega (arith, (bound law).passes X sites (suc (length sites))))) (busy_until (length sites))

  -- two fixed points are both the image after the passes of the one and then the other
  first : (n : ℕ) → Stable 𝓢 (iterate 𝓢 n X) → (p : S) → rested 𝓢 sites X p ≡ iterate 𝓢 n X p
  unfolding rested
  first n s p =
      sym (iterate_stable 𝓢 X (length sites) (n + length sites) reached (omega arith) p)
      ∙ iterate_stable 𝓢 X n (n + length sites) s (omega arith) p

-- exchange and order at the fixed point are those after as many passes as there are sites
pub rest : {S : Type 0} {𝓢 : System S} {sites : List S} → Lawful 𝓢 → Listed 𝓢 sites → Rest 𝓢 sites
unfolding rested
rest {S} {𝓢} {sites} law listed = record {
  stays = iterate_stable 𝓢;
  reached = reached law listed;
  first = first law listed;
  exchange = λ X. exchange 𝓢 X (length sites);
  order = λ X Y below. order law X Y below (length sites);
}
