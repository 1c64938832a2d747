-- A loop that joins the numbers of a list by `or`: some number passed has a bit at or above k exactly when the join has one.
--     above_or      a join is above 2 ^ k − 1 exactly when one of the two is
--     seen_more     where the loop stands, one number more
--     some_nonzero  a number of a list is not 0 exactly when not all are
--     nonzero_join, nonzero_persistents, nonzero_elements, nonzero_parts    a record with a nonzero field, by the code's tests
-- Assumes nothing.
use mathlib.Core.Bool.{Bool, true, false, not, ◌&&◌, ◌||◌, and_assoc, and-false}
use mathlib.Core.List.{List, [], ◌∷◌}
use mathlib.Core.Path.{◌≡◌, refl, sym, ap, ap₂, ◌∙◌}
use Prim.Native.Nat.{ℕ, ◌+◌, ◌-◌, ◌^◌, ◌<◌}
use native.Mathlib.Omega.{arith}
use borrow.Author.Tests.{ltb-true, ltb-false, eqb-true, eqb-false, not-true, not-false, lt-ltb, le-ltb, eq-eqb, ne_eqb}
use lib.Bits.{bit_or, or_lt, or_add_and, and_le_l, and_le_r}
use lib.Dec.{ltb, eqb}
use lib.ListN.{length, get_or, take}
use lib.Pow.{pow_pos}
use Rattle.std.specs.List.{list_any}
use Rattle.history.specs.declared.Job.{Job}
use Rattle.history.specs.State.{part_fields, nonzero}
use Rattle.job.specs.Code.Parts.{set_from}
use Rattle.seq.specs.Lists.{any, all, join}
use Rattle.seq.proofs.Fronts.{any_front, all_append, all_join}
use Rattle.seq.proofs.Lists.{not_all}

module _ (k : ℕ) where
  -- the largest number below bit k
  abbrev pub low : ℕ
  low = 2 ^ k - 1

  above_or : (a b : ℕ) → ltb low (bit_or a b) ≡ (ltb low a || ltb low b)
  above_or a b = step (ltb low a) refl (ltb low b) refl
    where
      step : (p : Bool) → ltb low a ≡ p → (q : Bool) → ltb low b ≡ q → ltb low (bit_or a b) ≡ (p || q)
      step true e q f = lt-ltb low (bit_or a b) (omega (arith, ltb-true low a e, or_add_and a b, and_le_r a b))
      step false e true f = lt-ltb low (bit_or a b) (omega (arith, ltb-true low b f, or_add_and a b, and_le_l a b))
      step false e false f =
          let m = pow_pos k in
          let below = or_lt k a b (omega (arith, ltb-false low a e)) (omega (arith, ltb-false low b f)) in
          le-ltb low (bit_or a b) (omega arith)

  pub seen_more : (l : List ℕ) (i seen : ℕ) → i < length l → ltb low seen ≡ any (ltb low) (take i l)
      → ltb low (bit_or seen (get_or l i 0)) ≡ any (ltb low) (take (i + 1) l)
  seen_more l i seen h e =
      above_or seen (get_or l i 0)
      ∙ ap (λ (b : Bool). b || ltb low (get_or l i 0)) e
      ∙ sym (any_front (ltb low) l i 0 h)

eqb_swap : (n : ℕ) → eqb n 0 ≡ eqb 0 n
eqb_swap n = step (eqb 0 n) refl
  where
    step : (b : Bool) → eqb 0 n ≡ b → eqb n 0 ≡ b
    step true e = eq-eqb n 0 (sym (eqb-true 0 n e))
    step false e = ne_eqb n 0 (λ z. eqb-false 0 n e (sym z))

pub some_nonzero : (l : List ℕ) → list_any (λ n. not (eqb n 0)) l ≡ not (all (eqb 0) l)
some_nonzero [] = refl
some_nonzero (n ∷ l) = rw (eqb_swap n, some_nonzero l) (step (eqb 0 n))
  where
    step : (b : Bool) → (not b || not (all (eqb 0) l)) ≡ not (b && all (eqb 0) l)
    step true = refl
    step false = refl

-- a join is 0 exactly when both are
zero_or : (a b : ℕ) → eqb 0 (bit_or a b) ≡ (eqb 0 a && eqb 0 b)
zero_or a b = step (eqb 0 a) refl (eqb 0 b) refl
  where
    step : (p : Bool) → eqb 0 a ≡ p → (q : Bool) → eqb 0 b ≡ q → eqb 0 (bit_or a b) ≡ (p && q)
    step true e true f = eq-eqb 0 (bit_or a b) (omega (arith, eqb-true 0 a e, eqb-true 0 b f, or_add_and a b))
    step true e false f = ne_eqb 0 (bit_or a b) (λ z. eqb-false 0 b f (omega (arith, or_add_and a b, and_le_l a b)))
    step false e q f = ne_eqb 0 (bit_or a b) (λ z. eqb-false 0 a e (omega (arith, or_add_and a b, and_le_r a b)))

-- the join of a record's numbers
abbrev pub joined : Job → ℕ
joined j =
    bit_or (bit_or (bit_or j.width j.height) j.passes)
    (bit_or (bit_or (bit_or (bit_or j.added j.removed) j.table.count) j.table.ranks) j.strip.parts)

module _ (j : Job) where
  -- each mask and each number of a part is zero
  abbrev no_elements : Bool
  no_elements = all (eqb 0) j.table.elements

  abbrev no_persistents : Bool
  no_persistents = all (eqb 0) j.table.persistents

  abbrev no_parts_lem : Bool
  no_parts_lem = all (eqb 0) (join (part_fields j))

  nonzero_joined : nonzero j ≡ not (eqb 0 (joined j) && (no_elements && (no_persistents && no_parts_lem)))
  unfolding nonzero
  nonzero_joined = simp (zero_or, and_assoc, all_append)

  pub nonzero_join : (joined j ≡ 0 → ⊥) → true ≡ nonzero j
  nonzero_join h = sym (nonzero_joined ∙ rw (ne_eqb 0 (joined j) (λ z. h (sym z))))

  module _ (z : joined j ≡ 0) where
    -- what is left of the test where the numbers are zero
    left : nonzero j ≡ not (no_elements && (no_persistents && no_parts_lem))
    left = nonzero_joined ∙ ap (λ (b : Bool). not (b && (no_elements && (no_persistents && no_parts_lem)))) (eq-eqb 0 (joined j) (sym z))

    pub nonzero_persistents : not no_persistents ≡ true → true ≡ nonzero j
    nonzero_persistents e =
        sym (left ∙ ap (λ (b : Bool). not (no_elements && (b && no_parts_lem))) (not-true no_persistents e) ∙ ap not (and-false no_elements))

    pub nonzero_elements : not no_elements ≡ true → true ≡ nonzero j
    nonzero_elements e = sym (left ∙ ap (λ (b : Bool). not (b && (no_persistents && no_parts_lem))) (not-true no_elements e))

    pub nonzero_parts : not no_persistents ≡ false → not no_elements ≡ false → any (set_from 0) (part_fields j) ≡ nonzero j
    nonzero_parts e f =
        sym (
        left
        ∙ ap₂ (λ (a b : Bool). not (a && (b && no_parts_lem))) (not-false no_elements f) (not-false no_persistents e)
        ∙ ap not (all_join (eqb 0) (part_fields j))
        ∙ not_all (all (eqb 0)) (part_fields j)
        )
