-- `sweep::erode` meets its contract. The invariant: the shifts passed are met.
-- Assumes nothing.
use mathlib.Core.List.{List, [], ◌∷◌}
use mathlib.Core.Path.{◌≡◌, refl, sym, ap, ◌∙◌}
use Prim.Native.Nat.{ℕ, suc, ◌+◌, ◌≤◌, ◌<◌}
use native.Mathlib.Numerals.{add-one}
use native.Mathlib.Omega.{arith}
use lib.ListN.{get_or}
use Rattle.filter.specs.Code.Opening.{farthest}
use Rattle.filter.proofs.SweepLaws.{four_of, four_near, erode_empty, erode_first, erode_four}
use Rattle.filter.proofs.sweep.erode.Goals as goal
use Rattle.filter.proofs.sweep.erode.Goals.{In-Some, In-loop-four}

-- the first four shifts
first_is : {f m : List (List ℕ)} {a : List ℕ} → f ≡ a ∷ m → a ≡ get_or f 0 []
first_is e = sym (ap (λ (t : List (List ℕ)). get_or t 0 []) e)

-- and the others
more_is : {f m : List (List ℕ)} {a : List ℕ} (i : ℕ) → f ≡ a ∷ m → get_or m i [] ≡ get_or f (i + 1) []
more_is {f} i e = rw (add-one i) (sym (ap (λ (t : List (List ℕ)). get_or t (suc i) []) e))

near_first : (c : In-Some) → (i : ℕ) → i < 4 → get_or c.in-Some.first.now i 0 ≤ farthest
near_first c = four_near c.requires.0 0 c.as_chunks.ensures.front (omega (arith, c.in-Some.ensures.cases.1)) (first_is c.in-Some.ensures.cases.0)

pub returns-in-None : goal.returns-in-None
returns-in-None c = erode_empty _ _ _ _ (let h = c.in-None.ensures.cases in omega arith) c.fill.ensures

pub behind-requires : goal.behind-requires
behind-requires c i h = let n = near_first (goal.at.behind-requires c).In-Some i h in omega arith

pub sweep-requires : goal.sweep-requires
sweep-requires c =
    (record { room = λ i h. let n = near_first (goal.at.sweep-requires c).In-Some i h in omega (arith, c.behind.ensures i h) }, omega arith)

pub loop-four-init : goal.loop-four-init
loop-four-init c = (
  erode_first _ _ _ _ 0 (omega (arith, c.in-Some.ensures.cases.1)) _
      (λ i h. c.behind.ensures i h ∙ ap (λ (x : ℕ). c.args.start + x) (four_of c.args.at.now 0 c.as_chunks.ensures.front (omega (arith, c.in-Some.ensures.cases.1)) (first_is c.in-Some.ensures.cases.0) i h))
      refl c.sweep.ensures,
  refl,
)

near_more : (c : In-loop-four) → (i : ℕ) → i < 4 → get_or (get_or c.in-Some.more.now c.loop-four.four-index []) i 0 ≤ farthest
near_more c =
    four_near c.requires.0 (c.loop-four.four-index + 1) c.as_chunks.ensures.front (omega (arith, c.in-Some.ensures.cases.1)) (more_is c.loop-four.four-index c.in-Some.ensures.cases.0)

pub behind-requires-in-loop-four : goal.behind-requires-in-loop-four
behind-requires-in-loop-four c i h = let n = near_more (goal.at.behind-requires-in-loop-four c).In-loop-four i h in omega arith

pub sweep-requires-in-loop-four : goal.sweep-requires-in-loop-four
sweep-requires-in-loop-four c =
    (record { room = λ i h. let n = near_more (goal.at.sweep-requires-in-loop-four c).In-loop-four i h in omega (arith, c.behind-in-loop-four.ensures i h) }, omega arith)

pub loop-four-preserved : goal.loop-four-preserved
loop-four-preserved c = (
  erode_four _ _ _ _ (c.loop-four.four-index + 1) (omega (arith, c.in-Some.ensures.cases.1)) _
      (λ i h. c.behind-in-loop-four.ensures i h
      ∙ ap (λ (x : ℕ). c.args.start + x) (four_of c.args.at.now (c.loop-four.four-index + 1) c.as_chunks.ensures.front (omega (arith, c.in-Some.ensures.cases.1)) (more_is c.loop-four.four-index c.in-Some.ensures.cases.0) i h))
      c.loop-four.invariant.0 c.sweep-in-loop-four.ensures,
  c.sweep-in-loop-four.ensures.long ∙ c.loop-four.invariant.1,
)
