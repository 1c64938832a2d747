-- The 55 numbers in a row, one number on.
--     length_lagged     there are 55
--     lagged_first      before anything is drawn they are the seeded ones
--     lagged_moved      all but the last stood a place later before
--     lagged_last       the last is the number drawn
--     each_place        what holds of the last place and of all before it holds of each
-- Assumes nothing.
use Rattle.std.proofs.Common.{◌≡◌, ℕ, zero, suc, ◌+◌, ◌-◌, ◌<◌, ltb, [], length, get_or, drop, ap, ◌∙◌, subst, ⊎_elim, arith, length-append, length-drop, get_or-drop, ltb-false, ltb-true}
use lib.ListN.{get_or-append}
use lib.Seq.{get_or_at}
use Rattle.noise.specs.Generator.{long_lag, seeded, next_of, lagged, drawn}
use Rattle.seq.proofs.Lists.{either}
use Rattle.seq.proofs.Tab.{length_tab, get_d_tab}

module _ (seed : ℕ) where
  pub length_lagged : (n : ℕ) → length (lagged seed n) ≡ long_lag
  length_lagged zero = length_tab (seeded seed) long_lag
  length_lagged (suc n) = simp (length-append, length-drop) (omega (arith, length_lagged n))

  -- all but the oldest
  length_rest : (n : ℕ) → length (drop 1 (lagged seed n)) ≡ long_lag - 1
  length_rest n = simp length-drop (omega (arith, length_lagged n))

  pub lagged_first : (j : ℕ) → j < long_lag → get_or (lagged seed 0) j 0 ≡ seeded seed j
  lagged_first j l = get_d_tab (seeded seed) long_lag j 0 l

  pub lagged_moved : (n j : ℕ) → suc j < long_lag → get_or (lagged seed (suc n)) j 0 ≡ get_or (lagged seed n) (suc j) 0
  lagged_moved n j l =
      get_or-append (drop 1 (lagged seed n)) _ 0 j (omega (arith, length_rest n))
      ∙ get_or-drop 1 (lagged seed n) j 0
      ∙ ap (λ (k : ℕ). get_or (lagged seed n) k 0) {x = 1 + j} {y = suc j} (omega arith)

  pub lagged_last : (n : ℕ) → get_or (lagged seed (suc n)) (long_lag - 1) 0 ≡ drawn seed n
  unfolding drawn
  lagged_last n = get_or_at (drop 1 (lagged seed n)) (next_of (lagged seed n)) [] 0 (long_lag - 1) (length_rest n)

pub each_place : (P : ℕ → Type 0) → ((j : ℕ) → suc j < long_lag → P j) → P (long_lag - 1) → (j : ℕ) → j < long_lag → P j
each_place P before last j l =
    ⊎_elim
    (λ e. before j (ltb-true (suc j) long_lag e))
    (λ e. let end : long_lag - 1 ≡ j = omega (arith, ltb-false (suc j) long_lag e) in subst P end last)
    (either (ltb (suc j) long_lag))
