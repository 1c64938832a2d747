-- What pass, run and figures answer, in 01's terms; in a refused answer every value is zero.
--     Passed               a pass or a run: what it did, or the refusal
--     passed_stable a      1 for "at rest", 0 for "changed"
--     if_changed a x y      x where the pass changed pixels, else y
--     Figured              the figures, or the refusal
--     figured_balance a, figured_cover a
-- Assumes nothing.
use Rattle.std.specs.Prelude.{ℕ, ℤ, pos, Ok, Err, Result}
use Rattle.history.specs.declared.Effect.{Effect}
use Rattle.history.specs.declared.Effect.TheVariants.{Changed, Stable}
use Rattle.history.specs.declared.Figures.{Figures}
use Rattle.verdict.specs.Rules.{Refusal}

abbrev pub Passed : Type 0
Passed = Result Effect Refusal

abbrev pub passed_stable : Passed → ℕ
passed_stable (Ok Changed) = 0
passed_stable (Ok Stable) = 1
passed_stable (Err r) = 0

abbrev pub if_changed {ℓ} : {A : Type ℓ} → Passed → A → A → A
if_changed (Ok Changed) x y = x
if_changed (Ok Stable) x y = y
if_changed (Err r) x y = y

abbrev pub Figured : Type 0
Figured = Result Figures Refusal

abbrev pub figured_balance : Figured → ℤ
figured_balance (Ok x) = x.balance
figured_balance (Err r) = pos 0

abbrev pub figured_cover : Figured → ℕ
figured_cover (Ok x) = x.cover
figured_cover (Err r) = 0
