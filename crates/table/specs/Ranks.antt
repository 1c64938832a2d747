-- Several persistent elements in one table (02, T-01).
--     alone t K     the table with K as its only persistent element
--     Ranks t       what an accepted table has of them: one to four, rising, zeros behind them, each of them persistent alone
-- Assumes nothing.
use mathlib.Core.List.{[], ◌∷◌, Memᴰ}
use Rattle.std.specs.Prelude.{◌≡◌, ℕ, suc, ◌≤◌, ◌<◌, Ok}
use Rattle.table.specs.declared.Table.{Table}
use Rattle.table.specs.Record.{max_ranks, persistent_at, persistents, record_verdict}
use Rattle.table.specs.Sample.{placed}

abbrev pub alone : Table → ℕ → Table
alone t K = record { count = t.count; elements = t.elements; ranks = 1; persistents = placed max_ranks (K ∷ []) }

pub record Ranks (t : Table) : Type 0 where
  pub few : (1 ≤ t.ranks) × (t.ranks ≤ max_ranks)
  pub rising : (r : ℕ) → suc r < t.ranks → persistent_at t r < persistent_at t (suc r)
  pub zero_past : (r : ℕ) → t.ranks ≤ r → r < max_ranks → persistent_at t r ≡ 0
  -- each makes a table that is accepted, without the others
  pub each_alone : (K : ℕ) → Memᴰ K (persistents t) → record_verdict (alone t K) ≡ Ok tt
