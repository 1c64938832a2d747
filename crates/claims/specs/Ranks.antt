-- 02, T-01: several persistent elements in one table.
--     ranks_few, ranks_rising, ranks_zero_past     an accepted table has one to four, rising, and zeros behind them
--     each_alone             each of them, as the only one, makes an accepted table
--     opened_by_any          a pixel is opened exactly when one of them, alone, opens it
--     table_cases            records and files with the verdict that the words give, and files with their records
-- Assumes nothing.
use mathlib.Core.List.{List, Memᴰ}
use Rattle.std.specs.Prelude.{◌≡◌, ℕ, suc, ◌≤◌, ◌<◌, Ok}
use Rattle.operator.proofs.Several.{any_alone}
use Rattle.operator.specs.Pass.{opened}
use Rattle.seq.specs.Lists.{any}
use Rattle.table.proofs.Cases.{cases_met}
use Rattle.table.proofs.Ranks.{accepted_ranks}
use Rattle.table.specs.declared.Table.{Table}
use Rattle.table.specs.Cases.{Cases}
use Rattle.table.specs.Ranks.{alone}
use Rattle.table.specs.Record.{max_ranks, persistent_at, persistents, record_verdict}

module _ (t : Table) (ok : record_verdict t ≡ Ok tt) where
  pub ranks_few : (1 ≤ t.ranks) × (t.ranks ≤ max_ranks)
  ranks_few = (accepted_ranks t ok).few

  pub ranks_rising : (r : ℕ) → suc r < t.ranks → persistent_at t r < persistent_at t (suc r)
  ranks_rising = (accepted_ranks t ok).rising

  pub ranks_zero_past : (r : ℕ) → t.ranks ≤ r → r < max_ranks → persistent_at t r ≡ 0
  ranks_zero_past = (accepted_ranks t ok).zero_past

  pub each_alone : (K : ℕ) → Memᴰ K (persistents t) → record_verdict (alone t K) ≡ Ok tt
  each_alone = (accepted_ranks t ok).each_alone

pub opened_by_any : (t : Table) (w h : ℕ) (img : List ℕ) (v r c : ℕ) → opened t w h img v r c ≡ any (λ K. opened (alone t K) w h img v r c) (persistents t)
opened_by_any = any_alone

pub table_cases : Cases
table_cases = cases_met
