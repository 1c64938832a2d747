-- Several persistent elements (02, T-01: a pixel is covered when a translate of any of them covers it).
--     AnyAlone    a pixel is opened exactly when some persistent element of the table, alone, opens it
-- Assumes nothing.
use Rattle.std.specs.Prelude.{List, ◌≡◌, ℕ}
use Rattle.operator.specs.Pass.{opened}
use Rattle.seq.specs.Lists.{any}
use Rattle.table.specs.declared.Table.{Table}
use Rattle.table.specs.Ranks.{alone}
use Rattle.table.specs.Record.{persistents}

abbrev pub AnyAlone : Type 0
AnyAlone = (t : Table) (w h : ℕ) (img : List ℕ) (v r c : ℕ) → opened t w h img v r c ≡ any (λ K. opened (alone t K) w h img v r c) (persistents t)
