-- A pixel changes in at most one pass (01, demand 3).
--     SingleChange    two passes that change a pixel are the same pass
-- Assumes nothing.
use Rattle.std.specs.Prelude.{true, List, ◌≡◌, ℕ, suc, Ok}
use Rattle.operator.specs.Image.{IsImage, differs_at}
use Rattle.operator.specs.Pass.{passes}
use Rattle.table.specs.declared.Table.{Table}
use Rattle.table.specs.Record.{record_verdict}

abbrev pub SingleChange : Type 0
SingleChange =
    (t : Table) (w h : ℕ) (img : List ℕ) → record_verdict t ≡ Ok tt → IsImage w h img → (k i j : ℕ)
    → differs_at (passes t w h i img) (passes t w h (suc i) img) k ≡ true
    → differs_at (passes t w h j img) (passes t w h (suc j) img) k ≡ true
    → i ≡ j
