-- Colours exchanged come out exchanged, after any number of passes (01, demand 3).
--     Exchange    for every accepted table and image
-- Assumes nothing.
use Rattle.std.specs.Prelude.{List, ◌≡◌, ℕ, Ok}
use Rattle.operator.specs.Image.{IsImage, exchange}
use Rattle.operator.specs.Pass.{passes}
use Rattle.table.specs.declared.Table.{Table}
use Rattle.table.specs.Record.{record_verdict}

abbrev pub Exchange : Type 0
Exchange =
    (t : Table) (w h : ℕ) (img : List ℕ) → record_verdict t ≡ Ok tt → IsImage w h img → (n : ℕ)
    → passes t w h n (exchange img) ≡ exchange (passes t w h n img)
