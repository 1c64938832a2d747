-- Order is kept, after any number of passes (01, demand 3).
--     Order    for every accepted table and two images, one below the other
-- Assumes nothing.
use Rattle.std.specs.Prelude.{List, ◌≡◌, ℕ, Ok}
use Rattle.operator.specs.Image.{IsImage, Below}
use Rattle.operator.specs.Pass.{passes}
use Rattle.table.specs.declared.Table.{Table}
use Rattle.table.specs.Record.{record_verdict}

abbrev pub Order : Type 0
Order =
    (t : Table) (w h : ℕ) (a b : List ℕ) → record_verdict t ≡ Ok tt → IsImage w h a → IsImage w h b → Below a b → (n : ℕ)
    → Below (passes t w h n a) (passes t w h n b)
