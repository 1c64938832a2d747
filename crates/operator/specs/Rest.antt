-- The first image that a pass leaves as it is (01, the rested sheet).
--     rested t w h img    as many passes as there are pixels
--     Rest t w h          it is reached and stays, it is the first stable image, and exchange and order carry over
--     AllRest             for every accepted table and size
-- Assumes nothing.
use Rattle.std.specs.Prelude.{List, ◌≡◌, ℕ, ◌*◌, ◌≤◌, Ok}
use Rattle.operator.specs.Image.{IsImage, exchange, Below}
use Rattle.operator.specs.Pass.{passes, Stable}
use Rattle.table.specs.declared.Table.{Table}
use Rattle.table.specs.Record.{record_verdict}

unfoldable pub rested : Table → ℕ → ℕ → List ℕ → List ℕ
rested t w h img = passes t w h (w * h) img

pub record Rest (t : Table) (w h : ℕ) : Type 0 where
  pub reached : (img : List ℕ) → IsImage w h img → Stable t w h (rested t w h img)
  pub stays : (img : List ℕ) (n m : ℕ) → Stable t w h (passes t w h n img) → n ≤ m → passes t w h m img ≡ passes t w h n img
  pub first : (img : List ℕ) → IsImage w h img → (n : ℕ) → Stable t w h (passes t w h n img) → rested t w h img ≡ passes t w h n img
  pub exchanged : (img : List ℕ) → IsImage w h img → rested t w h (exchange img) ≡ exchange (rested t w h img)
  pub ordered : (a b : List ℕ) → IsImage w h a → IsImage w h b → Below a b → Below (rested t w h a) (rested t w h b)

abbrev pub AllRest : Type 0
AllRest = (t : Table) (w h : ℕ) → record_verdict t ≡ Ok tt → Rest t w h
