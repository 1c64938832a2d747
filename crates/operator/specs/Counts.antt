-- Counting a pass's changes (01, demand 3).
--     step_added t w h img i, step_removed t w h img i     what pass i, from 0, adds and removes
--     Counts t w h img     a pass gives an image; black after is black before plus added less removed; all changes together are at most
--                          the pixels; at most as many passes change a pixel as there are pixels
--     AllCounts            for every accepted table and image
-- Assumes nothing.
use Rattle.std.specs.Prelude.{List, ◌≡◌, ℕ, suc, ◌+◌, ◌*◌, ◌≤◌, Ok}
use Rattle.operator.specs.Image.{IsImage, black, added, removed, differs}
use Rattle.operator.specs.Pass.{pass, passes}
use Rattle.morph.specs.Bound.{total}
use Rattle.seq.specs.Lists.{count}
use Rattle.seq.specs.Tab.{up_to}
use Rattle.table.specs.declared.Table.{Table}
use Rattle.table.specs.Record.{record_verdict}

abbrev pub step_added : Table → ℕ → ℕ → List ℕ → ℕ → ℕ
step_added t w h img i = added (passes t w h i img) (passes t w h (suc i) img)

abbrev pub step_removed : Table → ℕ → ℕ → List ℕ → ℕ → ℕ
step_removed t w h img i = removed (passes t w h i img) (passes t w h (suc i) img)

pub record Counts (t : Table) (w h : ℕ) (img : List ℕ) : Type 0 where
  pub image : (n : ℕ) → IsImage w h (passes t w h n img)
  pub balance : black (pass t w h img) + removed img (pass t w h img) ≡ black img + added img (pass t w h img)
  pub changes : (n : ℕ) → total (step_added t w h img) n + total (step_removed t w h img) n ≤ w * h
  pub bound : (n : ℕ) → count (λ i. differs (passes t w h i img) (passes t w h (suc i) img)) (up_to n) ≤ w * h

abbrev pub AllCounts : Type 0
AllCounts = (t : Table) (w h : ℕ) (img : List ℕ) → record_verdict t ≡ Ok tt → IsImage w h img → Counts t w h img
