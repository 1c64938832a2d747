-- A pixel changes in at most one pass.
--     changed          a pixel that a pass changes is a site that it changes
--     single_change    the theorem
-- Assumes nothing.
use mathlib.Core.Bool.{true}
use mathlib.Core.List.{List}
use mathlib.Core.Path.{◌≡◌, sym, ◌∙◌}
use Prim.Native.Nat.{ℕ, suc}
use Rattle.operator.specs.Image.{IsImage, differs_at}
use Rattle.operator.specs.Pass.{passes}
use Rattle.operator.specs.SingleChange.{SingleChange}
use Rattle.morph.specs.Operator.{changes}
use Rattle.morph.proofs.SingleChange as sites
use Rattle.table.specs.declared.Table.{Table}
use Rattle.operator.proofs.Image.{black_of, image_shows, differs_shows, differs_inside}
use Rattle.operator.proofs.Operator.{passes_shows}
use Rattle.operator.proofs.System.{system, lawful}

changed : (t : Table) (w h : ℕ) (img : List ℕ) → IsImage w h img → (k n : ℕ)
    → differs_at (passes t w h n img) (passes t w h (suc n) img) k ≡ true → changes (system t w h) (black_of img) n k ≡ true
unfolding changes
changed t w h img m k n d =
    let before = passes_shows t (image_shows m) n in
    let after = passes_shows t (image_shows m) (suc n) in
    sym (differs_shows before after k (differs_inside before after k d)) ∙ d

pub single_change : SingleChange
single_change t w h img ok m k i j a b =
    sites.single_change (lawful t w h ok) (black_of img) k i j (changed t w h img m k i a) (changed t w h img m k j b)
