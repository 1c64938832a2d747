-- One pass as the report writes it (000, Proposition 6.7): π = (id ∧ ψβ) ∨ ψα, over the same elements and the same edge rule.
--     black_at w h img r c n   the pixel that stands for position n at (r, c) is black
--     psi_at t w h img r c     ψ = (id ∧ ⋀ δ_Ǎ) ∨ ⋁ ε_A (000, 5.9): black and every element hits black, or some element is all black
--     psi t w h img           the image after ψ
--     alpha t w h img         α, the opening: the black pixels that lie in a translate that is wholly inside and black
--     beta t w h img          β, the negative of α
--     modified t w h img      π
--     Heijmans t w h img      a pass is π, the plain rule is ψ; AllHeijmans: for every accepted table and image
-- Assumes nothing.
use Rattle.std.specs.Prelude.{Bool, ◌&&◌, ◌||◌, List, ◌≡◌, ℕ, ◌*◌, ◌/◌, ◌%◌, min, max, eqb, get_or, Ok}
use Rattle.operator.specs.Image.{pixel, IsImage, exchange}
use Rattle.operator.specs.Pass.{opened, pass}
use Rattle.operator.specs.Plain.{plain}
use Rattle.operator.specs.Window.{site_row, site_col}
use Rattle.seq.specs.Lists.{one, any, all}
use Rattle.seq.specs.Tab.{tab}
use Rattle.table.specs.declared.Table.{Table}
use Rattle.table.specs.Mask.{positions}
use Rattle.table.specs.Record.{masks, record_verdict}

abbrev pub black_at : ℕ → ℕ → List ℕ → ℕ → ℕ → ℕ → Bool
black_at w h img r c n = eqb (pixel w img (site_row h r n) (site_col w c n)) 1

unfoldable pub psi_at : Table → ℕ → ℕ → List ℕ → ℕ → ℕ → Bool
psi_at t w h img r c =
    (eqb (pixel w img r c) 1 && all (λ e. any (black_at w h img r c) (positions e)) (masks t))
    || any (λ e. all (black_at w h img r c) (positions e)) (masks t)

unfoldable pub psi : Table → ℕ → ℕ → List ℕ → List ℕ
psi t w h img = tab (λ i. one (psi_at t w h img (i / w) (i % w))) (w * h)

unfoldable pub alpha : Table → ℕ → ℕ → List ℕ → List ℕ
alpha t w h img = tab (λ i. one (opened t w h img 1 (i / w) (i % w))) (w * h)

unfoldable pub beta : Table → ℕ → ℕ → List ℕ → List ℕ
beta t w h img = exchange (alpha t w h (exchange img))

unfoldable pub modified : Table → ℕ → ℕ → List ℕ → List ℕ
modified t w h img =
    tab (λ i. max (min (get_or img i 0) (get_or (psi t w h (beta t w h img)) i 0)) (get_or (psi t w h (alpha t w h img)) i 0)) (w * h)

pub record Heijmans (t : Table) (w h : ℕ) (img : List ℕ) : Type 0 where
  pub pass_modified : pass t w h img ≡ modified t w h img
  pub plain_psi : plain t w h img ≡ psi t w h img

abbrev pub AllHeijmans : Type 0
AllHeijmans = (t : Table) (w h : ℕ) (img : List ℕ) → record_verdict t ≡ Ok tt → IsImage w h img → Heijmans t w h img
