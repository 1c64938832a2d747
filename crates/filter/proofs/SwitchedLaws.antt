-- What a pass switches; for an accepted table it is one pass.
--     turned_switched     the image in which the switching pixels are turned
--     turned_advanced     what is turned in the plane is what switches
--     switches_held       of an accepted table, a pixel switches exactly where it is held for the other value
--     switched_pass       so the image is that after one pass
-- Assumes nothing.
use Rattle.std.specs.Prelude.{Ok}
use mathlib.Core.Bool.{Bool, true, false, cond, not, ◌&&◌}
use mathlib.Core.List.{List}
use mathlib.Core.Path.{◌≡◌, refl, sym, ap, ◌∙◌, subst}
use Prim.Native.Nat.{ℕ, ◌+◌, ◌-◌, ◌*◌, ◌<◌}
use Rattle.filter.specs.Applied.{switches, switched_at, switched}
use Rattle.filter.specs.Code.Blocks.{Advanced}
use Rattle.filter.specs.Code.Plane.{Packed}
use Rattle.filter.specs.Code.Turn.{turned, Turned}
use Rattle.image.proofs.PixelsOf.{binary_at}
use Rattle.operator.specs.Image.{pixel, IsImage, added, removed}
use Rattle.operator.specs.Pass.{opened, held, pass_at, pass}
use Rattle.operator.proofs.Kept.{opened_kept}
use Rattle.seq.proofs.Grid.{grid_ext}
use Rattle.table.specs.declared.Table.{Table}
use Rattle.table.specs.Record.{record_verdict}

pub turned_switched : (t : Table) (w h : ℕ) (img : List ℕ) → turned (switches t w h img) w h img ≡ switched t w h img
unfolding turned switched switched_at
turned_switched t w h img = refl

-- with an accepted table an opened pixel is not held against its value
module _ (t : Table) (w h : ℕ) (img : List ℕ) (m : IsImage w h img) (ok : record_verdict t ≡ Ok tt) where
  pub switches_held : (r c : ℕ) → r < h → c < w → switches t w h img r c ≡ held t w h img (1 - pixel w img r c) r c
  unfolding switches
  switches_held r c i j = by (opened t w h img (pixel w img r c) r c) refl
    where
      by : (b : Bool) → opened t w h img (pixel w img r c) r c ≡ b → (not b && held t w h img (1 - pixel w img r c) r c) ≡ held t w h img (1 - pixel w img r c) r c
      by true e = sym (opened_kept t w h img ok m (pixel w img r c) r c (binary_at img (r * w + c) m.binary) i j e)
      by false e = refl

  switched_at_lem : (r c : ℕ) → r < h → c < w → switched_at t w h img r c ≡ pass_at t w h img r c
  unfolding switched_at pass_at
  switched_at_lem r c i j = ap (λ (b : Bool). cond b (1 - pixel w img r c) (pixel w img r c)) (switches_held r c i j)

  pub switched_pass : switched t w h img ≡ pass t w h img
  unfolding switched pass
  switched_pass = grid_ext w h (switched_at t w h img) (pass_at t w h img) switched_at_lem

-- what is turned is what switches
pub turned_advanced : {t : Table} {w h : ℕ} {img plane c e : List ℕ} {a d : ℕ} → Turned (switches t w h img) w h img plane c e a d → Advanced t w h img plane e a d
turned_advanced {t} {w} {h} {img} {plane} r =
    let s = turned_switched t w h img in
    record { packed = subst (λ (l : List ℕ). Packed w h l plane) s r.packed; more = r.more ∙ ap (added img) s; less = r.less ∙ ap (removed img) s; quiet = r.quiet }
