-- One pass is the report's operator π = (id ∧ ψβ) ∨ ψα, and the plain rule is ψ.
--     formula_one                            (x ∧ y) ∨ z on pixels
--     opened_alpha                           α is `opened` for black
--     site_value, black_shows, site_black    the value of a pixel and of one that stands for a position
--     opposed_shows, plain_shows, psi_shows, alpha_shows, beta_shows, modified_shows     the operators on lists are those on sets
--     all_heijmans                           the theorem
-- Assumes nothing.
use mathlib.Core.Bool.{Bool, true, false, ◌&&◌, ◌||◌}
use mathlib.Core.List.{List}
use mathlib.Core.Path.{◌≡◌, refl, sym, ap, ap₂, ◌∙◌}
use Prim.Native.Nat.{ℕ, ◌+◌, ◌*◌, ◌<◌, min, max}
use lib.Dec.{eqb}
use Rattle.operator.specs.Image.{pixel}
use Rattle.operator.specs.Heijmans.{black_at, psi_at, psi, alpha, beta, modified, AllHeijmans}
use Rattle.operator.specs.Plain.{opposed, plain_at, plain}
use Rattle.operator.specs.Window.{site_row, site_col}
use Rattle.morph.specs.Heijmans as sites
use Rattle.morph.specs.Operator as operator
use Rattle.morph.specs.System.{System, Image}
use Rattle.morph.proofs.Heijmans.{heijmans}
use Rattle.seq.specs.Lists.{any, all, one, same}
use Rattle.seq.proofs.Lists.{any_ext, all_ext}
use Rattle.table.specs.declared.Table.{Table}
use Rattle.table.specs.Mask.{across, down, positions}
use Rattle.table.specs.Record.{masks}
use Rattle.operator.proofs.Image.{same_black, black_of, Shows, image_shows, shows_equal}
use Rattle.operator.proofs.Image.{shows_pixel, shows_value, shows_tab, shows_pixels, shows_exchange}
use Rattle.operator.proofs.Operator.{hits_any, hits_all, opened_shows, turned_one, pass_shows}
use Rattle.operator.proofs.Placed.{clamp_below}
use Rattle.operator.proofs.System.{system, lawful}
use Rattle.operator.proofs.Translates.{site_at}

formula_one : (x y z : Bool) → max (min (one x) (one y)) (one z) ≡ one ((x && y) || z)
formula_one true true true = refl
formula_one true true false = refl
formula_one true false true = refl
formula_one true false false = refl
formula_one false true true = refl
formula_one false true false = refl
formula_one false false true = refl
formula_one false false false = refl

opened_alpha : (𝓢 : System ℕ) (X : Image ℕ) (p : ℕ) → operator.opened 𝓢 X true p ≡ sites.alpha 𝓢 X p
unfolding operator.opened sites.alpha
opened_alpha 𝓢 X p = any_ext _ _ (𝓢.blocks p) (λ T m. all_ext _ _ T (λ q n. same_black (X q)))

module _ (t : Table) {w h : ℕ} {img : List ℕ} {X : Image ℕ} (s : Shows w h img X) where
  site_value : (v : Bool) (r c : ℕ) → r < h → c < w → (n : ℕ)
      → eqb (pixel w img (site_row h r n) (site_col w c n)) (one v) ≡ same (X (site_at w h r c n)) v
  site_value v r c i j n = shows_value s v _ _ (clamp_below h r (down n) i) (clamp_below w c (across n) j)

  black_shows : (r c : ℕ) → r < h → c < w → eqb (pixel w img r c) 1 ≡ X (r * w + c)
  black_shows r c i j = shows_value s true r c i j ∙ same_black (X (r * w + c))

  site_black : (r c : ℕ) → r < h → c < w → (n : ℕ) → black_at w h img r c n ≡ X (site_at w h r c n)
  site_black r c i j n = site_value true r c i j n ∙ same_black (X (site_at w h r c n))

  opposed_shows : (v : Bool) (r c : ℕ) → r < h → c < w
      → opposed t w h img (one v) r c ≡ any (all (λ q. same (X q) v)) ((system t w h).hits (r * w + c))
  unfolding opposed
  opposed_shows v r c i j =
      any_ext _ _ (masks t) (λ e m. all_ext _ _ (positions e) (λ n k. site_value v r c i j n))
      ∙ sym (hits_any t w h r c i j (λ q. same (X q) v))

  plain_shows : Shows w h (plain t w h img) (sites.plain (system t w h) X)
  unfolding plain plain_at sites.plain
  plain_shows = shows_pixels (λ r c i j.
      turned_one (λ v. opposed t w h img v r c) (λ v. any (all (λ q. same (X q) v)) ((system t w h).hits (r * w + c)))
      (pixel w img r c) (X (r * w + c)) (shows_pixel s r c i j) (λ v. opposed_shows v r c i j))

  psi_shows : Shows w h (psi t w h img) (sites.psi (system t w h) X)
  unfolding psi psi_at sites.psi sites.dilations sites.erosions
  psi_shows = shows_pixels (λ r c i j. ap one (ap₂ ◌||◌
      (ap₂ ◌&&◌ (black_shows r c i j)
      (all_ext _ _ (masks t) (λ e m. any_ext _ _ (positions e) (λ n k. site_black r c i j n)) ∙ sym (hits_all t w h r c i j X)))
      (any_ext _ _ (masks t) (λ e m. all_ext _ _ (positions e) (λ n k. site_black r c i j n)) ∙ sym (hits_any t w h r c i j X))))

  alpha_shows : Shows w h (alpha t w h img) (sites.alpha (system t w h) X)
  unfolding alpha
  alpha_shows = shows_pixels (λ r c i j. ap one (opened_shows t s true r c i j ∙ opened_alpha (system t w h) X (r * w + c)))

module _ (t : Table) {w h : ℕ} {img : List ℕ} {X : Image ℕ} (s : Shows w h img X) where
  beta_shows : Shows w h (beta t w h img) (sites.beta (system t w h) X)
  unfolding beta sites.beta
  beta_shows = shows_exchange (alpha_shows t (shows_exchange s))

  modified_shows : Shows w h (modified t w h img) (sites.modified (system t w h) X)
  unfolding modified sites.modified
  modified_shows =
      let b = psi_shows t beta_shows in
      let a = psi_shows t (alpha_shows t s) in
      shows_tab (λ i l.
      rw (s.value i l, b.value i l, a.value i l)
      (formula_one (X i) (sites.psi (system t w h) (sites.beta (system t w h) X) i) (sites.psi (system t w h) (sites.alpha (system t w h) X) i)))

pub all_heijmans : AllHeijmans
all_heijmans t w h img ok m =
    let s = image_shows m in
    let law = heijmans (lawful t w h ok) in
    record {
      pass_modified = shows_equal (pass_shows t s) (modified_shows t s) (λ i l. law.next_modified (black_of img) i);
      plain_psi = shows_equal (plain_shows t s) (psi_shows t s) (λ i l. law.psi_plain (black_of img) i);
    }
