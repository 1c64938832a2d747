-- What an accepted file is, and what a refused one is refused by.
--     FileGood, file_good, good_file     each rule of an accepted file, and an accepted file from its rules
--     image_binary                       every pixel of a file is 0 or 1
--     AcceptedFile, accepted_file        the image that it holds, as other crates use it
--     file_says, file_numbers_lem            what a file is refused by, and by which numbers
-- Assumes nothing.
use Rattle.std.specs.Prelude.{Ok}
use mathlib.Core.Bool.{true, false, not}
use mathlib.Core.List.{List, [], ◌∷◌}
use mathlib.Core.Path.{◌≡◌, refl}
use Prim.Native.Nat.{ℕ, ◌*◌}
use native.Mathlib.Omega.{arith}
use borrow.Author.Tests.{not-false, eqb-true, eq-eqb, le-leb}
use lib.Dec.{leb, eqb}
use lib.ListN.{length}
use Rattle.image.specs.Code.Rows.{Sides}
use Rattle.image.specs.File.{raster_pixel, pixels_of, file_verdict, image_of}
use Rattle.image.specs.Header.{raster, header_form, width_of, height_of}
use Rattle.image.specs.Size.{bad_size, row_bytes}
use Rattle.verdict.specs.declared.Rule.TheVariants as why
use Rattle.image.proofs.RowBytes.{sides}
use Rattle.seq.proofs.Grid.{grid}
use Rattle.seq.proofs.Members.{all_tab}
use Rattle.seq.proofs.Tab.{length_tab}
use Rattle.seq.specs.Lists.{all}
use Rattle.verdict.specs.Numbers.{Says, accepts, by, OneOf}
use Rattle.verdict.specs.Rules.{refusal, refuse_if, Refusal}
use Rattle.verdict.proofs.Numbers.{says_if, says_or}
use Rattle.verdict.proofs.Rules.{or_else_left, or_else_right, refuse_if_accepted}

pub record FileGood (f : List ℕ) : Type 0 where
  pub form : header_form f ≡ true
  pub size : bad_size (width_of f) (height_of f) ≡ false
  pub count : length (raster f) ≡ row_bytes (width_of f) * height_of f

pub file_good : (f : List ℕ) → file_verdict f ≡ Ok tt → FileGood f
unfolding file_verdict
file_good f e =
    let e₁ = or_else_right (refuse_if (not (header_form f)) why.HeaderForm 0) _ e in
    let e₂ = or_else_right (refuse_if (bad_size (width_of f) (height_of f)) why.SizeRange 0) _ e₁ in
    record {
      form = not-false _ (refuse_if_accepted (not (header_form f)) why.HeaderForm 0 (or_else_left _ _ e));
      size = refuse_if_accepted (bad_size (width_of f) (height_of f)) why.SizeRange 0 (or_else_left _ _ e₁);
      count = eqb-true _ _ (not-false _ (refuse_if_accepted (not (eqb (length (raster f)) (row_bytes (width_of f) * height_of f))) why.RasterLength 0 (or_else_left _ _ e₂)));
    }

pub good_file : (f : List ℕ) → FileGood f → file_verdict f ≡ Ok tt
unfolding file_verdict
good_file f g = simp (g.form, g.size, eq-eqb _ _ g.count)

-- the image of an accepted file: its size, how many pixels it has, and that each is 0 or 1
pub record AcceptedFile (f : List ℕ) : Type 0 where
  pub sized : bad_size (width_of f) (height_of f) ≡ false
  pub within : Sides (width_of f) (height_of f)
  pub counted : length (image_of f) ≡ width_of f * height_of f
  pub binary : all (λ v. leb v 1) (image_of f) ≡ true

-- whether it is accepted or not
pub image_binary : (f : List ℕ) → all (λ v. leb v 1) (image_of f) ≡ true
unfolding image_of pixels_of raster_pixel
image_binary f =
    let pixel = grid (width_of f) (raster_pixel (width_of f) (raster f)) in
    all_tab (λ v. leb v 1) pixel (width_of f * height_of f) (λ i l. le-leb (pixel i) 1 (omega arith))

pub accepted_file : (f : List ℕ) → file_verdict f ≡ Ok tt → AcceptedFile f
unfolding image_of pixels_of
accepted_file f e =
    let good = (file_good f e).size in
    record {
      sized = good;
      within = sides (width_of f) (height_of f) good;
      counted = length_tab _ (width_of f * height_of f);
      binary = image_binary f;
    }

pub file_says : {P : Refusal → Type 0} (f : List ℕ) → P (refusal why.HeaderForm 0) → P (refusal why.SizeRange 0) → P (refusal why.RasterLength 0) → Says P (file_verdict f)
unfolding file_verdict
file_says f a b c =
    says_or (says_if (not (header_form f)) why.HeaderForm 0 a)
    (says_or (says_if (bad_size (width_of f) (height_of f)) why.SizeRange 0 b)
    (says_or (says_if (not (eqb (length (raster f)) (row_bytes (width_of f) * height_of f))) why.RasterLength 0 c) accepts))

pub file_numbers_lem : (f : List ℕ) → OneOf (9 ∷ 10 ∷ 11 ∷ []) (file_verdict f)
file_numbers_lem f = file_says f (by refl) (by refl) (by refl)
