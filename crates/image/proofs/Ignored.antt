-- Unused bits are ignored: the proof of specs/Ignored.
--     SameImage, same_image     files that differ in unused bits alone have the same verdict, size and pixels
--     image_numbers             the numbers that the reader refuses by
--     padding_ignored           the claim
-- Assumes nothing.
use mathlib.Core.List.{List, [], ◌∷◌}
use mathlib.Core.Path.{◌≡◌, refl, sym, ap, ◌∙◌}
use Prim.Native.Nat.{ℕ, ◌*◌}
use lib.Dec.{ltb}
use lib.ListN.{length}
use Rattle.image.specs.File.{file_verdict, image_verdict, image_read, image_area, image_of}
use Rattle.image.specs.Header.{raster, header_form, width_of, height_of}
use Rattle.image.specs.Ignored.{PaddingIgnored}
use Rattle.image.specs.Padding.{cleared_byte, cleared_raster, cleared}
use Rattle.verdict.specs.declared.Rule.TheVariants as why
use Rattle.image.proofs.Facts.{file_numbers_lem}
use Rattle.image.proofs.HeaderParts.{HeaderRead, header_same}
use Rattle.image.proofs.Padding.{pixels_cleared}
use Rattle.seq.proofs.Tab.{length_tab}
use Rattle.verdict.specs.Numbers.{by, OneOf}
use Rattle.verdict.specs.Writer.{output_of}
use Rattle.verdict.proofs.Numbers.{says_if, says_or, one_of_more, one_of_other}

pub record SameImage (f g : List ℕ) : Type 0 where
  pub verdict : file_verdict f ≡ file_verdict g
  pub width : width_of f ≡ width_of g
  pub height : height_of f ≡ height_of g
  pub pixels : image_of f ≡ image_of g

-- a file beside itself with zeros in its unused bits
module _ (f : List ℕ) where
  abbrev zeros : List ℕ
  zeros = cleared_raster (width_of f) (raster f)

  long : length zeros ≡ length (raster f)
  long = length_tab (cleared_byte (width_of f) (raster f)) (length (raster f))

  same_header : HeaderRead (cleared f) (header_form f) (width_of f) (height_of f) zeros
  unfolding cleared
  same_header = header_same f zeros long

  as_cleared : SameImage (cleared f) f
  unfolding file_verdict image_of
  as_cleared =
      let h = same_header in
      record {
        verdict = rw (h.formed, h.width, h.height, h.rest, long);
        width = h.width;
        height = h.height;
        pixels = rw (h.width, h.height, h.rest) (pixels_cleared (width_of f) (raster f) (height_of f));
      }

pub same_image : (f g : List ℕ) → cleared f ≡ cleared g → SameImage f g
same_image f g e =
    let x = as_cleared f in
    let y = as_cleared g in
    record {
      verdict = sym x.verdict ∙ ap file_verdict e ∙ y.verdict;
      width = sym x.width ∙ ap width_of e ∙ y.width;
      height = sym x.height ∙ ap height_of e ∙ y.height;
      pixels = sym x.pixels ∙ ap image_of e ∙ y.pixels;
    }

pub image_numbers : (f : List ℕ) (n : ℕ) → OneOf (9 ∷ 10 ∷ 11 ∷ 13 ∷ []) (image_verdict f n)
unfolding image_verdict
image_numbers f n = says_or (one_of_more (file_numbers_lem f) refl) (says_if (ltb n (width_of f * height_of f)) why.AreaShort 0 (by refl))

same_answer : (f g : List ℕ) → cleared f ≡ cleared g → (n : ℕ) → image_read f n ≡ image_read g n
unfolding image_read image_verdict
same_answer f g e n = let s = same_image f g e in rw (s.verdict, s.width, s.height)

area_filled : (f area : List ℕ) → image_area f area ≡ output_of (image_verdict f (length area)) (image_of f) area
unfolding image_area image_of
area_filled f area = refl

same_area : (f g : List ℕ) → cleared f ≡ cleared g → (area : List ℕ) → image_area f area ≡ image_area g area
unfolding image_verdict
same_area f g e area =
    let s = same_image f g e in
    area_filled f area ∙ rw (s.verdict, s.width, s.height, s.pixels) (sym (area_filled g area))

pub padding_ignored : PaddingIgnored
padding_ignored = record {
  answer = same_answer;
  area = same_area;
  never_12 = λ f n r q. one_of_other (image_numbers f n) refl q;
}
