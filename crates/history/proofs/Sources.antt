-- What an accepted source gives, and what it is refused by.
--     three_images                   three accepted files of one size hold images of that size
--     source_parts_lem                   its parts make up its height
--     source_listed                  parts of sizes within the limits
--     source_image                   an image
--     source_length                  as many pixels as its size says
--     file_numbers, file_numbers_lem, three_numbers     the numbers that files are refused by
--     source_numbers                 the numbers that a source is refused by
--     area_verdict x n                its rules, then 13 on an area of n bytes
--     source_read_lem, source_area_lem       its reader answers by them, and fills the front of the area
-- Assumes nothing.
use Rattle.std.specs.Prelude.{Ok}
use mathlib.Core.List.{List, [], ◌∷◌}
use mathlib.Core.Path.{◌≡◌, refl}
use Prim.Native.Nat.{ℕ, ◌*◌}
use native.Mathlib.Omega.{arith}
use lib.ListN.{length}
use Rattle.history.specs.Source.{Source, from_file, from_three, from_strip, source_verdict, source_width, source_height, source_parts, source_pixels, source_read, source_area}
use Rattle.history.proofs.Images.{file_image}
use Rattle.image.proofs.Facts.{accepted_file, file_says}
use Rattle.image.proofs.ThreeFiles.{three_good, three_says}
use Rattle.image.specs.File.{area_rule, image_verdict, read_as, image_read, image_area, image_of}
use Rattle.image.specs.Header.{width_of, height_of}
use Rattle.image.specs.Majority.{three_verdict, majority_verdict, majority_read, majority_area}
use Rattle.image.proofs.Shapes.{Listed, shape_listed, one_listed, shape_wide, shape_rows}
use Rattle.image.proofs.Strips.{strip_good, strip_binary, strip_numbers}
use Rattle.image.specs.Strip.{strip_read_verdict, strip_read, strip_area}
use Rattle.operator.proofs.Majority.{majority_image}
use Rattle.operator.specs.Image.{IsImage}
use Rattle.seq.specs.Lists.{sum_of}
use Rattle.verdict.specs.Numbers.{by, OneOf}
use Rattle.verdict.specs.Rules.{or_else, Verdict}
use Rattle.verdict.proofs.Numbers.{one_of_more}
use Rattle.verdict.specs.Writer.{output_of}

pub record ThreeImages (f g h : List ℕ) : Type 0 where
  pub first : IsImage (width_of f) (height_of f) (image_of f)
  pub second : IsImage (width_of f) (height_of f) (image_of g)
  pub third : IsImage (width_of f) (height_of f) (image_of h)

pub three_images : (f g h : List ℕ) → three_verdict f g h ≡ Ok tt → ThreeImages f g h
three_images f g h e =
    let x = three_good f g h e in
    record {
      first = file_image f x.first;
      second = rw (x.second_size.0, x.second_size.1) at (file_image g x.second);
      third = rw (x.third_size.0, x.third_size.1) at (file_image h x.third);
    }

pub source_parts_lem : (x : Source) → sum_of (source_parts x) ≡ source_height x
source_parts_lem (from_file f) = omega arith
source_parts_lem (from_three f g h) = omega arith
source_parts_lem (from_strip p px) = refl

pub source_listed : (x : Source) → source_verdict x ≡ Ok tt → Listed (source_width x) (source_parts x)
source_listed (from_file f) e = one_listed (accepted_file f e).within
source_listed (from_three f g h) e = one_listed (accepted_file f (three_good f g h e).first).within
source_listed (from_strip p px) e = shape_listed (strip_good p px e).shape

pub source_image : (x : Source) → source_verdict x ≡ Ok tt → IsImage (source_width x) (source_height x) (source_pixels x)
source_image (from_file f) e = file_image f e
source_image (from_three f g h) e = let i = three_images f g h e in majority_image i.first i.second i.third
source_image (from_strip p px) e =
    let g = strip_good p px e in
    record { wide = (shape_wide g.shape).0; high = (shape_rows g.shape).0; sized = g.bytes.count; binary = strip_binary g }

pub source_length : (x : Source) → source_verdict x ≡ Ok tt → length (source_pixels x) ≡ source_width x * source_height x
source_length x e = (source_image x e).sized

-- 12 and 23 never come from files
abbrev pub file_numbers : List ℕ
file_numbers = 9 ∷ 10 ∷ 11 ∷ 26 ∷ []

pub file_numbers_lem : (f : List ℕ) → OneOf file_numbers (source_verdict (from_file f))
file_numbers_lem f = file_says f (by refl) (by refl) (by refl)

pub three_numbers : (f g h : List ℕ) → OneOf file_numbers (source_verdict (from_three f g h))
three_numbers f g h = three_says f g h (by refl) (by refl) (by refl) (by refl) (by refl)

pub source_numbers : (x : Source) → OneOf (9 ∷ 10 ∷ 11 ∷ 12 ∷ 23 ∷ 26 ∷ []) (source_verdict x)
source_numbers (from_file f) = one_of_more (file_numbers_lem f) refl
source_numbers (from_three f g h) = one_of_more (three_numbers f g h) refl
source_numbers (from_strip p px) = one_of_more (strip_numbers p px) refl

abbrev pub area_verdict : Source → ℕ → Verdict
area_verdict x n = or_else (source_verdict x) (area_rule (source_width x) (source_height x) n)

pub source_read_lem : (x : Source) (n : ℕ) → source_read x n ≡ read_as (area_verdict x n) (source_width x) (source_height x)
unfolding image_read image_verdict majority_read majority_verdict strip_read strip_read_verdict
source_read_lem (from_file f) n = refl
source_read_lem (from_three f g h) n = refl
source_read_lem (from_strip p px) n = refl

pub source_area_lem : (x : Source) (area : List ℕ) → source_area x area ≡ output_of (area_verdict x (length area)) (source_pixels x) area
unfolding image_area image_verdict image_of majority_area majority_verdict strip_area strip_read_verdict
source_area_lem (from_file f) area = refl
source_area_lem (from_three f g h) area = refl
source_area_lem (from_strip p px) area = refl
