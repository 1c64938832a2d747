-- What the readers find and answer, from the layout of a file.
--     read_refused, size_refused        the file is refused
--     read_sides, read_start, read_length     an image's size is within the limits, and its raster is the end of the file, of the length due
--     read_image, size_image            answer and area by rule 13; the size
-- Assumes nothing.
use Rattle.std.specs.Prelude.{Ok, Err}
use mathlib.Core.List.{List}
use mathlib.Core.Path.{◌≡◌, refl, ap, ◌∙◌}
use Prim.Native.Nat.{ℕ, ◌-◌, ◌*◌, ◌≤◌}
use lib.ListN.{length, take, drop}
use Rattle.image.specs.declared.header.Header.{Header}
use Rattle.image.specs.Code.Layout.{raster_start, header_as, layout_of}
use Rattle.image.specs.Code.Rows.{Sides}
use Rattle.image.specs.Code.Three.{size_of}
use Rattle.image.specs.File.{pixels_of, file_verdict, area_rule, read_as, image_verdict, image_read, image_area, ImageRead}
use Rattle.image.specs.Header.{width_of, height_of}
use Rattle.image.specs.Size.{row_bytes}
use Rattle.image.proofs.Facts.{file_good}
use Rattle.image.proofs.HeaderOf.{raster_part}
use Rattle.image.proofs.LayoutOf.{start_within}
use Rattle.image.proofs.RowBytes.{sides}
use Rattle.verdict.specs.Rules.{Verdict, result_of, Refusal}
use Rattle.verdict.specs.Writer.{output_of}

-- an accepted file with its size, and the raster as a part of the file
record Told (f : List ℕ) (hd : Header) : Type 0 where
  verdict : file_verdict f ≡ Ok tt
  width : width_of f ≡ hd.size.width
  height : height_of f ≡ hd.size.height
  place : raster_start f ≡ hd.start

told : (f : List ℕ) {hd : Header} → layout_of f ≡ Ok hd → Told f hd
unfolding layout_of
told f {hd} e = step (file_verdict f) refl e
  where
    step : (v : Verdict) → file_verdict f ≡ v → result_of v (header_as (width_of f) (height_of f) (raster_start f)) ≡ Ok hd → Told f hd
    step (Ok _) q e =
        let same : header_as (width_of f) (height_of f) (raster_start f) ≡ hd = cc in
        record { verdict = q; width = ap (λ (h : Header). h.size.width) same; height = ap (λ (h : Header). h.size.height) same; place = ap (λ (h : Header). h.start) same }
    step (Err r) q e = cc

untold : (f : List ℕ) (r : Refusal) → layout_of f ≡ Err r → file_verdict f ≡ Err r
unfolding layout_of
untold f r e = step (file_verdict f) e
  where
    step : (v : Verdict) → result_of v (header_as (width_of f) (height_of f) (raster_start f)) ≡ Err r → v ≡ Err r
    step (Ok _) e = cc
    step (Err q) e = cc

pub read_refused : (f : List ℕ) {r : Refusal} → layout_of f ≡ Err r → (area : List ℕ)
    → (Err r ≡ image_read f (length area)) × (area ≡ image_area f area)
unfolding image_read image_area image_verdict
read_refused f {r} e area = (simp (untold f r e), simp (untold f r e))

pub size_refused : (f : List ℕ) {r : Refusal} → layout_of f ≡ Err r → Err r ≡ size_of f
unfolding size_of
size_refused f {r} e = simp (untold f r e)

module _ (f : List ℕ) {hd : Header} (image : layout_of f ≡ Ok hd) where
  t : Told f hd
  t = told f image

  pub read_sides : Sides hd.size.width hd.size.height
  read_sides = rw (t.width, t.height) at (sides (width_of f) (height_of f) (file_good f t.verdict).size)

  pub read_start : hd.start ≤ length f
  read_start = rw t.place at (start_within f (file_good f t.verdict).form)

  pub read_length : length (take (length f - hd.start) (drop hd.start f)) ≡ row_bytes hd.size.width * hd.size.height
  read_length = rw (raster_part f hd.start t.place, t.width, t.height) at (file_good f t.verdict).count

  pub read_image : (area : List ℕ) {a : ImageRead} {after : List ℕ} → a ≡ read_as (area_rule hd.size.width hd.size.height (length area)) hd.size.width hd.size.height
      → after ≡ output_of (area_rule hd.size.width hd.size.height (length area)) (pixels_of hd.size.width hd.size.height (take (length f - hd.start) (drop hd.start f))) area
      → (a ≡ image_read f (length area)) × (after ≡ image_area f area)
  unfolding image_read image_area image_verdict
  read_image area p q =
      (p ∙ simp (t.verdict, t.width, t.height), q ∙ simp (t.verdict, t.width, t.height, raster_part f hd.start t.place))

  pub size_image : Ok hd.size ≡ size_of f
  unfolding size_of
  size_image = simp (t.verdict, t.width, t.height)
