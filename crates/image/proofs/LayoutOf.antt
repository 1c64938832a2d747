-- The layout of a file, from what its parts are found to be one after the other.
--     layout_header                    no header
--     layout_start                     the raster starts within the file
--     layout_size, layout_length       a size or a raster length that is refused
--     layout_image                     else the file is accepted
-- Assumes nothing.
use Rattle.std.specs.Prelude.{None, Some, Ok, Err}
use mathlib.Core.Bool.{Bool, true, false, ◌&&◌}
use mathlib.Core.List.{List}
use mathlib.Core.Path.{◌≡◌, refl, sym, ap, ◌∙◌}
use Prim.Native.Nat.{ℕ, ◌+◌, ◌-◌, ◌*◌, ◌≤◌, ◌<◌}
use native.Mathlib.Omega.{arith}
use borrow.Author.Tests.{eqb-true, eq-eqb, ne_eqb}
use lib.Dec.{eqb}
use lib.ListN.{length, length-drop}
use Rattle.image.specs.declared.header.Header.{Header}
use Rattle.image.specs.Code.Layout.{raster_start, header_as, header_if, header_of, layout_of}
use Rattle.image.specs.File.{file_verdict}
use Rattle.image.specs.Header.{digits, strict, after, width_part, height_part, starts_magic, header_form, width_of, height_of, raster, space, line_feed}
use Rattle.image.specs.Size.{bad_size, row_bytes}
use Rattle.verdict.specs.declared.Rule.TheVariants as why
use Rattle.image.proofs.HeaderOf.{height_place, raster_place}
use Rattle.image.proofs.NumberAt.{byte_within}
use Rattle.seq.proofs.Lists.{and_right}
use Rattle.verdict.specs.Rules.{refusal}

record Told (f : List ℕ) (hd : Header) : Type 0 where
  form : header_form f ≡ true
  width : width_of f ≡ hd.size.width
  height : height_of f ≡ hd.size.height
  place : raster_start f ≡ hd.start

told : (f : List ℕ) {hd : Header} → header_of f ≡ Some hd → Told f hd
unfolding header_of
told f {hd} e = step (header_form f) refl e
  where
    step : (t : Bool) → header_form f ≡ t → header_if t (width_of f) (height_of f) (raster_start f) ≡ Some hd → Told f hd
    step true q e =
        let same : header_as (width_of f) (height_of f) (raster_start f) ≡ hd = cc in
        record { form = q; width = ap (λ (h : Header). h.size.width) same; height = ap (λ (h : Header). h.size.height) same; place = ap (λ (h : Header). h.start) same }
    step false q e = cc

untold : (f : List ℕ) → header_of f ≡ None → header_form f ≡ false
unfolding header_of
untold f e = step (header_form f) e
  where
    step : (t : Bool) → header_if t (width_of f) (height_of f) (raster_start f) ≡ None → t ≡ false
    step true e = cc
    step false e = refl

pub layout_header : (f : List ℕ) → header_of f ≡ None → layout_of f ≡ Err (refusal why.HeaderForm 0)
unfolding layout_of file_verdict
layout_header f e = simp (untold f e)

-- a header ends in a line feed, so that what follows it starts within the file
pub start_within : (f : List ℕ) → header_form f ≡ true → raster_start f ≤ length f
unfolding header_form raster_start
start_within f e =
    let height = and_right (strict (width_part f) && eqb (after (width_part f)) space) _ (and_right (starts_magic f) _ e) in
    let feed = eqb-true (after (height_part f)) line_feed (and_right (strict (height_part f)) _ height) in
    let inside : digits (height_part f) < length (height_part f) = byte_within (height_part f) (digits (height_part f)) (omega arith) in
    omega (arith, ap length (height_place f) ∙ length-drop (3 + (digits (width_part f) + 1)) f)

module _ (f : List ℕ) {hd : Header} (found : header_of f ≡ Some hd) where
  t : Told f hd
  t = told f found

  pub layout_start : hd.start ≤ length f
  layout_start = rw (sym t.place) (start_within f t.form)

  pub layout_size : bad_size hd.size.width hd.size.height ≡ true → layout_of f ≡ Err (refusal why.SizeRange 0)
  unfolding layout_of file_verdict
  layout_size e = simp (t.form, t.width, t.height, e)

  -- the bytes behind the header
  count : length (raster f) ≡ length f - hd.start
  count = ap length (raster_place f) ∙ length-drop (raster_start f) f ∙ ap (λ (k : ℕ). length f - k) t.place

  -- b bytes a row
  module _ {b : ℕ} (wide : b ≡ row_bytes hd.size.width) (good : bad_size hd.size.width hd.size.height ≡ false) where
    pub layout_length : (length f - hd.start ≡ b * hd.size.height → ⊥) → layout_of f ≡ Err (refusal why.RasterLength 0)
    unfolding layout_of file_verdict
    layout_length n = simp (t.form, t.width, t.height, good, count, sym wide, ne_eqb _ _ n)

    pub layout_image : length f - hd.start ≡ b * hd.size.height → layout_of f ≡ Ok hd
    unfolding layout_of file_verdict
    layout_image q = simp (t.form, t.width, t.height, t.place, good, count, sym wide, eq-eqb _ _ q)
