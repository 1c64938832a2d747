-- What the writer answers and leaves in the output, from the verdict on the pixels.
--     bytes_length      the length of the file of an image
--     put_filled        header and rows that are stored one after the other are the file
--     bytes_binary, binary     accepted pixels are 0 or 1
--     write_refused, write_short, write_filled     the pixels are refused; the output is too short; the output is filled
-- Assumes nothing.
use Rattle.std.specs.Prelude.{Ok, Err}
use mathlib.Core.List.{List, ◌++◌}
use mathlib.Core.Logic.{⊎_elim}
use mathlib.Core.Path.{◌≡◌, ap, ◌∙◌}
use Prim.Native.Nat.{ℕ, ◌+◌, ◌-◌, ◌*◌, ◌≤◌, ◌<◌}
use native.Mathlib.Nat.{zero-add}
use native.Mathlib.Omega.{arith}
use borrow.Author.Tests.{lt-ltb, le-ltb}
use lib.ListN.{length, get_or, take, drop, length-append, get_or-eq_default}
use lib.Seq.{sets, length-sets}
use Rattle.image.specs.Code.Rows.{Binary, raster_of}
use Rattle.image.specs.File.{pixel_verdict, row_byte, image_bytes, write_verdict, image_written, image_output}
use Rattle.image.specs.Header.{header}
use Rattle.image.specs.Size.{row_bytes}
use Rattle.verdict.specs.declared.Rule.TheVariants as why
use Rattle.image.proofs.PixelsOf.{BytesGood, PixelsGood}
use Rattle.seq.proofs.Grid.{grid}
use Rattle.seq.proofs.Stores.{sets_append, sets_front, sets_part}
use Rattle.seq.proofs.Tab.{length_tab}
use Rattle.seq.proofs.Tests.{lt_or_le}
use Rattle.verdict.specs.Rules.{refusal, Refusal}
use Rattle.verdict.specs.Writer.{over}

module _ (w h : ℕ) (px : List ℕ) where
  pub bytes_length : length (image_bytes w h px) ≡ length (header w h) + row_bytes w * h
  unfolding image_bytes
  bytes_length = length-append (header w h) (raster_of w h px) ∙ ap (λ (n : ℕ). length (header w h) + n) (length_tab (grid (row_bytes w) (row_byte w px)) (row_bytes w * h))

  pub write_refused : {r : Refusal} → pixel_verdict w h px ≡ Err r → (out : List ℕ)
      → (Err r ≡ image_written w h px (length out)) × (out ≡ image_output w h px out)
  unfolding image_written image_output write_verdict
  write_refused e out = (simp e, simp e)

  -- header and rows are one run of stores from the front
  pub put_filled : (out : List ℕ) {l new : List ℕ} {start end : ℕ} → length (image_bytes w h px) ≤ length out → l ≡ sets out 0 (header w h)
      → start ≡ length (header w h) → end ≡ length (image_bytes w h px) → new ≡ raster_of w h px
      → take start l ++ (new ++ drop (end - start) (drop start l)) ≡ over (image_bytes w h px) out
  unfolding image_bytes over
  put_filled out {l} {new} {start} {end} fits e q z r =
      let long : length new ≡ row_bytes w * h = ap length r ∙ length_tab (grid (row_bytes w) (row_byte w px)) (row_bytes w * h) in
      sets_part new l start (end - start) (omega (arith, long, z, q, bytes_length)) (omega (arith, z, q, bytes_length, fits, ap length e ∙ length-sets out 0 (header w h)))
      ∙ rw (e, q, r, ← zero-add (length (header w h))) (sets_append (header w h) (raster_of w h px) out 0)
      ∙ sets_front (header w h ++ raster_of w h px) out fits

  module _ (good : pixel_verdict w h px ≡ Ok tt) (out : List ℕ) {end : ℕ} (size : end ≡ length (image_bytes w h px)) where
    pub write_short : length out < end → (Err (refusal why.AreaShort 0) ≡ image_written w h px (length out)) × (out ≡ image_output w h px out)
    unfolding image_written image_output write_verdict
    write_short l = let s = lt-ltb (length out) (length (image_bytes w h px)) (omega arith) in (simp (good, s), simp (good, s))

    pub write_filled : {l : List ℕ} → end ≤ length out → l ≡ over (image_bytes w h px) out
        → (Ok end ≡ image_written w h px (length out)) × (l ≡ image_output w h px out)
    unfolding image_written image_output write_verdict
    write_filled fits e =
        let s = le-ltb (length out) (length (image_bytes w h px)) (omega arith) in
        (ap Ok size ∙ simp (good, s), e ∙ simp (good, s))

-- past the pixels stands 0
pub bytes_binary : {w h : ℕ} {px : List ℕ} → BytesGood w h px → Binary px
bytes_binary {w} {h} {px} g = record { small = λ i. ⊎_elim (g.small i) (past i) (lt_or_le i (w * h)) }
  where
    past : (i : ℕ) → w * h ≤ i → get_or px i 0 ≤ 1
    past i l = omega (arith, get_or-eq_default px 0 {n = i} (omega (arith, g.count)))

pub binary : {w h : ℕ} {px : List ℕ} → PixelsGood w h px → Binary px
binary g = bytes_binary (record { count = g.count; small = g.small })
