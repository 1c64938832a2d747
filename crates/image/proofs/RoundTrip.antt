-- Images there and back: the proof of specs/RoundTrip. Assumes nothing.
use Rattle.std.specs.Prelude.{Ok}
use mathlib.Core.Bool.{true}
use mathlib.Core.List.{List, [], ◌∷◌, ◌++◌}
use mathlib.Core.Path.{◌≡◌, sym, ap, ◌∙◌}
use Prim.Native.Nat.{ℕ, zero, suc, ◌+◌, ◌-◌, ◌*◌, ◌<◌}
use native.Mathlib.Omega.{arith}
use borrow.Author.Tests.{ltb-true}
use lib.Dec.{ltb}
use lib.ListN.{length, get_or, take, length-append}
use lib.Pow.{are_bytes}
use lib.Seq.{get_or-drop, take_at}
use Rattle.image.specs.Code.Layout.{raster_start}
use Rattle.image.specs.Code.Rows.{Sides, raster_of}
use Rattle.image.specs.File.{file_verdict, image_bytes, row_byte, image_of}
use Rattle.image.specs.Header.{raster, width_of, height_of, header}
use Rattle.image.specs.Padding.{padding_set, unused_zero, cleared_raster, cleared}
use Rattle.image.specs.RoundTrip.{ReadBack, ImageRoundTrip}
use Rattle.image.specs.Size.{row_bytes}
use Rattle.image.proofs.Facts.{FileGood, file_good, good_file, AcceptedFile, accepted_file}
use Rattle.image.proofs.HeaderBack.{header_back, header_kept}
use Rattle.image.proofs.HeaderOf.{raster_place}
use Rattle.image.proofs.HeaderParts.{HeaderRead}
use Rattle.image.proofs.Padding.{cleared_same, none_set}
use Rattle.image.proofs.PixelsOf.{PixelsGood, pixels_good, good_pixels, binary_at}
use Rattle.image.proofs.RasterBack.{rows_clean, rows_back, raster_cleared}
use Rattle.image.proofs.RowBytes.{sides}
use Rattle.image.proofs.WriteOf.{binary}
use Rattle.seq.proofs.Grid.{grid}
use Rattle.seq.proofs.Lists.{and_left, and_right, any_none}
use Rattle.seq.proofs.Tab.{length_tab, up_to_elim}
use Rattle.seq.specs.Tab.{up_to}

-- bytes are below 256, and past them stands 0
byte_below : (f : List ℕ) → are_bytes f ≡ true → (i : ℕ) → get_or f i 0 < 256
byte_below [] e i = omega arith
byte_below (b ∷ f) e zero = ltb-true b 256 (and_left (ltb b 256) (are_bytes f) e)
byte_below (b ∷ f) e (suc i) = byte_below f (and_right (ltb b 256) (are_bytes f) e) i

raster_below : (f : List ℕ) → are_bytes f ≡ true → (i : ℕ) → get_or (raster f) i 0 < 256
raster_below f e i = rw (raster_place f, get_or-drop (raster_start f) f i 0) (byte_below f e (raster_start f + i))

module _ (w h : ℕ) (px : List ℕ) (g : PixelsGood w h px) where
  both : Sides w h
  both = sides w h g.size

  read : HeaderRead (image_bytes w h px) true w h (raster_of w h px)
  unfolding image_bytes
  read = header_back w h (raster_of w h px) (omega (arith, both)) (omega (arith, both))

  written_good : FileGood (image_bytes w h px)
  written_good = record {
    form = read.formed;
    size = rw (read.width, read.height) g.size;
    count = rw (read.rest, read.width, read.height) (length_tab (grid (row_bytes w) (row_byte w px)) (row_bytes w * h));
  }

  back : ReadBack w h px
  unfolding image_of
  back = record {
    accepted = good_file (image_bytes w h px) written_good;
    width = read.width;
    height = read.height;
    pixels = rw (read.rest, read.width, read.height) (rows_back w h both.wide px (binary g) g.count);
  }

  zeros : unused_zero (image_bytes w h px) ≡ true
  unfolding unused_zero
  zeros =
      rw (
        read.rest,
        read.width,
        read.height,
        any_none (padding_set w (raster_of w h px)) (up_to h) (λ row m. rows_clean w h both.wide px row (up_to_elim h m)),
      )

module _ (f : List ℕ) (g : FileGood f) where
  -- the header of the file's size, and the raster with zeros in its unused bits
  cleared_laid : cleared f ≡ header (width_of f) (height_of f) ++ cleared_raster (width_of f) (raster f)
  unfolding cleared
  cleared_laid =
      let whole = header_kept f g.form in
      let long = ap length (sym whole) ∙ length-append (header (width_of f) (height_of f)) (raster f) in
      ap (λ (l : List ℕ). l ++ cleared_raster (width_of f) (raster f))
      (ap (take (length f - length (raster f))) (sym whole)
      ∙ take_at (header (width_of f) (height_of f)) (raster f) (length f - length (raster f)) (omega (arith, long)))

  returned : are_bytes f ≡ true → image_bytes (width_of f) (height_of f) (image_of f) ≡ cleared f
  unfolding image_of image_bytes
  returned e =
      ap (λ (r : List ℕ). header (width_of f) (height_of f) ++ r) (raster_cleared (width_of f) (height_of f) (raster f) (raster_below f e) g.count)
      ∙ sym cleared_laid

  same : unused_zero f ≡ true → cleared f ≡ f
  same z = cleared_laid ∙ rw (cleared_same (width_of f) (raster f) (height_of f) g.count (none_set f z)) (header_kept f g.form)

checked : (f : List ℕ) → AcceptedFile f → PixelsGood (width_of f) (height_of f) (image_of f)
checked f a = record {
  size = a.sized;
  count = a.counted;
  small = λ i l. binary_at (image_of f) i a.binary;
}

back_only : (f : List ℕ) → file_verdict f ≡ Ok tt → image_bytes (width_of f) (height_of f) (image_of f) ≡ f → unused_zero f ≡ true
back_only f e q = ap unused_zero (sym q) ∙ zeros (width_of f) (height_of f) (image_of f) (checked f (accepted_file f e))

pub image_round_trip : ImageRoundTrip
image_round_trip = record {
  image_back = λ w h px e. back w h px (pixels_good w h px e);
  file_cleared = λ f b e. returned f (file_good f e) b;
  file_back = λ f b e z. returned f (file_good f e) b ∙ same f (file_good f e) z;
  back_zero = back_only;
  written_zero = λ w h px e. zeros w h px (pixels_good w h px e);
  read_checked = λ f e. good_pixels _ _ _ (checked f (accepted_file f e));
}
