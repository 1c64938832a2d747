-- Images, and those of a file.
--     none_above     no pixel is above 1
--     file_image     an accepted file holds an image
--     image_writable     the image writer accepts an image of a size within the limits; strip_writable: the writer of strips, one of such parts
-- Assumes nothing.
use Rattle.std.specs.Prelude.{Ok}
use mathlib.Core.Bool.{false}
use mathlib.Core.List.{List}
use mathlib.Core.Path.{◌≡◌}
use Prim.Native.Nat.{ℕ}
use borrow.Author.Tests.{leb-true, le-ltb}
use lib.Dec.{leb, ltb}
use Rattle.image.proofs.Facts.{accepted_file}
use Rattle.image.proofs.PixelsOf.{good_pixels, binary_at}
use Rattle.image.proofs.Shapes.{Shape}
use Rattle.image.proofs.Strips.{good_strip}
use Rattle.image.specs.File.{file_verdict, image_of, pixel_verdict}
use Rattle.image.specs.Header.{width_of, height_of}
use Rattle.image.specs.declared.strip.Strip.{Strip}
use Rattle.image.specs.Size.{bad_size}
use Rattle.image.specs.Strip.{strip_width, strip_height, strip_verdict}
use Rattle.operator.specs.Image.{IsImage}
use Rattle.seq.specs.Lists.{any}
use Rattle.seq.proofs.Lists.{any_none, all_elim}

pub none_above : {w h : ℕ} {img : List ℕ} → IsImage w h img → any (ltb 1) img ≡ false
none_above {img = img} i = any_none (ltb 1) img (λ v m. le-ltb 1 v (leb-true v 1 (all_elim (λ u. leb u 1) i.binary m)))

pub file_image : (f : List ℕ) → file_verdict f ≡ Ok tt → IsImage (width_of f) (height_of f) (image_of f)
file_image f e = let x = accepted_file f e in record { wide = x.within.wide; high = x.within.tall; sized = x.counted; binary = x.binary }

pub image_writable : {w h : ℕ} {img : List ℕ} → bad_size w h ≡ false → IsImage w h img → pixel_verdict w h img ≡ Ok tt
image_writable {w} {h} {img} size i =
    good_pixels w h img (record { size = size; count = i.sized; small = λ k l. binary_at img k i.binary })

pub strip_writable : {p : Strip} {img : List ℕ} → Shape p → IsImage (strip_width p) (strip_height p) img → strip_verdict p img ≡ Ok tt
strip_writable {p} {img} g i = good_strip p img (record { shape = g; bytes = record { count = i.sized; small = λ k l. binary_at img k i.binary } })
