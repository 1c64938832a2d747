-- The files of a strip's parts, one after another.
--     part_file_lem      the file of part i stands behind the earlier ones
--     part_good      the writer accepts each part
--     parts_back     so each file reads back as its part
--     one_file       a single image has one file, its own
-- Assumes nothing.
use Rattle.std.specs.Prelude.{Ok}
use mathlib.Core.Bool.{true}
use mathlib.Core.List.{List, [], ◌∷◌, append-nil}
use mathlib.Core.Path.{◌≡◌, sym, ap, ap₂, ◌∙◌}
use Prim.Native.Nat.{ℕ, zero, suc, ◌+◌, ◌*◌, ◌≤◌, ◌<◌}
use native.Mathlib.Nat.{mul_comm, mul-le-mul_right}
use native.Mathlib.Omega.{arith}
use lib.Dec.{leb}
use lib.ListN.{length, get_or, take, drop, length-append}
use lib.Seq.{take_all, take-append_seam, drop-append-add, get_or-take, get_or-drop}
use Rattle.image.specs.File.{pixel_verdict, image_bytes}
use Rattle.image.specs.Parts.{rows_of, above, part_of}
use Rattle.image.specs.Strip.{strip_bytes, start_of, file_of, PartsBack}
use Rattle.image.proofs.Parts.{rows_length, first_part, part_behind, part_ends}
use Rattle.image.proofs.PixelsOf.{good_pixels, binary_at}
use Rattle.image.proofs.RoundTrip.{image_round_trip}
use Rattle.image.proofs.Shapes.{sides_good, Listed}
use Rattle.seq.specs.Lists.{all, sum_of}

pub part_file_lem : (w : ℕ) (hs px : List ℕ) (i : ℕ) → i < length hs
    → take (length (file_of w hs px i)) (drop (start_of w hs px i) (strip_bytes w hs px)) ≡ file_of w hs px i
part_file_lem w [] px i l = absurd (omega arith)
part_file_lem w (h ∷ hs) px zero l =
    ap (λ f. take (length f) (strip_bytes w (h ∷ hs) px)) same
    ∙ take-append_seam (image_bytes w h (take (w * h) px)) (strip_bytes w hs (drop (w * h) px))
    ∙ sym same
  where
    same : file_of w (h ∷ hs) px 0 ≡ image_bytes w h (take (w * h) px)
    same = ap (image_bytes w h) (first_part w h hs px)
part_file_lem w (h ∷ hs) px (suc i) l =
    ap₂ (λ f k. take (length f) (drop k (strip_bytes w (h ∷ hs) px))) same start
    ∙ ap (take (length (file_of w hs rest i))) (drop-append-add first (strip_bytes w hs rest) (start_of w hs rest i))
    ∙ part_file_lem w hs rest i (omega arith)
    ∙ sym same
  where
    rest : List ℕ
    rest = drop (w * h) px

    first : List ℕ
    first = image_bytes w h (take (w * h) px)

    same : file_of w (h ∷ hs) px (suc i) ≡ file_of w hs rest i
    same = ap (image_bytes w (get_or hs i 0)) (part_behind w h hs px i)

    start : start_of w (h ∷ hs) px (suc i) ≡ length first + start_of w hs rest i
    start = length-append first (strip_bytes w (take i hs) rest)

module _ {w : ℕ} {hs : List ℕ} (g : Listed w hs) (px : List ℕ) (sized : length px ≡ w * sum_of hs) (binary : all (λ v. leb v 1) px ≡ true) where
  rows_small : (top n k : ℕ) → k < w * n → get_or (rows_of w top n px) k 0 ≤ 1
  unfolding rows_of
  rows_small top n k m = rw (get_or-take (w * n) (drop (w * top) px) k 0 m, get_or-drop (w * top) px k 0) (binary_at px (w * top + k) binary)

  pub part_good : (i : ℕ) → i < length hs → pixel_verdict w (get_or hs i 0) (part_of w hs i px) ≡ Ok tt
  part_good i l = good_pixels w (get_or hs i 0) (part_of w hs i px) (record {
    size = sides_good (record { wide = g.wide; narrow = g.narrow; tall = (g.rows i l).0; short = (g.rows i l).1 });
    count = rows_length w (above hs i) (get_or hs i 0) px (omega (arith, mul-le-mul_right w (part_ends hs i l), mul_comm w (above hs i + get_or hs i 0), mul_comm w (sum_of hs)));
    small = rows_small (above hs i) (get_or hs i 0);
  })

  pub parts_back : PartsBack w hs px
  parts_back = record {
    file = part_file_lem w hs px;
    back = λ i l. image_round_trip.image_back w (get_or hs i 0) (part_of w hs i px) (part_good i l);
  }

pub one_file : (w h : ℕ) (px : List ℕ) → length px ≡ w * h → strip_bytes w (h ∷ []) px ≡ image_bytes w h px
one_file w h px e = append-nil (image_bytes w h (take (w * h) px)) ∙ ap (image_bytes w h) (take_all (w * h) px (omega arith))
