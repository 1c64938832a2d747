-- Headers there and back.
--     header_back     the header of a size, read: it has the strict form, and states that size
--     header_kept     a file with a strict header is the header of its size, and its raster
-- Assumes nothing.
use mathlib.Core.Bool.{true, false, ◌&&◌}
use mathlib.Core.List.{List, ◌++◌, append_assoc}
use mathlib.Core.Path.{◌≡◌, refl, sym, ap, ◌∙◌}
use Prim.Native.Nat.{ℕ, ◌+◌, ◌<◌}
use native.Mathlib.Omega.{arith}
use borrow.Author.Tests.{eqb-true}
use lib.Dec.{eqb}
use lib.ListN.{get_or, take, drop}
use Rattle.image.specs.Header.{space, line_feed, is_digit, digits, decimal_value, strict, width_part, height_part, raster, starts_magic, after, header_form, width_of, height_of, decimal, header}
use Rattle.image.proofs.Canonical.{decimal_digits, decimal_strict, decimal_back, canonical}
use Rattle.image.proofs.HeaderParts.{HeaderRead, parts, number_split, digits_only, after_digits, Pieces, laid, laid_out, whole}
use Rattle.image.proofs.LayoutOf.{start_within}
use Rattle.image.proofs.NumberAt.{byte_within}
use Rattle.seq.proofs.Lists.{and_left, and_right}

space_none : is_digit space ≡ false
unfolding is_digit
space_none = refl

feed_none : is_digit line_feed ≡ false
unfolding is_digit
feed_none = refl

abbrev header_pieces : ℕ → ℕ → Pieces
header_pieces w h = record {
  m₀ = 0x50;
  m₁ = 0x34;
  m₂ = 0x0A;
  wide = decimal w;
  stop = space;
  high = decimal h;
  end = line_feed;
  wide_digits = decimal_digits w;
  stop_none = space_none;
  high_digits = decimal_digits h;
  end_none = feed_none;
}

header_laid : (w h : ℕ) (r : List ℕ) → header w h ++ r ≡ laid (header_pieces w h) r
unfolding header
header_laid w h r = simp append_assoc

pub header_back : (w h : ℕ) (r : List ℕ) → w < 1000 → h < 1000 → HeaderRead (header w h ++ r) true w h r
header_back w h r narrow short =
    let read = laid_out (header_pieces w h) r in
    rw (header_laid w h r) (record {
      formed = read.formed ∙ rw (decimal_strict w narrow, decimal_strict h short);
      width = read.width ∙ decimal_back w narrow;
      height = read.height ∙ decimal_back h short;
      rest = read.rest;
    })

-- strict digits are the digits of their number
number_kept : (bytes : List ℕ) {stop : ℕ} → strict bytes ≡ true → after bytes ≡ stop → 0 < stop
    → decimal (decimal_value (take (digits bytes) bytes)) ≡ take (digits bytes) bytes
number_kept bytes s a pos =
    let ds = take (digits bytes) bytes in
    let read = parts ds (after bytes) (drop (digits bytes + 1) bytes) (digits_only bytes) (after_digits bytes) in
    let split = number_split bytes (byte_within bytes (digits bytes) (omega arith)) in
    canonical ds (digits_only bytes) (sym read.form ∙ ap strict (sym split) ∙ s)

-- the pieces of such a file are those of the header of its size
pub header_kept : (f : List ℕ) → header_form f ≡ true → header (width_of f) (height_of f) ++ raster f ≡ f
unfolding header_form starts_magic width_of height_of
header_kept f e =
    let bytes = and_left (starts_magic f) _ e in
    let a = eqb-true (get_or f 0 0) 0x50 (and_left (eqb (get_or f 0 0) 0x50) _ bytes) in
    let others = and_right (eqb (get_or f 0 0) 0x50) _ bytes in
    let b = eqb-true (get_or f 1 0) 0x34 (and_left (eqb (get_or f 1 0) 0x34) _ others) in
    let c = eqb-true (get_or f 2 0) 0x0A (and_right (eqb (get_or f 1 0) 0x34) _ others) in
    let numbers = and_right (starts_magic f) _ e in
    let w = and_left (strict (width_part f) && eqb (after (width_part f)) space) _ numbers in
    let h = and_right (strict (width_part f) && eqb (after (width_part f)) space) _ numbers in
    let stop = eqb-true (after (width_part f)) space (and_right (strict (width_part f)) _ w) in
    let end = eqb-true (after (height_part f)) line_feed (and_right (strict (height_part f)) _ h) in
    let width = number_kept (width_part f) (and_left (strict (width_part f)) _ w) stop (omega arith) in
    let height = number_kept (height_part f) (and_left (strict (height_part f)) _ h) end (omega arith) in
    header_laid (width_of f) (height_of f) (raster f)
    ∙ rw (a, b, c, stop, end, ← width, ← height) at (whole f (start_within f e))
