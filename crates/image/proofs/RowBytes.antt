-- The laws of sizes and of the bytes of a row.
--     row_bytes_fit     they hold the row's pixels, with fewer than eight bits to spare
--     area_few, pixels_few, raster_few    an image has at most max_pixels pixels, and its raster at most max_raster bytes
--     within_range, range_within     a number within a limit, as orders
--     sides             what a size that rule 10 lets pass is
-- Assumes nothing.
use mathlib.Core.Bool.{true, false, ◌&&◌}
use mathlib.Core.Path.{◌≡◌}
use Prim.Native.Nat.{ℕ, ◌+◌, ◌*◌, ◌≤◌, ◌<◌}
use native.Mathlib.Nat.{mul-le-mul}
use native.Mathlib.Omega.{arith}
use borrow.Author.Tests.{not-false}
use Rattle.image.specs.Code.Rows.{Sides}
use Rattle.image.specs.Size.{max_side, max_pixels, max_raster, within, bad_size, row_bytes}
use Rattle.seq.proofs.Lists.{and_left, and_right}
use Rattle.seq.proofs.Tests.{between, in_range}

pub row_bytes_fit : (w : ℕ) → (w ≤ 8 * row_bytes w) × (8 * row_bytes w < w + 8)
unfolding row_bytes
row_bytes_fit w = omega arith

pub area_few : {w h : ℕ} → w ≤ max_side → h ≤ max_side → w * h ≤ max_pixels
area_few a b = mul-le-mul a b

pub pixels_few : {w h : ℕ} → Sides w h → w * h ≤ max_pixels
pixels_few s = area_few s.narrow s.short

pub raster_few : {w h b : ℕ} → Sides w h → b ≡ row_bytes w → b * h ≤ max_raster
raster_few {w} {h} {b} s e = rows (omega (arith, row_bytes_fit w, s.narrow)) s.short
  where
    rows : b ≤ 32 → h ≤ max_side → b * h ≤ 32 * max_side
    rows = mul-le-mul

pub within_range : (m n : ℕ) → within m n ≡ true → (1 ≤ n) × (n ≤ m)
unfolding within
within_range m n e = between 1 n m e

pub range_within : (m n : ℕ) → 1 ≤ n → n ≤ m → within m n ≡ true
unfolding within
range_within m n l h = in_range 1 n m l h

size_good : (w h : ℕ) → bad_size w h ≡ false → (within max_side w ≡ true) × (within max_side h ≡ true)
unfolding bad_size
size_good w h e =
    let both = not-false (within max_side w && within max_side h) e in
    (and_left (within max_side w) (within max_side h) both, and_right (within max_side w) (within max_side h) both)

pub sides : (w h : ℕ) → bad_size w h ≡ false → Sides w h
sides w h e =
    let (a, b) = size_good w h e in
    let p = within_range max_side w a in
    let q = within_range max_side h b in
    record { wide = p.0; narrow = p.1; tall = q.0; short = q.1 }
