-- The verdict on pixel bytes, from what its parts find, and what accepted pixels are.
--     bytes_count, bytes_values                    the count is refused; else the values' verdict
--     pixels_size, pixels_bytes                    the size is refused; else the bytes' verdict
--     BytesGood, bytes_good, good_bytes            each rule of accepted bytes, and accepted bytes from their rules
--     PixelsGood, pixels_good, good_pixels         the same of an image's pixels
--     binary_at                                    a value of a list of 0 and 1 is at most 1
-- Assumes nothing.
use Rattle.std.specs.Prelude.{Ok, Err}
use mathlib.Core.Bool.{true, false, not}
use mathlib.Core.List.{List}
use mathlib.Core.Path.{◌≡◌, refl, ◌∙◌}
use Prim.Native.Nat.{ℕ, ◌*◌, ◌/◌, ◌≤◌, ◌<◌}
use borrow.Author.Tests.{not-false, leb-true, eqb-true, eq-eqb, ne_eqb, ltb-false, le-ltb}
use lib.Dec.{leb, eqb}
use lib.ListN.{length, get_or}
use Rattle.image.specs.Code.Rows.{too_large}
use Rattle.image.specs.File.{bytes_verdict, pixel_verdict}
use Rattle.image.specs.Size.{bad_size}
use Rattle.verdict.specs.declared.Rule.TheVariants as why
use Rattle.seq.proofs.Members.{all_get_d}
use Rattle.seq.proofs.Tab.{first_none, first_nothing}
use Rattle.seq.specs.Lists.{all}
use Rattle.seq.specs.Tab.{first}
use Rattle.verdict.specs.Rules.{refusal, refuse_if, refuse_at, Verdict}
use Rattle.verdict.proofs.Rules.{or_else_left, or_else_right, refuse_if_accepted, refuse_at_accepted, or_else_accepted}

module _ (w h : ℕ) (px : List ℕ) where
  pub bytes_count : (length px ≡ w * h → ⊥) → bytes_verdict w h px ≡ Err (refusal why.RasterLength 0)
  unfolding bytes_verdict
  bytes_count n = simp (ne_eqb _ _ n)

  pub bytes_values : length px ≡ w * h → {v : Verdict} → v ≡ refuse_at (first (too_large px) (w * h)) why.PixelValue (λ i. i / w) → bytes_verdict w h px ≡ v
  unfolding bytes_verdict
  bytes_values q r = simp (eq-eqb _ _ q, or_else_accepted, r)

  pub pixels_size : bad_size w h ≡ true → pixel_verdict w h px ≡ Err (refusal why.SizeRange 0)
  unfolding pixel_verdict
  pixels_size e = simp e

  pub pixels_bytes : bad_size w h ≡ false → pixel_verdict w h px ≡ bytes_verdict w h px
  unfolding pixel_verdict bytes_verdict
  pixels_bytes e = simp e

pub record BytesGood (w h : ℕ) (px : List ℕ) : Type 0 where
  pub count : length px ≡ w * h
  pub small : (i : ℕ) → i < w * h → get_or px i 0 ≤ 1

pub record PixelsGood (w h : ℕ) (px : List ℕ) : Type 0 where
  pub size : bad_size w h ≡ false
  pub count : length px ≡ w * h
  pub small : (i : ℕ) → i < w * h → get_or px i 0 ≤ 1

pub bytes_good : (w h : ℕ) (px : List ℕ) → bytes_verdict w h px ≡ Ok tt → BytesGood w h px
unfolding bytes_verdict
bytes_good w h px e =
    let e₁ = or_else_right (refuse_if (not (eqb (length px) (w * h))) why.RasterLength 0) _ e in
    let found = refuse_at_accepted (first (too_large px) (w * h)) why.PixelValue (λ i. i / w) (or_else_left _ _ e₁) in
    record {
      count = eqb-true _ _ (not-false _ (refuse_if_accepted (not (eqb (length px) (w * h))) why.RasterLength 0 (or_else_left _ _ e)));
      small = λ i l. ltb-false 1 (get_or px i 0) (first_nothing (too_large px) (w * h) found i l);
    }

pub good_bytes : (w h : ℕ) (px : List ℕ) → BytesGood w h px → bytes_verdict w h px ≡ Ok tt
unfolding bytes_verdict
good_bytes w h px g = simp (eq-eqb _ _ g.count, first_none (too_large px) (w * h) (λ i l. le-ltb 1 (get_or px i 0) (g.small i l)))

pub pixels_good : (w h : ℕ) (px : List ℕ) → pixel_verdict w h px ≡ Ok tt → PixelsGood w h px
unfolding pixel_verdict bytes_verdict
pixels_good w h px e =
    let g = bytes_good w h px (or_else_right (refuse_if (bad_size w h) why.SizeRange 0) _ e) in
    record { size = refuse_if_accepted (bad_size w h) why.SizeRange 0 (or_else_left _ _ e); count = g.count; small = g.small }

pub good_pixels : (w h : ℕ) (px : List ℕ) → PixelsGood w h px → pixel_verdict w h px ≡ Ok tt
good_pixels w h px g = pixels_bytes w h px g.size ∙ good_bytes w h px (record { count = g.count; small = g.small })

pub binary_at : (l : List ℕ) (i : ℕ) → all (λ v. leb v 1) l ≡ true → get_or l i 0 ≤ 1
binary_at l i e = leb-true (get_or l i 0) 1 (all_get_d (λ v. leb v 1) l 0 e refl i)
