-- What an accepted strip is, and what a strip is refused by.
--     heights_good                the parts' heights, as the walks over them want them
--     StripGood, strip_good, good_strip     an accepted strip with its bytes, and an accepted one from its rules
--     strip_binary                      every pixel of it is 0 or 1
--     shape_says, bytes_says, strip_says, strip_numbers     what a strip is refused by, and by which numbers
-- Assumes nothing.
use Rattle.std.specs.Prelude.{Ok}
use mathlib.Core.Bool.{Bool, true, not}
use mathlib.Core.List.{List, [], ◌∷◌}
use mathlib.Core.Path.{◌≡◌, refl}
use Prim.Native.Nat.{ℕ, suc, ◌*◌, ◌/◌}
use native.Mathlib.Omega.{arith}
use borrow.Author.Tests.{le-leb}
use lib.Dec.{leb, eqb}
use lib.ListN.{length, get_or}
use Rattle.image.specs.declared.strip.Strip.{Strip}
use Rattle.image.specs.Code.Rows.{too_large}
use Rattle.image.specs.Code.Strip.{Heights}
use Rattle.image.specs.File.{bytes_verdict}
use Rattle.image.specs.Size.{within, bad_size}
use Rattle.image.specs.Strip.{max_parts, heights_of, strip_width, strip_height, shape_verdict, strip_verdict}
use Rattle.verdict.specs.declared.Rule.TheVariants as why
use Rattle.image.proofs.PixelsOf.{BytesGood, bytes_good, good_bytes}
use Rattle.image.proofs.Shapes.{Shape, shape_good, good_shape, shape_count, shape_heights}
use Rattle.image.proofs.StripLoops.{rows_each}
use Rattle.seq.proofs.Members.{all_tab}
use Rattle.seq.proofs.Tab.{tab_get_d}
use Rattle.seq.specs.Lists.{all}
use Rattle.seq.specs.Tab.{first}
use Rattle.verdict.specs.Numbers.{Says, accepts, by, OneOf}
use Rattle.verdict.specs.Rules.{refusal, Refusal}
use Rattle.verdict.proofs.Numbers.{says_if, says_at, says_or}
use Rattle.verdict.proofs.Rules.{or_else_left, or_else_right}

-- part i has a bad size; another width than the first
abbrev bad_part : Strip → ℕ → Bool
bad_part p i = bad_size (get_or p.widths i 0) (get_or p.heights i 0)

abbrev width_differs : Strip → ℕ → Bool
width_differs p i = not (eqb (get_or p.widths i 0) (strip_width p))

pub heights_good : {p : Strip} → Shape p → Heights (heights_of p)
heights_good {p} g = record { few = omega (arith, shape_count g, g.few); each = rows_each (heights_of p) (shape_heights g) }

pub record StripGood (p : Strip) (px : List ℕ) : Type 0 where
  pub shape : Shape p
  pub bytes : BytesGood (strip_width p) (strip_height p) px

module _ (p : Strip) (px : List ℕ) where
  pub strip_good : strip_verdict p px ≡ Ok tt → StripGood p px
  unfolding strip_verdict
  strip_good e = record { shape = shape_good p (or_else_left _ _ e); bytes = bytes_good (strip_width p) (strip_height p) px (or_else_right (shape_verdict p) _ e) }

  pub good_strip : StripGood p px → strip_verdict p px ≡ Ok tt
  unfolding strip_verdict
  good_strip g = rw (good_shape p g.shape) (good_bytes (strip_width p) (strip_height p) px g.bytes)

pub strip_binary : {p : Strip} {px : List ℕ} → StripGood p px → all (λ v. leb v 1) px ≡ true
strip_binary {px = px} g =
    rw (tab_get_d px 0) at (all_tab (λ v. leb v 1) (λ i. get_or px i 0) (length px) (λ i l. le-leb _ 1 (g.bytes.small i (omega (arith, g.bytes.count)))))

pub shape_says : {P : Refusal → Type 0} (p : Strip) → ((place : ℕ) → P (refusal why.SizeRange place)) → ((place : ℕ) → P (refusal why.Parts place)) → Says P (shape_verdict p)
unfolding shape_verdict
shape_says p a b =
    says_or (says_if (not (within max_parts p.parts)) why.Parts 0 (b 0))
    (says_or (says_at (first (bad_part p) p.parts) why.SizeRange suc a) (says_or (says_at (first (width_differs p) p.parts) why.Parts suc b) accepts))

pub bytes_says : {P : Refusal → Type 0} (w h : ℕ) (px : List ℕ) → P (refusal why.RasterLength 0) → ((place : ℕ) → P (refusal why.PixelValue place)) → Says P (bytes_verdict w h px)
unfolding bytes_verdict
bytes_says w h px a b =
    says_or (says_if (not (eqb (length px) (w * h))) why.RasterLength 0 a) (says_or (says_at (first (too_large px) (w * h)) why.PixelValue (λ i. i / w) b) accepts)

pub strip_says : {P : Refusal → Type 0} (p : Strip) (px : List ℕ) → ((place : ℕ) → P (refusal why.SizeRange place)) → P (refusal why.RasterLength 0) → ((place : ℕ) → P (refusal why.PixelValue place))
    → ((place : ℕ) → P (refusal why.Parts place)) → Says P (strip_verdict p px)
unfolding strip_verdict
strip_says p px a b c d = says_or (shape_says p a d) (bytes_says (strip_width p) (strip_height p) px b c)

pub strip_numbers : (p : Strip) (px : List ℕ) → OneOf (10 ∷ 11 ∷ 12 ∷ 23 ∷ []) (strip_verdict p px)
strip_numbers p px = strip_says p px (λ k. by refl) (by refl) (λ k. by refl) (λ k. by refl)
