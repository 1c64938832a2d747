-- The preview's code.
--     median_at w h img r c     the answer at (r, c)
--     nine_pattern      the middle of three rows, as one number
--     checked_image, checked_area     pixels that the image writer accepts
--     preview_refused, preview_short, preview_filled     the preview's answer and area
-- Assumes nothing.
use Rattle.std.specs.Prelude.{Ok, Err}
use mathlib.Core.Bool.{true}
use mathlib.Core.List.{List, [], ◌∷◌}
use mathlib.Core.Path.{◌≡◌, refl, subst}
use Prim.Native.Nat.{ℕ, ◌+◌, ◌*◌, ◌≤◌, ◌<◌}
use native.Mathlib.Omega.{arith}
use borrow.Author.Tests.{le-leb, le-ltb, lt-ltb}
use lib.Dec.{leb}
use lib.ListN.{length, get_or}
use Rattle.seq.specs.Lists.{all}
use Rattle.verdict.specs.declared.Rule.TheVariants as why
use Rattle.seq.proofs.Members.{all_tab}
use Rattle.seq.proofs.Tab.{tab_get_d}
use Rattle.image.specs.File.{pixel_verdict}
use Rattle.image.specs.Size.{max_pixels}
use Rattle.image.proofs.PixelsOf.{PixelsGood, pixels_good}
use Rattle.image.proofs.RowBytes.{pixels_few, sides}
use Rattle.verdict.specs.Rules.{refusal, Verdict, Refusal}
use Rattle.verdict.specs.Writer.{over}
use Rattle.operator.specs.Image.{IsImage}
use Rattle.operator.specs.Preview.{from_bits, pattern, five_or_more, preview}
use Rattle.filter.specs.Previewed.{preview_verdict, preview_area}
use Rattle.operator.specs.Window.{window}

-- the answer at a pixel
abbrev pub median_at : ℕ → ℕ → List ℕ → ℕ → ℕ → ℕ
median_at w h img r c = five_or_more (pattern (window w h img r c))

-- the three pixels in the middle of row y of a window, as bits
abbrev pub three_bits : List (List ℕ) → ℕ → ℕ
three_bits win y = from_bits (get_or (get_or win y []) 1 0 ∷ get_or (get_or win y []) 2 0 ∷ get_or (get_or win y []) 3 0 ∷ [])

pub nine_pattern : (win : List (List ℕ)) {a b c : ℕ} → a ≡ three_bits win 1 → b ≡ three_bits win 2 → c ≡ three_bits win 3
    → a + 8 * b + 64 * c ≡ pattern win
unfolding pattern
nine_pattern win ha hb hc = omega arith

-- pixels that the image writer accepts are an image
pub checked_image : (w h : ℕ) (px : List ℕ) → pixel_verdict w h px ≡ Ok tt → IsImage w h px
checked_image w h px e = let s = sides w h g.size in record { wide = s.wide; high = s.tall; sized = g.count; binary = binary }
  where
    g : PixelsGood w h px
    g = pixels_good w h px e

    binary : all (λ v. leb v 1) px ≡ true
    binary =
        subst (λ (l : List ℕ). all (λ v. leb v 1) l ≡ true) (tab_get_d px 0)
        (all_tab (λ v. leb v 1) (λ k. get_or px k 0) (length px) (λ k l. le-leb (get_or px k 0) 1 (g.small k (rw g.count at l))))

-- and small
pub checked_area : (w h : ℕ) (px : List ℕ) → pixel_verdict w h px ≡ Ok tt → w * h ≤ max_pixels
checked_area w h px e = pixels_few (sides w h (pixels_good w h px e).size)

module _ (w h : ℕ) (px d : List ℕ) where
  abbrev Previewed : Verdict → List ℕ → Type 0
  Previewed r after = (r ≡ preview_verdict w h px (length d)) × (after ≡ preview_area w h px d)

  pub preview_refused : {x : Refusal} → pixel_verdict w h px ≡ Err x → Previewed (Err x) d
  unfolding preview_verdict preview_area
  preview_refused e = simp e (refl, refl)

  module _ (ok : pixel_verdict w h px ≡ Ok tt) where
    pub preview_short : length d < w * h → Previewed (Err (refusal why.AreaShort 0)) d
    unfolding preview_verdict preview_area
    preview_short l = simp (ok, lt-ltb _ _ l) (refl, refl)

    pub preview_filled : {after : List ℕ} → w * h ≤ length d → after ≡ over (preview w h px) d → Previewed (Ok tt) after
    unfolding preview_verdict preview_area
    preview_filled l e = simp (ok, le-ltb _ _ l) (refl, e)
