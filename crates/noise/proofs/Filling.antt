-- What the call answers and leaves in the area.
--     image_over                               the image in the front of the area, and what stands behind it
--     noise_bad, noise_short, noise_filled     the size is refused; the area is; neither
-- Assumes nothing.
use Rattle.std.specs.Prelude.{Ok, Err}
use Rattle.verdict.specs.declared.Rule.TheVariants as why
use Rattle.std.proofs.Common.{◌≡◌, ℕ, ◌*◌, ◌<◌, ◌≤◌, true, false, List, ◌++◌, length, take, drop, refl, le-ltb, lt-ltb}
use lib.Seq.{length-take-le}
use Rattle.image.specs.Size.{bad_size}
use Rattle.noise.specs.Noise.{noise_pixel, noise, noise_verdict, noise_area}
use Rattle.seq.proofs.Tab.{length_tab}
use Rattle.seq.specs.Tab.{tab}
use Rattle.verdict.specs.Rules.{refusal, Verdict}
use Rattle.verdict.specs.Writer.{over}

-- the image is drawn in the front of the area
pub image_over : (f : ℕ → ℕ) (d : List ℕ) {n : ℕ} {image : List ℕ} → n ≤ length d → image ≡ tab f (length (take n d)) → image ++ drop n d ≡ over (tab f n) d
unfolding over
image_over f d {n} l e = rw (e, length-take-le, length_tab)

module _ (seed w h : ℕ) (d : List ℕ) where
  abbrev Noised : Verdict → List ℕ → Type 0
  Noised r after = (r ≡ noise_verdict w h (length d)) × (after ≡ noise_area seed w h d)

  pub noise_bad : bad_size w h ≡ true → Noised (Err (refusal why.SizeRange 0)) d
  unfolding noise_verdict noise_area
  noise_bad e = simp e (refl, refl)

  module _ (ok : bad_size w h ≡ false) where
    pub noise_short : length d < w * h → Noised (Err (refusal why.AreaShort 0)) d
    unfolding noise_verdict noise_area
    noise_short l = simp (ok, lt-ltb _ _ l) (refl, refl)

    pub noise_filled : {after : List ℕ} → w * h ≤ length d → after ≡ over (tab (noise_pixel seed) (w * h)) d → Noised (Ok tt) after
    unfolding noise noise_verdict noise_area
    noise_filled l e = simp (ok, le-ltb _ _ l) (refl, e)
