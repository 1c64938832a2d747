-- The reader ignores unused bits (02, T-02).
--     PaddingIgnored     files that differ in unused bits alone are read alike, and 12 never comes from a file
-- Assumes nothing.
use Rattle.std.specs.Prelude.{List, ◌≢◌, ◌≡◌, ℕ, Err}
use Rattle.image.specs.File.{image_verdict, image_read, image_area}
use Rattle.image.specs.Padding.{cleared}
use Rattle.verdict.specs.Rules.{number_of, Refusal}

pub record PaddingIgnored : Type 0 where
  -- the same answer, refusals too, and the same area afterwards
  pub answer : (f g : List ℕ) → cleared f ≡ cleared g → (n : ℕ) → image_read f n ≡ image_read g n
  pub area : (f g : List ℕ) → cleared f ≡ cleared g → (area : List ℕ) → image_area f area ≡ image_area g area
  pub never_12 : (f : List ℕ) (n : ℕ) (r : Refusal) → image_verdict f n ≡ Err r → number_of r ≢ 12
