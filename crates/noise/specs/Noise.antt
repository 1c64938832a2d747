-- Trial sheets (02, T-11), by the field's word noise: an image that a seed, a width and a height fix.
--     half                     the least number that is black: 02's 2,147,483,648
--     blackness n              the pixel that takes the number n
--     noise_pixel seed i        pixel i, in row order
--     noise seed w h           the image
--     noise_verdict w h n       10, then 13 on an area of n bytes; every seed is good
--     noise_area seed w h area  the area afterwards
-- Assumes nothing.
use Rattle.std.specs.Prelude.{ℕ, ◌*◌, List, [], ◌∷◌, length, nat_le}
use Rattle.image.specs.File.{area_rule}
use Rattle.image.specs.Size.{bad_size}
use Rattle.noise.specs.Generator.{drawn}
use Rattle.seq.specs.Lists.{one}
use Rattle.seq.specs.Tab.{tab}
use Rattle.verdict.specs.Rules.{refuse_if, judge, Verdict}
use Rattle.verdict.specs.Writer.{output_of}
use Rattle.verdict.specs.declared.Rule.TheVariants as why

abbrev pub half : ℕ
half = 2147483648

abbrev pub blackness : ℕ → ℕ
blackness n = one (nat_le half n)

abbrev pub noise_pixel : ℕ → ℕ → ℕ
noise_pixel seed i = blackness (drawn seed i)

unfoldable pub noise : ℕ → ℕ → ℕ → List ℕ
noise seed w h = tab (noise_pixel seed) (w * h)

unfoldable pub noise_verdict : ℕ → ℕ → ℕ → Verdict
noise_verdict w h n = judge (refuse_if (bad_size w h) why.SizeRange 0 ∷ area_rule w h n ∷ [])

unfoldable pub noise_area : ℕ → ℕ → ℕ → List ℕ → List ℕ
noise_area seed w h area = output_of (noise_verdict w h (length area)) (noise seed w h) area
