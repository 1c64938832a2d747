-- The preview as a call (01, One pass): it refuses as the image writer does, and fills the front of an area.
--     preview_verdict w h px n     10, 11, 12, then 13 on an area of n bytes
--     preview_area w h px area     the area afterwards
-- Assumes nothing.
use Rattle.std.specs.Prelude.{List, ℕ, length}
use Rattle.image.specs.File.{pixel_verdict, area_rule}
use Rattle.operator.specs.Preview.{preview}
use Rattle.verdict.specs.Rules.{or_else, Verdict}
use Rattle.verdict.specs.Writer.{output_of}

unfoldable pub preview_verdict : ℕ → ℕ → List ℕ → ℕ → Verdict
preview_verdict w h px n = or_else (pixel_verdict w h px) (area_rule w h n)

unfoldable pub preview_area : ℕ → ℕ → List ℕ → List ℕ → List ℕ
preview_area w h px area = output_of (preview_verdict w h px (length area)) (preview w h px) area
