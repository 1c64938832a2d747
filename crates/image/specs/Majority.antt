-- The majority of three images (02, T-12: the pool), and the reader of three files of one size.
--     majority_at u v w      a pixel is black where at least two of three are
--     majority_of a b c      the majority of three images, pixel by pixel
--     size_differs f g       two files do not state one size
--     three_rules f g h, three_verdict f g h     each file by its own rules, one after the other, then 26 at the lowest file whose size is not the first's
--     majority_verdict f g h n, majority_read f g h n, majority_area f g h area     the reader on an area of n bytes: its answer, and the area afterwards
-- Assumes nothing.
use Rattle.std.specs.Prelude.{Bool, not, ◌&&◌, List, [], ◌∷◌, ℕ, ◌+◌, leb, eqb, length, get_or}
use Rattle.image.specs.File.{image_of, file_verdict, area_rule, read_as, ImageRead}
use Rattle.image.specs.Header.{width_of, height_of}
use Rattle.seq.specs.Lists.{one}
use Rattle.seq.specs.Tab.{tab}
use Rattle.verdict.specs.Rules.{refuse_if, or_else, judge, Verdict}
use Rattle.verdict.specs.Writer.{output_of}
use Rattle.verdict.specs.declared.Rule.TheVariants as why

abbrev pub majority_at : ℕ → ℕ → ℕ → ℕ
majority_at u v w = one (leb 2 (u + v + w))

unfoldable pub majority_of : List ℕ → List ℕ → List ℕ → List ℕ
majority_of a b c = tab (λ i. majority_at (get_or a i 0) (get_or b i 0) (get_or c i 0)) (length a)

abbrev pub size_differs : List ℕ → List ℕ → Bool
size_differs f g = not (eqb (width_of f) (width_of g) && eqb (height_of f) (height_of g))

abbrev pub three_rules : List ℕ → List ℕ → List ℕ → List Verdict
three_rules f g h =
    file_verdict f ∷ file_verdict g ∷ file_verdict h ∷ refuse_if (size_differs g f) why.SizesDiffer 2 ∷ refuse_if (size_differs h f) why.SizesDiffer 3 ∷ []

unfoldable pub three_verdict : List ℕ → List ℕ → List ℕ → Verdict
three_verdict f g h = judge (three_rules f g h)

unfoldable pub majority_verdict : List ℕ → List ℕ → List ℕ → ℕ → Verdict
majority_verdict f g h n = or_else (three_verdict f g h) (area_rule (width_of f) (height_of f) n)

unfoldable pub majority_read : List ℕ → List ℕ → List ℕ → ℕ → ImageRead
majority_read f g h n = read_as (majority_verdict f g h n) (width_of f) (height_of f)

unfoldable pub majority_area : List ℕ → List ℕ → List ℕ → List ℕ → List ℕ
majority_area f g h area =
    output_of (majority_verdict f g h (length area)) (majority_of (image_of f) (image_of g) (image_of h)) area
