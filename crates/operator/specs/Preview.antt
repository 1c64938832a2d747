-- The preview (01, One pass): the 3 × 3 median.
--     square            the nine positions of the 3 × 3 square around the centre; neighbours: without it
--     from_bits bs       values as the bits of a number, the first the lowest
--     pattern win       the nine pixels of a window as a number below 512
--     five_or_more p      1 exactly when five or more of the nine bits are 1
--     preview w h img   the image of answers
--     chosen s ns       the mask of the positions ns that the bits of s choose
--     median_elements    the 56 five-point subsets of the eight neighbours
--     median_table       a table with those elements
--     Preview           it is the plain rule of those elements
-- Assumes nothing.
use Rattle.std.specs.Prelude.{List, [], ◌∷◌, map, ◌≡◌, ℕ, ◌+◌, ◌*◌, ◌/◌, ◌%◌, ◌^◌, leb, eqb}
use Rattle.operator.specs.Image.{IsImage}
use Rattle.operator.specs.Plain.{plain}
use Rattle.operator.specs.Window.{window, window_at}
use Rattle.seq.specs.Bits.{bit}
use Rattle.seq.specs.Lists.{one, keep, count}
use Rattle.seq.specs.Tab.{tab, up_to}
use Rattle.table.specs.declared.Table.{Table}
use Rattle.table.specs.Sample.{listed}

abbrev pub square : List ℕ
square = 6 ∷ 7 ∷ 8 ∷ 11 ∷ 12 ∷ 13 ∷ 16 ∷ 17 ∷ 18 ∷ []

abbrev pub from_bits : List ℕ → ℕ
from_bits [] = 0
from_bits (b ∷ bs) = b + 2 * from_bits bs

unfoldable pub pattern : List (List ℕ) → ℕ
pattern win = from_bits (map (window_at win) square)

unfoldable pub five_or_more : ℕ → ℕ
five_or_more p = one (leb 5 (count (bit p) (up_to 9)))

unfoldable pub preview : ℕ → ℕ → List ℕ → List ℕ
preview w h img = tab (λ i. five_or_more (pattern (window w h img (i / w) (i % w)))) (w * h)

abbrev pub neighbours : List ℕ
neighbours = 6 ∷ 7 ∷ 8 ∷ 11 ∷ 13 ∷ 16 ∷ 17 ∷ 18 ∷ []

unfoldable pub chosen : ℕ → List ℕ → ℕ
chosen s [] = 0
chosen s (n ∷ ns) = s % 2 * 2 ^ n + chosen (s / 2) ns

unfoldable pub median_elements : List ℕ
median_elements = map (λ s. chosen s neighbours) (keep (λ s. eqb (count (bit s) (up_to 8)) 5) (up_to 256))

unfoldable pub median_table : Table
median_table = listed median_elements (13597056 ∷ [])

abbrev pub Preview : Type 0
Preview = (w h : ℕ) (img : List ℕ) → IsImage w h img → preview w h img ≡ plain median_table w h img
