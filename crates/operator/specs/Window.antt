-- Where the offsets of a pixel's 5 × 5 window lie (01, One pass: the edge rule).
--
--        x 0   1   2   3   4          position n = 5 · y + x has the offset (x − 2, y − 2)
--     y 0  0   1   2   3   4
--     y 1  5   6   7   8   9
--     y 2 10  11 [12] 13  14          12 is the pixel itself
--     y 3 15  16  17  18  19
--     y 4 20  21  22  23  24
--
--     clamp size i         the place i − 2, cut to 0 .. size − 1
--     site_row h r n, site_col w c n    the pixel that stands for position n at (r, c)
--     window w h img r c   the window as five rows of five values
--     window_at win n       the value of position n in a window
-- Assumes nothing.
use Rattle.std.specs.Prelude.{List, [], ℕ, ◌+◌, ◌-◌, min, get_or}
use Rattle.operator.specs.Image.{pixel}
use Rattle.seq.specs.Tab.{tab}
use Rattle.table.specs.Mask.{across, down}

abbrev pub clamp : ℕ → ℕ → ℕ
clamp size i = min (i - 2) (size - 1)

abbrev pub site_row : ℕ → ℕ → ℕ → ℕ
site_row h r n = clamp h (r + down n)

abbrev pub site_col : ℕ → ℕ → ℕ → ℕ
site_col w c n = clamp w (c + across n)

unfoldable pub window : ℕ → ℕ → List ℕ → ℕ → ℕ → List (List ℕ)
window w h img r c = tab (λ y. tab (λ x. pixel w img (clamp h (r + y)) (clamp w (c + x))) 5) 5

abbrev pub window_at : List (List ℕ) → ℕ → ℕ
window_at win n = get_or (get_or win (down n) []) (across n) 0
