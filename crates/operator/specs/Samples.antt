-- The tables and images of the cases (01, Trial sheets and tables).
--     one_element e K    a table of one element and one persistent element
--     ring              the eight neighbours, 2 × 2
--     cross             the four neighbours, two side by side
--     cobbles           the four neighbours, two side by side and two in a column (02, T-01)
--     long_row           the pixels two to the left and two to the right, five in a row; long_column: turned (02, T-09)
--     dot n i           n pixels, black only at pixel i
--     gapped m n        m black pixels, three white ones, n black ones
--     chessboard        6 × 6
-- Assumes nothing.
use Rattle.std.specs.Prelude.{List, [], ◌∷◌, ◌++◌, ℕ, ◌+◌, ◌-◌, ◌/◌, ◌%◌, replicate}
use Rattle.seq.specs.Tab.{tab}
use Rattle.table.specs.declared.Table.{Table}
use Rattle.table.specs.Sample.{listed}

abbrev pub one_element : ℕ → ℕ → Table
one_element e K = listed (e ∷ []) (K ∷ [])

abbrev pub ring : Table
ring = one_element 469440 405504

abbrev pub cross : Table
cross = one_element 141440 12288

abbrev pub cobbles : Table
cobbles = listed (141440 ∷ []) (12288 ∷ 135168 ∷ [])

abbrev pub long_row : Table
long_row = one_element 17408 31744

abbrev pub long_column : Table
long_column = one_element 4194308 4329604

abbrev pub dot : ℕ → ℕ → List ℕ
dot n i = replicate i 0 ++ 1 ∷ replicate (n - i - 1) 0

abbrev pub gapped : ℕ → ℕ → List ℕ
gapped m n = replicate m 1 ++ replicate 3 0 ++ replicate n 1

abbrev pub chessboard : List ℕ
chessboard = tab (λ i. (i / 6 + i % 6) % 2) 36
