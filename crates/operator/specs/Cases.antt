-- Small cases that fix the edge rule, "wholly inside", the opening, and how far a pass sees.
--     cases_met     one theorem, computed: images after a pass, and a pixel that no translate opens
-- Assumes nothing.
use Rattle.std.specs.Prelude.{Bool, true, not, List, [], ◌∷◌, ◌≡◌, refl, ℕ, get_or, replicate}
use Rattle.image.specs.Parts.{rows_of, part_of}
use Rattle.operator.specs.Heijmans.{psi_at, psi, alpha, beta, modified}
use Rattle.operator.specs.Image.{pixel, exchange}
use Rattle.operator.specs.Pass.{inside, solid, opened, held, pass_at, pass}
use Rattle.operator.specs.Samples.{one_element, ring, cross, cobbles, long_row, long_column, dot, gapped, chessboard}
use Rattle.seq.specs.Bits.{bit, bits_of}
use Rattle.seq.specs.Lists.{all, same_list}
use Rattle.seq.specs.Tab.{up_to}
use Rattle.table.specs.Mask.{positions}
use Rattle.table.specs.Record.{masks, persistents}

-- the pass on a 5 × 5 image with one black pixel leaves it, clears it
abbrev stays : ℕ → Bool
stays i = same_list (pass ring 5 5 (dot 25 i)) (dot 25 i)

abbrev goes : ℕ → Bool
goes i = same_list (pass ring 5 5 (dot 25 i)) (replicate 25 0)

-- row 6 after a pass of a strip of one column, and of its first part alone
abbrev in_strip : ℕ
in_strip = pixel 1 (pass long_column 1 16 (gapped 5 8)) 6 0

abbrev in_part : List ℕ → ℕ
in_part hs = pixel 1 (pass long_column 1 (get_or hs 0 0) (part_of 1 hs 0 (gapped 5 8))) 6 0

-- a dot at a corner stands for its own neighbours outside, and stays; one inside goes. In a 4 × 4 image with the dot at (1, 1), no
-- translate that is wholly inside opens (0, 0). Nothing opens a pixel of a chessboard, so it stays, by the report's formula too. The dot in
-- the middle of a 3 × 3 image goes where two persistent elements, wide and tall, open all its neighbours, and stays with either alone. A pass
-- sees six columns far, and six rows of its part keep a pixel from feeling a seam; five do not
abbrev cases : List Bool
cases =
    stays 0
    ∷ stays 4
    ∷ stays 20
    ∷ stays 24
    ∷ goes 12
    ∷ not (opened ring 4 4 (dot 16 5) 0 0 0)
    ∷ same_list (pass cross 6 6 chessboard) chessboard
    ∷ same_list (modified cross 6 6 chessboard) chessboard
    ∷ same_list (pass cross 3 3 (dot 9 4)) (dot 9 4)
    ∷ same_list (pass (one_element 141440 135168) 3 3 (dot 9 4)) (dot 9 4)
    ∷ same_list (pass cobbles 3 3 (dot 9 4)) (replicate 9 0)
    ∷ same_list (modified cobbles 3 3 (dot 9 4)) (replicate 9 0)
    ∷ same_list (pass long_row 13 1 (gapped 5 5)) (1 ∷ 1 ∷ 1 ∷ 1 ∷ 1 ∷ 0 ∷ 1 ∷ 0 ∷ 1 ∷ 1 ∷ 1 ∷ 1 ∷ 1 ∷ [])
    ∷ same_list (pass long_row 13 1 (0 ∷ gapped 4 5)) (0 ∷ gapped 4 5)
    ∷ same_list (in_strip ∷ in_part (12 ∷ 4 ∷ []) ∷ in_part (13 ∷ 3 ∷ []) ∷ []) (1 ∷ 0 ∷ 1 ∷ [])
    ∷ []

pub cases_met : all (λ b. b) cases ≡ true
unfolding inside solid opened held pass_at pass psi_at psi alpha beta modified exchange rows_of positions masks persistents bit bits_of up_to
cases_met = refl
