-- A small system that fixes the operator where it could be read another way.
--     five        five sites: 1 and 2 make a block and an element at 0; 3 and 4 are each other's element and lie in no block
--     cases       what one pass makes of three images
--     Cases       the definitions give what is expected
-- Assumes nothing.
use Rattle.std.specs.Prelude.{Bool, true, List, [], ◌∷◌, ◌≡◌, ℕ, eqb, get_or}
use Rattle.seq.specs.Lists.{all, any, same}
use Rattle.morph.specs.System.{System, Image}
use Rattle.morph.specs.Operator.{next}

abbrev five : System ℕ
five =
    record {
      hits = λ p. get_or (((1 ∷ 2 ∷ []) ∷ []) ∷ ((2 ∷ []) ∷ []) ∷ ((1 ∷ []) ∷ []) ∷ ((4 ∷ []) ∷ []) ∷ ((3 ∷ []) ∷ []) ∷ []) p [];
      blocks = λ p. get_or ([] ∷ ((1 ∷ 2 ∷ []) ∷ []) ∷ ((1 ∷ 2 ∷ []) ∷ []) ∷ []) p [];
    }

-- the image that is black at the sites of l
abbrev at : List ℕ → Image ℕ
at l p = any (eqb p) l

-- one pass takes the first image to the second
abbrev takes : List ℕ → List ℕ → Bool
takes l k = all (λ p. same (next five (at l) p) (at k p)) (0 ∷ 1 ∷ 2 ∷ 3 ∷ 4 ∷ [])

-- site 0 follows the block, black or white; 3 and 4 differ and stay, since nothing opens them
abbrev pub cases : List Bool
cases = takes (0 ∷ []) [] ∷ takes (1 ∷ 2 ∷ []) (0 ∷ 1 ∷ 2 ∷ []) ∷ takes (3 ∷ []) (3 ∷ []) ∷ []

abbrev pub Cases : Type 0
Cases = all (λ b. b) cases ≡ true
