-- The parts of a record as the code tests them.
--     set_from n xs     a number from place n on is not zero
-- Assumes nothing.
use Rattle.std.specs.Prelude.{Bool, not, List, ℕ, eqb, drop}
use Rattle.seq.specs.Lists.{all}

abbrev pub set_from : ℕ → List ℕ → Bool
set_from n xs = not (all (eqb 0) (drop n xs))
