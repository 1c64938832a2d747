-- Reading numbers at a position of a slice.
--     number_of bytes at    what reading the number answers that the bytes start with, where they stand at the position
--     number_at bytes at    the same of a whole slice and a position in it
-- Assumes nothing.
use Rattle.std.specs.Prelude.{cond, ◌||◌, List, ℕ, ◌+◌, drop, Result, Ok, Err}
use Rattle.table.specs.declared.number.Number.{Number}
use Rattle.table.specs.Number.{size, value, ends, too_long, not_fewest}
use Rattle.verdict.specs.declared.Rule.TheVariants as why
use Rattle.verdict.specs.declared.Rule.{Rule}

unfoldable pub number_of : List ℕ → ℕ → Result Number Rule
number_of bytes at =
    cond (ends bytes) (Err why.NumberEnds) (cond (too_long bytes || not_fewest bytes) (Err why.NumberForm) (Ok (record { value = value bytes; past = at + size bytes })))

unfoldable pub number_at : List ℕ → ℕ → Result Number Rule
number_at bytes at = number_of (drop at bytes) at
