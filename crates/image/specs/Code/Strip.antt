-- The parts of a strip as its private walks have them.
--     Heights hs     as many parts as a strip may have, each of a height within the limit, as rules 23 and 10 leave them
-- Assumes nothing.
use Rattle.std.specs.Prelude.{true, List, ◌≡◌, ℕ, ◌≤◌, length}
use Rattle.image.specs.Size.{max_side, within}
use Rattle.image.specs.Strip.{max_parts}
use Rattle.seq.specs.Lists.{all}

pub record Heights (hs : List ℕ) : Type 0 where
  pub few : length hs ≤ max_parts
  pub each : all (within max_side) hs ≡ true
