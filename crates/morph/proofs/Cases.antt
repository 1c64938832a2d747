-- The cases of specs/Cases, computed.
-- Assumes nothing.
use mathlib.Core.Path.{refl}
use Rattle.morph.specs.Cases.{Cases}
use Rattle.morph.specs.Operator.{opened, held, next}

pub cases_met : Cases
unfolding opened held next
cases_met = refl
