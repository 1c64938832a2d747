-- `run::start` meets its contract.
-- Assumes nothing.
use native.Mathlib.Omega.{arith}
use Rattle.filter.proofs.RunEnds.{running_none}
use Rattle.filter.proofs.run.start.Goals as goal

pub repeat-requires : goal.repeat-requires
repeat-requires c = (
  record { room = record { plane_long = omega (arith, c.requires.3.plane_long); flips_long = c.requires.3.flips_long }; first_long = c.requires.1; second_long = c.requires.2 },
  λ t e k. running_none _ _ e k c.requires.0 c.pack.ensures c.args.sides.low c.all-marks.ensures.0 c.all-marks.ensures.1,
)
