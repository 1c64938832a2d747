-- `noise::generator::seeds` meets its contract: after k turns k numbers are filled in, and number k is at hand. Assumes nothing.
use Rattle.std.proofs.Common.{◌≡◌}
use Rattle.noise.specs.Generator.{seeded}
use Rattle.seq.specs.Tab.{Filled}
use Rattle.noise.proofs.generator.seeds.Given as goal

abbrev pub invariant-loop-number : goal.invariant-loop-number
invariant-loop-number l = Filled (seeded l.seed) l.initial.number-items l.number-items l.number-index × (l.next ≡ seeded l.seed l.number-index)
