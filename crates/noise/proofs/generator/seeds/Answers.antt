-- `noise::generator::seeds` meets its contract: after k turns k numbers are filled in, and number k is at hand. Assumes nothing.
use Rattle.std.proofs.Common.{ℕ, ◌+◌, ◌%◌, ◌^◌, ap, add-one, arith}
use Rattle.noise.specs.Generator.{increment}
use Rattle.seq.proofs.Tab.{fill_more}
use Rattle.noise.proofs.generator.seeds.Goals as goal

pub loop-number-preserved : goal.loop-number-preserved
loop-number-preserved c = (
  fill_more c.loop-number.invariant.0 (omega arith) c.loop-number.invariant.1,
  rw add-one (ap (λ (n : ℕ). (n + increment) % 2 ^ 32) c.loop-number.invariant.1),
)
