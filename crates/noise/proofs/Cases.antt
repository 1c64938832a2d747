-- The cases of specs/Cases, computed.
-- Assumes nothing.
use Rattle.std.proofs.Common.{refl}
use Rattle.image.specs.Size.{within, bad_size}
use Rattle.noise.specs.Cases.{Cases}
use Rattle.noise.specs.Generator.{drawn}
use Rattle.noise.specs.Noise.{noise, noise_verdict, noise_area}
use Rattle.verdict.specs.Writer.{over}

pub cases_met : Cases
unfolding noise drawn noise_verdict noise_area bad_size within over
cases_met = record { numbers_met = refl; sheets_met = refl; areas_met = refl; past_met = refl; short_met = refl }
