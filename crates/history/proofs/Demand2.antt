-- Demand 2 holds.
--     demand_2     the claim, on every sound record at stage 1 and on every list of calls
-- Assumes nothing.
use Rattle.std.specs.Prelude.{Ok}
use mathlib.Core.Path.{◌≡◌}
use native.Mathlib.Omega.{arith}
use Rattle.history.specs.Call.{pass, answer_of, refusal_of}
use Rattle.history.specs.Demand2.{Demand2}
use Rattle.history.specs.Demand3.{Operated, played}
use Rattle.history.specs.Sound.{Unsound}
use Rattle.history.specs.State.{State}
use Rattle.history.proofs.After.{held}
use Rattle.history.proofs.Lists.{played_related}
use Rattle.history.proofs.Overruns.{sound}
use Rattle.history.proofs.Unsound.{sound_ready}
use Rattle.history.proofs.View.{operated_ready, operated_held}
use Rattle.image.proofs.RoundTrip.{image_round_trip}
use Rattle.table.proofs.RoundTrip.{table_round_trip}

operated : (s : State) → (Unsound s → ⊥) → s.job.stage ≡ 1 → refusal_of (answer_of pass s) ≡ Ok tt
    → Operated s.job.table s.job.width s.job.height s
operated s n z = operated_ready s (sound_ready s (sound s n) (λ q. omega arith)) z

pub demand_2 : Demand2
demand_2 = record {
  passes = operated;
  in_lists = λ cs a b e q. operated_held (held (played cs a b) (played_related cs a b) e q);
  tables = table_round_trip;
  images = image_round_trip;
}
