-- Demand 1 holds.
--     demand_1     the claim about every record, areas and call
-- Assumes nothing.
use Rattle.history.specs.Demand1.{Demand1}
use Rattle.history.proofs.ChannelPasses.{handed_back}
use Rattle.history.proofs.ChannelRuns.{ends_channel}
use Rattle.history.proofs.Kept.{kept}
use Rattle.history.proofs.Refusals.{zeroed, unaltered}
use Rattle.history.proofs.Runs.{ends}
use Rattle.history.proofs.States.{given, only, by_state, by_input, by_output}

pub demand_1 : Demand1
demand_1 = record {
  zeroed = λ c s r. zeroed s c;
  unaltered = λ c s r. unaltered s c;
  run_ends = ends;
  channel_ends = ends_channel;
  handed_back = handed_back;
  given = given;
  only = only;
  by_state = by_state;
  by_input = by_input;
  by_output = by_output;
  areas = kept;
}
