-- Demand 2: each pass gives exactly the operator's image, and reports rest exactly when the operator changes nothing; files round-trip.
--     Demand2      the claim, on every sound record at stage 1 and on every list of calls
-- Assumes nothing.
use Rattle.std.specs.Prelude.{List, ◌≡◌, ℕ, Ok}
use Rattle.history.specs.Call.{Call, pass, answer_of, refusal_of}
use Rattle.history.specs.Demand3.{Operated, played}
use Rattle.history.specs.History.{Entry, holds}
use Rattle.history.specs.Sound.{Unsound}
use Rattle.history.specs.State.{State}
use Rattle.image.specs.RoundTrip.{ImageRoundTrip}
use Rattle.table.specs.RoundTrip.{TableRoundTrip}

pub record Demand2 : Type 0 where
  -- whoever made the record, where the pass is not refused
  pub passes : (s : State) → (Unsound s → ⊥) → s.job.stage ≡ 1 → refusal_of (answer_of pass s) ≡ Ok tt
      → Operated s.job.table s.job.width s.job.height s
  -- after every list of calls, no pass is refused
  pub in_lists : (cs : List Call) (a b : List ℕ) (e : Entry) → (played cs a b).history ≡ holds e
      → Operated e.table e.width e.height (played cs a b).state
  pub tables : TableRoundTrip
  pub images : ImageRoundTrip
