-- A job record with its two areas.
--     at j a b         the state of a job whose record is j and whose areas are a and b
-- Assumes nothing.
use Rattle.std.specs.Prelude.{List, ℕ}
use Rattle.history.specs.declared.Job.{Job}
use Rattle.history.specs.State.{State}

abbrev pub at : Job → List ℕ → List ℕ → State
at j a b = record { job = j; first = a; second = b }
