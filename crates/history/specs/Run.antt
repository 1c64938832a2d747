-- Run (01): passes repeated until one answers "at rest", or is refused. The finished passes stay.
--     run_for n s     at most n + 1 passes
--     run_of s        at most pixels + 1 passes
-- Assumes nothing.
use Rattle.std.specs.Prelude.{ℕ, zero, suc}
use Rattle.history.specs.Answers.{if_changed}
use Rattle.history.specs.Pass.{Outcome, pass_of}
use Rattle.history.specs.State.{State, pixels}

unfoldable pub run_for : ℕ → State → Outcome
run_for zero s = pass_of s
run_for (suc n) s = if_changed (pass_of s).answer (run_for n (pass_of s).state) (pass_of s)

unfoldable pub run_of : State → Outcome
run_of s = run_for (pixels s.job) s
