-- The calls on a job, as one function of record and areas (01, Lists of calls).
--     Call            a call with its other arguments
--     is_load c, is_run c, is_collect c     which call it is; a channel's run is a run
--     Answer          what a call answers, and leaves in the memory that it was lent beside the areas. A quota is handed back as a record is (specs/Channel)
--     answer_of c s    the answer; state_of c s: record and areas afterwards
--     refusal_of a     accepted, or the refusal that an answer holds
--     refusing c r    the answer of a call that is refused by r: all else is zero, and an output is as it was
-- Assumes nothing.
use Rattle.std.specs.Prelude.{Bool, true, false, List, [], ℕ, length, Err}
use Rattle.history.specs.declared.Quota.{Quota}
use Rattle.history.specs.Answers.{Passed, Figured}
use Rattle.history.specs.Channel.{channel_pass_of, channel_run_of}
use Rattle.history.specs.Collect.{collect_written, collect_output, collect_state}
use Rattle.history.specs.Load.{load_verdict, load_state}
use Rattle.history.specs.Pass.{pass_of}
use Rattle.history.specs.Run.{run_of}
use Rattle.history.specs.Source.{Source}
use Rattle.history.specs.State.{State, ready_verdict}
use Rattle.history.specs.View.{view_of, figures_of}
use Rattle.table.specs.declared.Table.{Table}
use Rattle.verdict.specs.Answers.{verdict_of}
use Rattle.verdict.specs.Rules.{Verdict, Refusal}
use Rattle.verdict.specs.Writer.{Written}

pub data Call : Type 0 where
  -- a table record, and what the image is taken from
  load : Table → Source → Call
  pass run view figures : Call
  -- a lent output
  collect : List ℕ → Call
  -- the quota that a channel's call is handed, and the channel (02, T-10)
  channel_pass channel_run : Quota → ℕ → Call

pub data Answer : Type 0 where
  loaded : Verdict → Answer
  passed : Passed → Answer
  -- the part shown, and the answer of the call for its refusal
  shown : List ℕ → Verdict → Answer
  figured : Figured → Answer
  -- the answer, and the output afterwards
  collected : Written → List ℕ → Answer

abbrev pub is_load : Call → Bool
is_load (load t x) = true
is_load pass = false
is_load run = false
is_load view = false
is_load figures = false
is_load (collect out) = false
is_load (channel_pass q i) = false
is_load (channel_run q i) = false

abbrev pub is_run : Call → Bool
is_run (load t x) = false
is_run pass = false
is_run run = true
is_run view = false
is_run figures = false
is_run (collect out) = false
is_run (channel_pass q i) = false
is_run (channel_run q i) = true

abbrev pub is_collect : Call → Bool
is_collect (load t x) = false
is_collect pass = false
is_collect run = false
is_collect view = false
is_collect figures = false
is_collect (collect out) = true
is_collect (channel_pass q i) = false
is_collect (channel_run q i) = false

unfoldable pub answer_of : Call → State → Answer
answer_of (load t x) s = loaded (load_verdict t x s)
answer_of pass s = passed (pass_of s).answer
answer_of run s = passed (run_of s).answer
answer_of view s = shown (view_of s) (ready_verdict s)
answer_of figures s = figured (figures_of s)
answer_of (collect out) s = collected (collect_written (length out) s) (collect_output out s)
answer_of (channel_pass q i) s = passed (channel_pass_of q i s).answer
answer_of (channel_run q i) s = passed (channel_run_of q i s).answer

unfoldable pub state_of : Call → State → State
state_of (load t x) s = load_state t x s
state_of pass s = (pass_of s).state
state_of run s = (run_of s).state
state_of view s = s
state_of figures s = s
state_of (collect out) s = collect_state (length out) s
state_of (channel_pass q i) s = (channel_pass_of q i s).state
state_of (channel_run q i) s = (channel_run_of q i s).state

abbrev pub refusal_of : Answer → Verdict
refusal_of (loaded v) = v
refusal_of (passed a) = verdict_of a
refusal_of (shown px v) = v
refusal_of (figured a) = verdict_of a
refusal_of (collected a out) = verdict_of a

abbrev pub refusing : Call → Refusal → Answer
refusing (load t x) r = loaded (Err r)
refusing pass r = passed (Err r)
refusing run r = passed (Err r)
refusing view r = shown [] (Err r)
refusing figures r = figured (Err r)
refusing (collect out) r = collected (Err r) out
refusing (channel_pass q i) r = passed (Err r)
refusing (channel_run q i) r = passed (Err r)
