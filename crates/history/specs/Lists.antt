-- Lists of calls from an empty job, with the history beside them (01, Lists of calls).
--     Course            record and areas, the history, and how many passes were accepted since the load, those inside runs counted
--     start a b         an empty record and two areas of any length and bytes
--     lengths_of s       the lengths of the areas
--     tallied c H n     the tally after an accepted call; tally_as v c H n: after a call with this verdict
--     step c w          one call
--     play cs w         the calls of a list, one after the other
--     uncollected cs w  no collect of the list is accepted
--     first_of e         the first image of an entry; oldest img earlier: the oldest of a row, from the last image back
--     over_steps f e     f from image to next image, summed over the steps of an entry; sum_steps f img earlier: over those of a row
-- Assumes nothing.
use Rattle.std.specs.Prelude.{Bool, true, not, ◌&&◌, List, [], ◌∷◌, ℕ, ◌+◌, ◌*◌, length, Ok, Err}
use Rattle.history.specs.Call.{Call, load, pass, run, view, figures, collect, channel_pass, channel_run, is_collect, answer_of, state_of, refusal_of}
use Rattle.history.specs.History.{Entry, History, empty, holds, Lengths, passes_of_run, made, barred_by, after}
use Rattle.history.specs.State.{State, empty_job}
use Rattle.verdict.specs.Rules.{is_accepted, Verdict}

pub record Course : Type 0 where
  pub state : State
  pub history : History
  pub tally : ℕ

unfoldable pub start : List ℕ → List ℕ → Course
start a b = record { state = record { job = empty_job; first = a; second = b }; history = empty; tally = 0 }

unfoldable pub lengths_of : State → Lengths
lengths_of s = record { first = length s.first; second = length s.second }

unfoldable pub tallied : Call → History → ℕ → ℕ
tallied (load t x) H n = 0
tallied pass H n = n + 1
tallied run empty n = n
tallied run (holds e) n = n + passes_of_run (e.width * e.height + 1) e
tallied view H n = n
tallied figures H n = n
tallied (collect out) H n = 0
tallied (channel_pass q i) H n = n + 1
tallied (channel_run q i) empty n = n
tallied (channel_run q i) (holds e) n = n + made (e.width * e.height + 1) q i e

abbrev pub tally_as : Verdict → Call → History → ℕ → ℕ
tally_as (Ok _) c H n = tallied c H n
tally_as (Err r) c H n = n

unfoldable pub step : Call → Course → Course
step c w =
    record {
      state = state_of c w.state;
      history = after c (lengths_of w.state) w.history;
      tally = tally_as (barred_by c (lengths_of w.state) w.history) c w.history w.tally;
    }

abbrev pub play : List Call → Course → Course
play [] w = w
play (c ∷ cs) w = play cs (step c w)

abbrev pub uncollected : List Call → Course → Bool
uncollected [] w = true
uncollected (c ∷ cs) w = not (is_collect c && is_accepted (refusal_of (answer_of c w.state))) && uncollected cs (step c w)

abbrev pub oldest : List ℕ → List (List ℕ) → List ℕ
oldest img [] = img
oldest img (before ∷ earlier) = oldest before earlier

abbrev pub first_of : Entry → List ℕ
first_of e = oldest e.last e.earlier

abbrev pub sum_steps : (List ℕ → List ℕ → ℕ) → List ℕ → List (List ℕ) → ℕ
sum_steps f img [] = 0
sum_steps f img (before ∷ earlier) = f before img + sum_steps f before earlier

abbrev pub over_steps : (List ℕ → List ℕ → ℕ) → Entry → ℕ
over_steps f e = sum_steps f e.last e.earlier
