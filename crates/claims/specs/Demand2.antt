-- 01, demand 2: each pass gives exactly the operator's image, and reports rest exactly when the operator changes nothing. The round trips of
-- files are in Files.
--     pass_image, pass_reports, pass_answers     a sound record at stage 1, made by whomever
--     listed_image, listed_reports               after every list of calls
-- Assumes nothing.
use Rattle.std.specs.Prelude.{List, ◌↔◌, ◌⊎◌, ◌≡◌, ℕ, Ok}
use Rattle.history.specs.declared.Effect.TheVariants.{Changed, Stable}
use Rattle.operator.specs.Heijmans.{modified}
use Rattle.history.proofs.Demand2.{demand_2}
use Rattle.history.specs.Call.{Call, pass, passed, answer_of, state_of, refusal_of}
use Rattle.history.specs.History.{Entry, holds}
use Rattle.history.specs.Lists.{start, play}
use Rattle.history.specs.Sound.{Unsound}
use Rattle.history.specs.State.{State}
use Rattle.history.specs.View.{view_of}

-- a sound record at stage 1, made by whomever, where the pass is not refused
module _ (s : State) (sound : Unsound s → ⊥) (loaded : s.job.stage ≡ 1) (accepted : refusal_of (answer_of pass s) ≡ Ok tt) where
  pub pass_image : view_of (state_of pass s) ≡ modified s.job.table s.job.width s.job.height (view_of s)
  pass_image = (demand_2.passes s sound loaded accepted).image

  pub pass_reports : (answer_of pass s ≡ passed (Ok Stable)) ↔ (modified s.job.table s.job.width s.job.height (view_of s) ≡ view_of s)
  pass_reports = (demand_2.passes s sound loaded accepted).reported

  pub pass_answers : (answer_of pass s ≡ passed (Ok Changed)) ⊎ (answer_of pass s ≡ passed (Ok Stable))
  pass_answers = (demand_2.passes s sound loaded accepted).otherwise

-- after every list of calls
module _ (cs : List Call) (a b : List ℕ) (e : Entry) (h : (play cs (start a b)).history ≡ holds e) where
  abbrev state : State
  state = (play cs (start a b)).state

  pub listed_image : view_of (state_of pass state) ≡ modified e.table e.width e.height (view_of state)
  listed_image = (demand_2.in_lists cs a b e h).image

  pub listed_reports : (answer_of pass state ≡ passed (Ok Stable)) ↔ (modified e.table e.width e.height (view_of state) ≡ view_of state)
  listed_reports = (demand_2.in_lists cs a b e h).reported
