-- 01, demand 1: for every record (made by whomever), two areas and call.
--     pass_refused, run_refused, view_refused, figures_refused, collect_refused, unaltered     a refused call
--     run_ends, run_answers     a run
--     unsound_refused, not_collected_refused, nothing_loaded_refused, not_at_rest_refused     14 to 17, each under its condition
--     by_cause, by_state        and under no other
--     pass_overruns, run_overruns     14's pass clause
--     load_refused_by, collect_refused_by     refused because of the input
--     lengths_kept, past_kept, load_second     what a call leaves of the areas
-- Assumes nothing.
use Rattle.std.specs.Prelude.{true, false, List, [], ◌∷◌, ◌≢◌, ◌≡◌, ℕ, ◌≤◌, ◌<◌, ltb, length, drop, Ok, Err}
use Rattle.verdict.specs.declared.Rule.TheVariants as why
use Rattle.history.proofs.Demand1.{demand_1}
use Rattle.history.specs.Call.{Call, load, pass, run, view, figures, collect, is_load, is_run, is_collect, passed, shown, figured, collected, answer_of, state_of, refusal_of}
use Rattle.history.specs.Collect as collecting
use Rattle.history.specs.declared.Effect.TheVariants.{Changed}
use Rattle.history.specs.Demand1.{after_passes, quota_rule, state_numbers, placed, Cause, unsound, stopped, not_collected, nothing_loaded, not_at_rest, reach}
use Rattle.history.specs.Lists.{lengths_of}
use Rattle.history.specs.Load.{areas_rule}
use Rattle.history.specs.Pass.{pass_of}
use Rattle.history.specs.Run.{run_of}
use Rattle.history.specs.Sound.{Unsound, Overruns}
use Rattle.history.specs.Source.{Source, source_verdict}
use Rattle.history.specs.State.{State, pixels}
use Rattle.table.specs.declared.Table.{Table}
use Rattle.table.specs.Record.{record_verdict}
use Rattle.verdict.specs.Numbers.{among}
use Rattle.verdict.specs.Rules.{refusal, refuse_if, judge, number_of, Refusal}

-- a refused call: all else in its answer is zero, an output is as it was
module _ (s : State) (r : Refusal) where
  pub pass_refused : refusal_of (answer_of pass s) ≡ Err r → answer_of pass s ≡ passed (Err r)
  pass_refused = demand_1.zeroed pass s r

  pub run_refused : refusal_of (answer_of run s) ≡ Err r → answer_of run s ≡ passed (Err r)
  run_refused = demand_1.zeroed run s r

  pub view_refused : refusal_of (answer_of view s) ≡ Err r → answer_of view s ≡ shown [] (Err r)
  view_refused = demand_1.zeroed view s r

  pub figures_refused : refusal_of (answer_of figures s) ≡ Err r → answer_of figures s ≡ figured (Err r)
  figures_refused = demand_1.zeroed figures s r

  pub collect_refused : (out : List ℕ) → refusal_of (answer_of (collect out) s) ≡ Err r → answer_of (collect out) s ≡ collected (Err r) out
  collect_refused out = demand_1.zeroed (collect out) s r

  -- and record and areas are as they were
  pub unaltered : (c : Call) → is_run c ≡ false → refusal_of (answer_of c s) ≡ Err r → state_of c s ≡ s
  unaltered c = demand_1.unaltered c s r

-- a run: its finished passes called singly, and then a pass that rests or is refused, at most pixels + 1 in all
module _ (s : State) where
  pub run_ends : (k : ℕ) × (k ≤ pixels s.job) × ((i : ℕ) → i < k → (pass_of (after_passes i s)).answer ≡ Ok Changed)
      × (run_of s ≡ pass_of (after_passes k s))
  run_ends =
      let e = demand_1.run_ends s in
      (e.finished, e.few, e.goes, e.last)

  pub run_answers : (run_of s).answer ≢ Ok Changed
  run_answers = (demand_1.run_ends s).ends

-- 14 to 17, each under its condition; 24 and 25, and what comes of them: claims/Rounds. Of a channel's call only 25 comes before 14
module _ (c : Call) (s : State) where
  pub unsound_refused : quota_rule c ≡ Ok tt → Unsound s → refusal_of (answer_of c s) ≡ Err (refusal why.Unsound 0)
  unsound_refused k u = demand_1.given c s why.Unsound (unsound k u)

  module _ (sound : Unsound s → ⊥) where
    pub not_collected_refused : is_load c ≡ true → s.job.stage ≢ 0 → refusal_of (answer_of c s) ≡ Err (refusal why.NotCollected 0)
    not_collected_refused l z = demand_1.given c s why.NotCollected (not_collected sound l z)

    pub nothing_loaded_refused : quota_rule c ≡ Ok tt → is_load c ≡ false → s.job.stage ≡ 0 → refusal_of (answer_of c s) ≡ Err (refusal why.NothingLoaded 0)
    nothing_loaded_refused k l z = demand_1.given c s why.NothingLoaded (nothing_loaded k sound l z)

    pub not_at_rest_refused : is_collect c ≡ true → s.job.stage ≡ 1 → refusal_of (answer_of c s) ≡ Err (refusal why.NotStable 0)
    not_at_rest_refused l z = demand_1.given c s why.NotStable (not_at_rest sound l z)

  -- and under no other
  pub by_cause : (r : Refusal) → refusal_of (answer_of c s) ≡ Err r → among state_numbers (number_of r) ≡ true → Cause c s r.rule × (r.place ≡ placed c r.rule)
  by_cause = demand_1.only c s

  pub by_state : (r : Refusal) → is_load c ≡ false → is_collect c ≡ false → refusal_of (answer_of c s) ≡ Err r → among state_numbers (number_of r) ≡ true
  by_state = demand_1.by_state c s

-- 14's pass clause
pub pass_overruns : (s : State) → Overruns s → refusal_of (answer_of pass s) ≡ Err (refusal why.Unsound 0)
pass_overruns s o = demand_1.given pass s why.Unsound (stopped o)

pub run_overruns : (s : State) (k : ℕ) → ((i : ℕ) → i < k → (pass_of (after_passes i s)).answer ≡ Ok Changed) → Overruns (after_passes k s)
    → refusal_of (answer_of run s) ≡ Err (refusal why.Unsound 0)
run_overruns s k g o = demand_1.given run s why.Unsound (stopped (k, g, o))

-- because of the input: load on a sound empty record, collect at rest
pub load_refused_by : (t : Table) (x : Source) (s : State) → (Unsound s → ⊥) → s.job.stage ≡ 0
    → refusal_of (answer_of (load t x) s) ≡ judge (record_verdict t ∷ source_verdict x ∷ areas_rule x (length s.first) (length s.second) ∷ [])
load_refused_by = demand_1.by_input

pub collect_refused_by : (out : List ℕ) (s : State) → (Unsound s → ⊥) → s.job.stage ≡ 2
    → refusal_of (answer_of (collect out) s) ≡ refuse_if (ltb (length out) (length (collecting.collected s))) why.AreaShort 0
collect_refused_by = demand_1.by_output

-- what a call leaves of the areas
module _ (c : Call) (s : State) where
  pub lengths_kept : lengths_of (state_of c s) ≡ lengths_of s
  lengths_kept = (demand_1.areas c s).lengths

  pub past_kept : (drop (reach c s) (state_of c s).first ≡ drop (reach c s) s.first) × (drop (reach c s) (state_of c s).second ≡ drop (reach c s) s.second)
  past_kept = ((demand_1.areas c s).first_past, (demand_1.areas c s).second_past)

  pub load_second : is_load c ≡ true → (state_of c s).second ≡ s.second
  load_second = (demand_1.areas c s).second_stays
