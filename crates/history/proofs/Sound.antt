-- A job that holds an entry, or none, is sound, and is ready exactly when it holds one.
--     held_ready                   it is ready, where it holds one
--     sound_held, sound_empty      01's 14 does not hold
--     ready_held, ready_empty      so pass, run, view and figures are accepted, or refused by 16
-- Assumes nothing.
use Rattle.std.specs.Prelude.{Ok, Err}
use mathlib.Core.Bool.{Bool, true, false}
use mathlib.Core.Path.{◌≡◌, refl}
use Prim.Native.Nat.{ℕ, ◌≤◌}
use native.Mathlib.Omega.{arith}
use lib.Dec.{eqb}
use Rattle.history.specs.History.{Entry}
use Rattle.history.specs.Sound.{Ready}
use Rattle.history.specs.State.{State, empty_job, nonzero, unsound, ready_verdict}
use Rattle.verdict.specs.declared.Rule.TheVariants as why
use Rattle.history.proofs.Images.{none_above}
use Rattle.history.proofs.Parts.{good_parts}
use Rattle.history.proofs.Ready.{ready_sound, ready_accepted}
use Rattle.history.proofs.Related.{stage_of, job_of, Held}
use Rattle.history.proofs.Row.{row_image, row_bound, row_changes_lem}
use Rattle.verdict.specs.Rules.{refusal}

-- stage 1 and 2 are at least 1 and at most 2, and not 0
stage_low : (b : Bool) → 1 ≤ stage_of b
stage_low true = omega arith
stage_low false = omega arith

stage_high : (b : Bool) → stage_of b ≤ 2
stage_high true = omega arith
stage_high false = omega arith

pub stage_held : (b : Bool) → eqb (stage_of b) 0 ≡ false
stage_held true = refl
stage_held false = refl

pub sound_empty : (s : State) → s.job ≡ empty_job → unsound s ≡ false
unfolding unsound empty_job nonzero
sound_empty s q = rw q

pub ready_empty : (s : State) → s.job ≡ empty_job → ready_verdict s ≡ Err (refusal why.NothingLoaded 0)
unfolding ready_verdict empty_job
ready_empty s q = rw (sound_empty s q, q)

module _ {s : State} {e : Entry} {n : ℕ} (r : Held s e n) where
  pub held_ready : Ready s
  held_ready = record {
    begun = rw r.job (stage_low e.settled);
    staged = rw r.job (stage_high e.settled);
    parts = rw r.job (good_parts (job_of e) r.parts);
    table = rw r.job r.accepted;
    first = rw r.job r.first_long;
    second = rw r.job r.second_long;
    binary = rw r.shown (none_above (row_image r.accepted r.row r.begun));
    passes = rw r.job (row_bound r.accepted r.row r.begun);
    counts = rw r.job (row_changes_lem r.accepted r.row r.begun);
  }

  pub sound_held : unsound s ≡ false
  sound_held = ready_sound held_ready

  pub ready_held : ready_verdict s ≡ Ok tt
  ready_held = ready_accepted held_ready
