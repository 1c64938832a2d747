-- A run is its passes called singly (01, Lists of calls).
--     run_once, run_stops               a run that its first pass ends
--     settled_stays                     passes leave a settled entry as it is
--     few_passes                        a run of at most n passes makes at most n
--     course s e n, step_pass, step_run     a job beside an entry, and a pass and a run there
--     Begins s e, begins                the two ways that a run begins
--     pass_answer                       a pass answers "at rest" exactly where the mark stands afterwards
--     run_plays                         record, areas, history and tally after a run are those after its passes
--     run_rests                         a run of at most one pass more than there are pixels answers "at rest", and sets the mark
--     run_answer, ran_settled, run_as_passes     so does every run; and it is its passes called singly
-- Assumes nothing.
use Rattle.std.specs.Prelude.{Ok}
use mathlib.Core.Bool.{Bool, true, false, cond}
use mathlib.Core.Path.{◌≡◌, refl, sym, ap, ◌∙◌, subst⁻¹}
use Prim.Native.Nat.{ℕ, zero, suc, ◌+◌, ◌*◌, ◌≤◌}
use native.Mathlib.Numerals.{add-one}
use native.Mathlib.Omega.{arith}
use lib.ListN.{length, replicate}
use Rattle.history.specs.declared.Effect.TheVariants.{Changed, Stable}
use Rattle.operator.specs.Image.{differs}
use Rattle.history.specs.declared.Job.{Job}
use Rattle.history.specs.Answered.{rest_if}
use Rattle.history.specs.Call.{pass, run, answer_of, state_of}
use Rattle.history.specs.Call as calls
use Rattle.history.specs.Demand3.{RunAsPasses}
use Rattle.history.specs.History.{Entry, holds, next_of, joined, marked, passed, passed_for, ran, passes_of_run, refused_by, barred_by, accepted, after}
use Rattle.history.specs.Lists.{Course, tallied, step, play}
use Rattle.history.specs.Pass.{Outcome, pass_of}
use Rattle.history.specs.Run.{run_for, run_of}
use Rattle.history.specs.State.{State, pixels}
use Rattle.history.proofs.Entries.{cond_true, cond_false, passed_settled, passed_changed, passed_quiet}
use Rattle.history.proofs.Pass.{resting, changes, quiet, turn, pass_held}
use Rattle.history.proofs.Related.{Held}
use Rattle.history.proofs.Row.{row_bound}
use Rattle.history.proofs.Runs.{run_ends, run_goes}

run_once : (s : State) → run_for 0 s ≡ pass_of s
unfolding run_for
run_once s = refl

-- a first pass that answers "at rest" is the run
run_stops : (m : ℕ) (s : State) → (pass_of s).answer ≡ Ok Stable → run_for (suc m) s ≡ pass_of s
run_stops m s q = run_ends (suc m) s (λ e. let z : ◌≡◌ {A = ℕ} 0 1 = cc in omega arith)

-- a settled entry stays as it is
pub settled_stays : (n : ℕ) (e : Entry) → e.settled ≡ true → passed_for n e ≡ e
settled_stays zero e q = refl
settled_stays (suc n) e q = ap (passed_for n) (passed_settled e q) ∙ settled_stays n e q

-- a run of at most n passes makes at most n
pub few_passes : (n : ℕ) (e : Entry) → passes_of_run n e ≤ n
few_passes zero e = omega arith
few_passes (suc n) e = pick e.settled (differs e.last (next_of e)) (few_passes n (joined e))
  where
    pick : (b d : Bool) → passes_of_run n (joined e) ≤ n → cond b 1 (cond d (suc (passes_of_run n (joined e))) 1) ≤ suc n
    pick true d l = omega arith
    pick false true l = omega arith
    pick false false l = omega arith

-- a job beside a history that holds an entry
abbrev pub course : State → Entry → ℕ → Course
course s e n = record { state = s; history = holds e; tally = n }

-- a pass called singly, and a run
pub step_pass : (s : State) (e : Entry) (n : ℕ) → step pass (course s e n) ≡ course (pass_of s).state (passed e) (n + 1)
unfolding step state_of after barred_by refused_by accepted tallied
step_pass s e n = refl

step_run : (s : State) (e : Entry) (n : ℕ)
    → step run (course s e n) ≡ course (run_of s).state (passed_for (e.width * e.height + 1) e) (n + passes_of_run (e.width * e.height + 1) e)
unfolding step state_of after barred_by refused_by accepted tallied ran
step_run s e n = refl

-- how a run begins: its first pass is its last, or changes the image and leaves one pass less to make
pub data Begins (s : State) (e : Entry) : Type 0 where
  stops : (pass_of s).answer ≡ Ok Stable → (passed e).settled ≡ true → ((k : ℕ) → passes_of_run (suc k) e ≡ 1) → Begins s e
  goes : (pass_of s).answer ≡ Ok Changed → passed e ≡ joined e → ((k : ℕ) → passes_of_run (suc k) e ≡ suc (passes_of_run k (passed e))) → Begins s e

pub begins : {s : State} {e : Entry} {n : ℕ} → Held s e n → Begins s e
unfolding marked
begins {s} {e} r =
    elim (turn r) [
      | resting q a ↦ stops (ap (λ (o : Outcome). o.answer) a) (ap (λ (x : Entry). x.settled) (passed_settled e q) ∙ q) (λ k. rw q)
      | changes q d a
          ↦ goes (ap (λ (o : Outcome). o.answer) a) (passed_changed e q d)
          (λ k. rw (passed_changed e q d) (cond_false 1 _ q ∙ cond_true (suc (passes_of_run k (joined e))) 1 d))
      | quiet q d a
          ↦ stops (ap (λ (o : Outcome). o.answer) a) (ap (λ (x : Entry). x.settled) (passed_quiet e q d))
          (λ k. cond_false 1 _ q ∙ cond_false (suc (passes_of_run k (joined e))) 1 d)
    ]

-- a pass sets the mark, or finds it, exactly where it answers "at rest"
pub pass_answer : {s : State} {e : Entry} {n : ℕ} → Held s e n → (pass_of s).answer ≡ rest_if (passed e).settled
unfolding joined
pass_answer {s} {e} r = by (begins r)
  where
    by : Begins s e → (pass_of s).answer ≡ rest_if (passed e).settled
    by (stops a q p) = rw (a, q)
    by (goes a q p) = rw (a, q)

-- record, areas, history and tally after a run of at most k + 1 passes are those after the passes that it makes
abbrev Plays : (k : ℕ) → State → Entry → ℕ → ℕ → Type 0
Plays k s e n j = course (run_for k s).state (passed_for (suc k) e) (n + j) ≡ play (replicate j pass) (course s e n)

-- by induction: a first pass that changes the image leaves the claim for the job after it; one that does not leaves a settled entry
run_plays : (k : ℕ) {s : State} {e : Entry} {n : ℕ} → Held s e n → Plays k s e n (passes_of_run (suc k) e)
run_plays zero {s} {e} {n} r = subst⁻¹ (Plays zero s e n) (single (begins r)) once
  where
    single : Begins s e → passes_of_run 1 e ≡ 1
    single (stops a q p) = p 0
    single (goes a q p) = p 0

    once : Plays zero s e n 1
    once = rw (run_once s) (sym (step_pass s e n))
run_plays (suc k) {s} {e} {n} r = go (begins r) (run_plays k (pass_held r))
  where
    go : Begins s e → Plays k (pass_of s).state (passed e) (n + 1) (passes_of_run (suc k) (passed e)) → Plays (suc k) s e n (passes_of_run (suc (suc k)) e)
    go (stops a q p) below =
        subst⁻¹ (Plays (suc k) s e n) (p (suc k))
        (rw (run_stops k s a, settled_stays (suc k) (passed e) q) (sym (step_pass s e n)))
    go (goes a q p) below =
        subst⁻¹ (Plays (suc k) s e n) (p (suc k))
        (rw (run_goes k s a)
        (ap (course (run_for k (pass_of s).state).state (passed_for (suc k) (passed e))) (omega arith)
        ∙ below
        ∙ ap (play (replicate (passes_of_run (suc k) (passed e)) pass)) (sym (step_pass s e n))))

-- each pass but the last changes the image, and there are at most as many such passes as pixels: the last sets the mark
abbrev Rested : ℕ → State → Entry → Type 0
Rested k s e = ((run_for k s).answer ≡ Ok Stable) × ((passed_for (suc k) e).settled ≡ true)

run_rests : (k : ℕ) {s : State} {e : Entry} {n : ℕ} → Held s e n → e.width * e.height ≤ k + length e.earlier → Rested k s e
unfolding joined
run_rests zero {s} {e} {n} r l = go (begins r)
  where
    go : Begins s e → Rested 0 s e
    go (stops a q p) = (rw (run_once s) a, q)
    go (goes a q p) =
        let h = pass_held r in
        absurd (omega (arith, rw q at (row_bound h.accepted h.row h.begun)))
run_rests (suc k) {s} {e} {n} r l = go (begins r) (run_rests k (pass_held r))
  where
    go : Begins s e → ((passed e).width * (passed e).height ≤ k + length (passed e).earlier → Rested k (pass_of s).state (passed e))
        → Rested (suc k) s e
    go (stops a q p) below = (rw (run_stops k s a) a, ap (λ (x : Entry). x.settled) (settled_stays (suc k) (passed e) q) ∙ q)
    go (goes a q p) below = let b = below (rw q (omega arith)) in (rw (run_goes k s a) b.0, b.1)

module _ {s : State} {e : Entry} {n : ℕ} (r : Held s e n) where
  run_of_lem : run_of s ≡ run_for (e.width * e.height) s
  unfolding run_of
  run_of_lem = ap (λ (j : Job). run_for (pixels j) s) r.job

  pub run_answer : (run_of s).answer ≡ Ok Stable
  run_answer = rw run_of_lem (run_rests (e.width * e.height) r (omega arith)).0

  -- the mark stands after a run
  pub ran_settled : (ran e).settled ≡ true
  unfolding ran
  ran_settled = rw (add-one (e.width * e.height)) (run_rests (e.width * e.height) r (omega arith)).1

  -- a run is its passes called singly, at most one more than there are pixels
  pub run_as_passes : RunAsPasses (course s e n) e
  unfolding answer_of
  run_as_passes = record {
    passes = passes_of_run (e.width * e.height + 1) e;
    few = few_passes (e.width * e.height + 1) e;
    singly = step_run s e n ∙ rw (run_of_lem, add-one (e.width * e.height)) (run_plays (e.width * e.height) r);
    answer = ap calls.passed run_answer;
  }
