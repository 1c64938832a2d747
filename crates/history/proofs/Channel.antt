-- A channel's pass and run on a job that holds an entry (02, T-10): their passes called singly, and what the book says of them.
--     Metering q i s e, metering     the ways that a channel's pass goes
--     told k q i s e                 what the book says of a channel's call of at most k + 1 passes
--     told_rests, -spent, -once, -goes     the ways that it goes
--     channel_told                   a channel's call does what the book says
--     pass_told, run_told            so do its pass and its run
--     plays_passes                   passes called singly
--     channel_as_passes              the claim about a list
--     empty_unmade                   on an empty job
-- Assumes nothing.
use Rattle.std.specs.Prelude.{Ok, Err}
use mathlib.Core.Bool.{Bool, true, false, cond}
use mathlib.Core.List.{[], ◌∷◌}
use mathlib.Core.Logic.{⊎_elim}
use mathlib.Core.Path.{◌≡◌, refl, sym, ap, ap₂, ◌∙◌}
use Prim.Native.Nat.{ℕ, zero, suc, ◌+◌, ◌-◌, ◌*◌, ◌≤◌, ◌<◌, min}
use native.Mathlib.Numerals.{add-one}
use native.Mathlib.Omega.{arith}
use borrow.Author.Tests.{lt-ltb, le-ltb, ltb-true, ltb-false}
use lib.Dec.{ltb}
use lib.ListN.{replicate}
use Rattle.history.specs.Answers.{Passed}
use Rattle.history.specs.declared.Effect.TheVariants.{Changed, Stable}
use Rattle.operator.specs.Image.{differs}
use Rattle.history.specs.declared.Job.{Job}
use Rattle.history.specs.declared.Quota.{Quota}
use Rattle.history.specs.Answered.{rest_if, rest_as}
use Rattle.history.specs.Call.{pass, channel_pass, channel_run, state_of}
use Rattle.history.specs.Channel.{ChannelOutcome, spent_rule, paid, channel_pass_of, channel_run_for, channel_run_of}
use Rattle.history.specs.Demand1.{after_passes}
use Rattle.history.specs.Demand3.{ChannelAsPasses}
use Rattle.history.specs.History.{Entry, holds, next_of, joined, passed, passed_for, passes_of_run, needed, spends, made, refused_by, barred_by, accepted, after_as, after}
use Rattle.history.specs.Lists.{tallied, tally_as, step, play}
use Rattle.history.specs.Pass.{Outcome, pass_of}
use Rattle.history.specs.Quota.{channel_rule, available, charged, charged_for}
use Rattle.history.specs.State.{State, empty_job, pixels}
use Rattle.verdict.specs.declared.Rule.TheVariants as why
use Rattle.history.proofs.ChannelPasses as way
use Rattle.history.proofs.ChannelPasses.{unmade, channel_barred, channel_unready, ChannelWay, channel_way, continues_on}
use Rattle.history.proofs.ChannelRuns.{run_once, run_next, run_ended}
use Rattle.history.proofs.Entries.{cond_true, cond_false}
use Rattle.history.proofs.Pass.{resting, changes, quiet, turn, pass_held}
use Rattle.history.proofs.Quotas.{rule_charged, available_charged}
use Rattle.history.proofs.Related.{Held, stage_of_lem, stage_one, stage_two}
use Rattle.history.proofs.Run.{course, settled_stays, Begins, stops, goes, begins, pass_answer, step_pass}
use Rattle.history.proofs.Sound.{ready_held, ready_empty}
use Rattle.seq.proofs.Lists.{clash, either}
use Rattle.verdict.specs.Rules.{refusal, refuse_if, judge, Verdict, Refusal}
use Rattle.verdict.proofs.Rules.{refused_accepted}

-- at rest nothing is charged; else the channel has no pass left, or the pass is charged
pub data Metering (q : Quota) (i : ℕ) (s : State) (e : Entry) : Type 0 where
  rests : e.settled ≡ true → channel_pass_of q i s ≡ record { answer = (Ok Stable); state = s; quota = q } → Metering q i s e
  spent_out_lem : e.settled ≡ false → available q i ≡ 0 → channel_pass_of q i s ≡ unmade (refusal why.AllowanceSpent i) s q → Metering q i s e
  pays : e.settled ≡ false → 0 < available q i
      → channel_pass_of q i s ≡ record { answer = (pass_of s).answer; state = (pass_of s).state; quota = charged q i } → Metering q i s e

module _ (q : Quota) (i : ℕ) (rule : channel_rule q i ≡ Ok tt) {s : State} {e : Entry} {n : ℕ} (r : Held s e n) where
  pub metering : Metering q i s e
  metering = by (channel_way q i s)
    where
      by : ChannelWay q i s → Metering q i s e
      by (way.barred x bad p) = refused_accepted bad rule
      by (way.unready ok x y p) = refused_accepted y (ready_held r)
      by (way.spent_out_lem ok x z l p) = spent_out_lem (stage_one e.settled (sym (stage_of_lem r) ∙ z)) l p
      by (way.resting ok x z p) = rests (stage_two e.settled (sym (stage_of_lem r) ∙ z)) p
      by (way.paying ok x z l p) = pays (stage_one e.settled (sym (stage_of_lem r) ∙ z)) l (p ∙ paid_here (begins r))
        where
          paid_here : Begins s e
              → ◌≡◌ {A = ChannelOutcome} (record { answer = (pass_of s).answer; state = (pass_of s).state; quota = paid (pass_of s).answer 1 q i }) (record { answer = (pass_of s).answer; state = (pass_of s).state; quota = charged q i })
          paid_here (stops a u v) = rw a
          paid_here (goes a u v) = rw a

  -- a pass on a settled entry alters nothing
  rest_state : e.settled ≡ true → s ≡ (pass_of s).state
  rest_state u =
      elim (turn r) [
        | resting v a ↦ sym (ap (λ (o : Outcome). o.state) a)
        | changes v d a ↦ clash u v
        | quiet v d a ↦ clash u v
      ]

-- what the book says of a channel's call of at most k + 1 passes
abbrev pub told : ℕ → Quota → ℕ → State → Entry → ChannelOutcome
told k q i s e =
    record {
      answer = rest_as (spent_rule q i (needed (suc k) e)) (passed_for (suc k) e).settled;
      state = after_passes (made (suc k) q i e) s;
      quota = charged_for (spends (suc k) q i e) q i;
    }

outcome : {a b : Passed} {s t : State} {p q : Quota} → a ≡ b → s ≡ t → p ≡ q
    → ◌≡◌ {A = ChannelOutcome} (record { answer = a; state = s; quota = p }) (record { answer = b; state = t; quota = q })
outcome x y z = rw (x, y, z)

-- 24 speaks where fewer are left than are needed
enough : (q : Quota) (i n : ℕ) (b : Bool) → n ≤ available q i → rest_if b ≡ rest_as (spent_rule q i n) b
enough q i n b l = rw (le-ltb (available q i) n l)

too_few : (q : Quota) (i n : ℕ) (b : Bool) → available q i < n → Err (refusal why.AllowanceSpent i) ≡ rest_as (spent_rule q i n) b
too_few q i n b l = rw (lt-ltb (available q i) n l)

-- a run makes at least one pass
some_pass : (k : ℕ) (e : Entry) → 1 ≤ passes_of_run (suc k) e
some_pass k e = pick e.settled (differs e.last (next_of e))
  where
    pick : (b d : Bool) → 1 ≤ cond b 1 (cond d (suc (passes_of_run k (joined e))) 1)
    pick true d = omega arith
    pick false true = omega arith
    pick false false = omega arith

module _ (k : ℕ) (q : Quota) (i : ℕ) (rule : channel_rule q i ≡ Ok tt) {s : State} {e : Entry} {n : ℕ} (r : Held s e n) where
  told_rests : e.settled ≡ true → ◌≡◌ {A = ChannelOutcome} (record { answer = (Ok Stable); state = s; quota = q }) (told k q i s e)
  told_rests u =
      let none : needed (suc k) e ≡ 0 = cond_true 0 (passes_of_run (suc k) e) u in
      let spent : spends (suc k) q i e ≡ 0 = ap (min (available q i)) none ∙ omega arith in
      let mark : (passed_for (suc k) e).settled ≡ true = ap (λ (x : Entry). x.settled) (settled_stays (suc k) e u) ∙ u in
      outcome
      (ap rest_if (sym mark) ∙ enough q i (needed (suc k) e) (passed_for (suc k) e).settled (omega arith))
      (rest_state q i rule r u ∙ ap (λ (j : ℕ). after_passes j s) (sym (cond_true 1 (spends (suc k) q i e) u)))
      (ap (λ (j : ℕ). charged_for j q i) (sym spent))

  module _ (u : e.settled ≡ false) where
    need : needed (suc k) e ≡ passes_of_run (suc k) e
    need = cond_false 0 (passes_of_run (suc k) e) u

    makes : made (suc k) q i e ≡ spends (suc k) q i e
    makes = cond_false 1 (spends (suc k) q i e) u

    told_spent : available q i ≡ 0 → unmade (refusal why.AllowanceSpent i) s q ≡ told k q i s e
    told_spent z =
        let none : spends (suc k) q i e ≡ 0 = ap (λ (a : ℕ). min a (needed (suc k) e)) z ∙ omega arith in
        outcome
        (too_few q i (needed (suc k) e) (passed_for (suc k) e).settled (omega (arith, need, some_pass k e)))
        (ap (λ (j : ℕ). after_passes j s) (sym (makes ∙ none)))
        (ap (λ (j : ℕ). charged_for j q i) (sym none))

    told_once : 0 < available q i → passes_of_run (suc k) e ≡ 1 → (passed_for (suc k) e).settled ≡ (passed e).settled
        → ◌≡◌ {A = ChannelOutcome} (record { answer = (pass_of s).answer; state = (pass_of s).state; quota = charged q i }) (told k q i s e)
    told_once l p mark =
        let one : spends (suc k) q i e ≡ 1 = ap (min (available q i)) (need ∙ p) ∙ omega arith in
        outcome
        (pass_answer r ∙ ap rest_if (sym mark) ∙ enough q i (needed (suc k) e) (passed_for (suc k) e).settled (omega (arith, need, p)))
        (ap (λ (j : ℕ). after_passes j s) (sym (makes ∙ one)))
        (ap (λ (j : ℕ). charged_for j q i) (sym one))

-- one test, with both numbers one more
pub ltb_suc : (m n : ℕ) → ltb m n ≡ ltb (suc m) (suc n)
ltb_suc m n = ⊎_elim (λ e. e ∙ sym (lt-ltb (suc m) (suc n) (omega (arith, ltb-true m n e)))) (λ e. e ∙ sym (le-ltb (suc m) (suc n) (omega (arith, ltb-false m n e)))) (either (ltb m n))

-- after a first pass that changes pixels the book says of the rest what it says of all
module _ (k : ℕ) (q : Quota) (i : ℕ) (s : State) (e : Entry) (u : e.settled ≡ false) (m : ℕ) (z : available q i ≡ suc m)
    (p : passes_of_run (suc (suc k)) e ≡ suc (passes_of_run (suc k) (passed e))) (v : (passed e).settled ≡ false) where
  rest : needed (suc k) (passed e) ≡ passes_of_run (suc k) (passed e)
  rest = cond_false 0 (passes_of_run (suc k) (passed e)) v

  all : needed (suc (suc k)) e ≡ suc (needed (suc k) (passed e))
  all = cond_false 0 (passes_of_run (suc (suc k)) e) u ∙ p ∙ ap suc (sym rest)

  left : available (charged q i) i ≡ m
  left = available_charged q i m z

  spends_goes : suc (spends (suc k) (charged q i) i (passed e)) ≡ spends (suc (suc k)) q i e
  spends_goes =
      ap (λ (a : ℕ). suc (min a (needed (suc k) (passed e)))) left
      ∙ min_suc m (needed (suc k) (passed e))
      ∙ sym (ap₂ min z all)
    where
      min_suc : (a b : ℕ) → suc (min a b) ≡ min (suc a) (suc b)
      min_suc a b = omega arith

  told_goes : told k (charged q i) i (pass_of s).state (passed e) ≡ told (suc k) q i s e
  told_goes =
      outcome
      (ap (λ (t : Bool). rest_as (refuse_if t why.AllowanceSpent i) (passed_for (suc k) (passed e)).settled)
      (ap (λ (a : ℕ). ltb a (needed (suc k) (passed e))) left ∙ ltb_suc m (needed (suc k) (passed e)) ∙ sym (ap₂ ltb z all)))
      (ap (λ (j : ℕ). after_passes j (pass_of s).state) (cond_false 1 (spends (suc k) (charged q i) i (passed e)) v)
      ∙ ap (λ (j : ℕ). after_passes j s) (spends_goes ∙ sym (cond_false 1 (spends (suc (suc k)) q i e) u)))
      (ap (λ (j : ℕ). charged_for j q i) spends_goes)

joined_unsettled : (e : Entry) → (joined e).settled ≡ false
unfolding joined
joined_unsettled e = refl

-- by induction: a first pass that changes pixels leaves the claim for the job after it
pub channel_told : (k : ℕ) (q : Quota) (i : ℕ) → channel_rule q i ≡ Ok tt → {s : State} {e : Entry} {n : ℕ} → Held s e n
    → channel_run_for k q i s ≡ told k q i s e
channel_told zero q i rule {s} {e} {n} r = run_once q i s ∙ by (metering q i rule r)
  where
    once : Begins s e → passes_of_run 1 e ≡ 1
    once (stops a v p) = p 0
    once (goes a v p) = p 0

    by : Metering q i s e → channel_pass_of q i s ≡ told 0 q i s e
    by (rests u a) = a ∙ told_rests 0 q i rule r u
    by (spent_out_lem u z a) = a ∙ told_spent 0 q i rule r u z
    by (pays u l a) = a ∙ told_once 0 q i rule r u l (once (begins r)) refl
channel_told (suc k) q i rule {s} {e} {n} r =
    by (metering q i rule r) (begins r) (channel_told k (charged q i) i (rule_charged q i i ∙ rule) (pass_held r))
  where
    by : Metering q i s e → Begins s e → channel_run_for k (charged q i) i (pass_of s).state ≡ told k (charged q i) i (pass_of s).state (passed e)
        → channel_run_for (suc k) q i s ≡ told (suc k) q i s e
    by (rests u a) b below = run_ended q i s (suc k) a (λ x. let y : ◌≡◌ {A = ℕ} 0 1 = cc in omega arith) ∙ told_rests (suc k) q i rule r u
    by (spent_out_lem u z a) b below = run_ended q i s (suc k) a (λ x. let y : ◌≡◌ {A = ℕ} 0 1 = cc in omega arith) ∙ told_spent (suc k) q i rule r u z
    by (pays u l a) (stops b v p) below =
        run_ended q i s (suc k) a (λ x. let y : (Ok Stable) ≡ (Ok Changed) = sym b ∙ x in let w : ◌≡◌ {A = ℕ} 0 1 = cc in omega arith)
        ∙ told_once (suc k) q i rule r u l (p (suc k)) (ap (λ (x : Entry). x.settled) (settled_stays (suc k) (passed e) v))
    by (pays u l a) (goes b v p) below =
        run_next q i s k (continues_on q i s rule b l)
        ∙ below
        ∙ told_goes k q i s e u (available q i - 1) (omega arith) (p (suc k)) (ap (λ (x : Entry). x.settled) v ∙ joined_unsettled e)

module _ (q : Quota) (i : ℕ) (rule : channel_rule q i ≡ Ok tt) {s : State} {e : Entry} {n : ℕ} (r : Held s e n) where
  pub pass_told : channel_pass_of q i s ≡ told 0 q i s e
  pass_told = sym (run_once q i s) ∙ channel_told 0 q i rule r

  pub run_told : channel_run_of q i s ≡ told (e.width * e.height) q i s e
  unfolding channel_run_of
  run_told = ap (λ (j : Job). channel_run_for (pixels j) q i s) r.job ∙ channel_told (e.width * e.height) q i rule r

-- passes called singly
pub plays_passes : (j : ℕ) (s : State) (e : Entry) (n : ℕ) → play (replicate j pass) (course s e n) ≡ course (after_passes j s) (passed_for j e) (n + j)
plays_passes zero s e n = ap (course s e) (omega arith)
plays_passes (suc j) s e n = ap (play (replicate j pass)) (step_pass s e n) ∙ plays_passes j (pass_of s).state (passed e) (n + 1) ∙ ap (course _ _) (omega arith)

-- a channel's pass is accepted and makes one, or is refused by 24 and makes none
data OnePass (q : Quota) (i : ℕ) (e : Entry) : Type 0 where
  one : spent_rule q i (needed 1 e) ≡ Ok tt → made 1 q i e ≡ 1 → OnePass q i e
  none : spent_rule q i (needed 1 e) ≡ Err (refusal why.AllowanceSpent i) → made 1 q i e ≡ 0 → OnePass q i e

-- without the mark a pass needs one
one_needed : (e : Entry) → e.settled ≡ false → needed 1 e ≡ 1
one_needed e u = pick e.settled (differs e.last (next_of e)) u
  where
    pick : (b d : Bool) → b ≡ false → ◌≡◌ {A = ℕ} (cond b 0 (cond b 1 (cond d 1 1))) 1
    pick true d v = clash refl v
    pick false true v = refl
    pick false false v = refl

one_pass : (q : Quota) (i : ℕ) (e : Entry) → OnePass q i e
one_pass q i e = ⊎_elim settled unsettled (either e.settled)
  where
    settled : e.settled ≡ true → OnePass q i e
    settled u = one (rw (u, le-ltb (available q i) 0 (omega arith))) (rw u)

    by_need : e.settled ≡ false → (v : Verdict) → refuse_if (ltb (available q i) 1) why.AllowanceSpent i ≡ v → spent_rule q i (needed 1 e) ≡ v
    by_need u v p = ap (λ (k : ℕ). refuse_if (ltb (available q i) k) why.AllowanceSpent i) (one_needed e u) ∙ p

    makes : e.settled ≡ false → (k : ℕ) → min (available q i) 1 ≡ k → made 1 q i e ≡ k
    makes u k p = cond_false 1 (spends 1 q i e) u ∙ ap (min (available q i)) (one_needed e u) ∙ p

    unsettled : e.settled ≡ false → OnePass q i e
    unsettled u =
        ⊎_elim
        (λ t. let l = ltb-true (available q i) 1 t in none (by_need u (Err (refusal why.AllowanceSpent i)) (rw t)) (makes u 0 (omega arith)))
        (λ t. let l = ltb-false (available q i) 1 t in one (by_need u (Ok tt) (rw t)) (makes u 1 (omega arith)))
        (either (ltb (available q i) 1))

module _ (q : Quota) (i : ℕ) (rule : channel_rule q i ≡ Ok tt) (s : State) (e : Entry) (n : ℕ) where
  step_channel_pass : step (channel_pass q i) (course s e n) ≡ course (channel_pass_of q i s).state (passed_for (made 1 q i e) e) (n + made 1 q i e)
  unfolding step state_of after barred_by refused_by accepted tallied
  step_channel_pass = by (one_pass q i e)
    where
      by : OnePass q i e → step (channel_pass q i) (course s e n) ≡ course (channel_pass_of q i s).state (passed_for (made 1 q i e) e) (n + made 1 q i e)
      by (one a m) = rw (rule, a, m)
      by (none a m) = rw (rule, a, m) (ap (course _ e) (omega arith))

  step_channel_run : step (channel_run q i) (course s e n)
      ≡ course (channel_run_of q i s).state (passed_for (made (e.width * e.height + 1) q i e) e) (n + made (e.width * e.height + 1) q i e)
  unfolding step state_of after barred_by accepted tallied
  step_channel_run =
      ap (λ (v : Verdict). record { state = (channel_run_of q i s).state; history = after_as v (channel_run q i) (holds e); tally = tally_as v (channel_run q i) (holds e) n }) rule

pub channel_as_passes : (q : Quota) (i : ℕ) → channel_rule q i ≡ Ok tt → {s : State} {e : Entry} {n : ℕ} → Held s e n
    → ChannelAsPasses (course s e n) e q i
channel_as_passes q i rule {s} {e} {n} r = record {
  pass_singly =
      step_channel_pass q i rule s e n
      ∙ ap (λ (o : ChannelOutcome). course o.state (passed_for one e) (n + one)) (pass_told q i rule r)
      ∙ sym (plays_passes one s e n);
  pass_quota = ap (λ (o : ChannelOutcome). o.quota) (pass_told q i rule r);
  run_singly =
      step_channel_run q i rule s e n
      ∙ ap (λ (o : ChannelOutcome). course o.state (passed_for all e) (n + all)) (run_told q i rule r)
      ∙ ap (λ (k : ℕ). course (after_passes (made k q i e) s) (passed_for all e) (n + all)) more
      ∙ sym (plays_passes all s e n);
  run_quota = ap (λ (o : ChannelOutcome). o.quota) (run_told q i rule r) ∙ ap (λ (k : ℕ). charged_for (spends k q i e) q i) more;
}
  where
    one : ℕ
    one = made 1 q i e

    all : ℕ
    all = made (e.width * e.height + 1) q i e

    more : suc (e.width * e.height) ≡ e.width * e.height + 1
    more = sym (add-one (e.width * e.height))

-- on an empty job a channel's calls are refused by 25 or 16
abbrev empty_rule : Quota → ℕ → Verdict
empty_rule q i = judge (channel_rule q i ∷ Err (refusal why.NothingLoaded 0) ∷ [])

module _ (q : Quota) (i : ℕ) (s : State) (x : s.job ≡ empty_job) where
  pub empty_unmade : (r : Refusal) × (empty_rule q i ≡ Err r) × (channel_pass_of q i s ≡ unmade r s q)
  empty_unmade = by (channel_rule q i) refl
    where
      by : (v : Verdict) → channel_rule q i ≡ v → (r : Refusal) × (empty_rule q i ≡ Err r) × (channel_pass_of q i s ≡ unmade r s q)
      by (Ok _) e = (refusal why.NothingLoaded 0, rw e, channel_unready q i s e (ready_empty s x))
      by (Err r) e = (r, rw e, channel_barred q i s e)
