-- A channel's pass and run (02, T-10), by passes at stage 1: what they take of the quota is charged at once.
--     channel_run_refused                           a run that 25, 14 or 16 refuses
--     channel_stable, channel_run_stable            a pass and a run at stage 2
--     Rises n s o, made_rises                       the passes that several take; taken: of what a function handed back
--     free_rule, free_ready                         what holds where 25, 14 and 16 let a call pass
--     channel_metered, run_metered                  a channel's pass and run at stage 1
--     metered_made                                  the same of what a function handed back
--     pass_at_most, run_at_most                     a channel's pass and run, by how many passes they make at most
-- Assumes nothing.
use Rattle.std.specs.Prelude.{Ok, Err}
use mathlib.Core.Bool.{Bool, true, false}
use mathlib.Core.List.{List}
use mathlib.Core.Logic.{⊎_elim}
use mathlib.Core.Path.{◌≡◌, refl, sym, ap, ap₂, ◌∙◌}
use Prim.Native.Nat.{ℕ, zero, suc, ◌+◌, ◌-◌, ◌≤◌, ◌<◌, min}
use native.Mathlib.Numerals.{add-one}
use native.Mathlib.Omega.{arith}
use borrow.Author.Tests.{lt-ltb, le-ltb, eqb-true, eqb-false}
use lib.Dec.{eqb, ltb}
use Rattle.history.specs.declared.Job.{Job}
use Rattle.history.specs.declared.Quota.{Quota}
use Rattle.history.specs.Channel.{paid, channel_pass_of, channel_run_for, channel_run_of}
use Rattle.history.specs.Pass.{Outcome, changed_job, stable_job, pass_loaded, pass_of}
use Rattle.history.specs.Quota.{channel_rule, available, charged, charged_for}
use Rattle.history.specs.Sound.{Ready}
use Rattle.history.specs.State.{State, pixels, ready_verdict}
use Rattle.history.proofs.Areas.{next_job}
use Rattle.history.proofs.Channel.{ltb_suc}
use Rattle.history.proofs.ChannelPasses.{unmade, none_left, some_left, at_rest, channel_refused, continues_on}
use Rattle.history.proofs.ChannelRuns.{run_next, run_ended, run_unmade}
use Rattle.history.proofs.Passes.{pass_loaded_lem, Way, way, refused, resting, quiet, changes, stopped, changed}
use Rattle.history.proofs.Quotas.{rule_charged, available_charged}
use Rattle.history.proofs.Ready.{accepted_ready, ready_accepted, ready_small}
use Rattle.history.proofs.Runs.{either_changed}
use Rattle.image.specs.Strip.{max_strip}
use Rattle.job.specs.Code.Channels.{quietly, stopped_at, spent_from, settled, metering, metering_as, metering_at_most, MadeBy}
use Rattle.job.specs.Code.Passes.{made, Made}
use Rattle.job.proofs.Runs.{made_goes, made_ends, made_one}
use Rattle.seq.proofs.Tests.{lt_or_le}
use Rattle.verdict.proofs.Rules.{or_else_left, or_else_right}
use Rattle.verdict.specs.Rules.{Verdict, or_else, Refusal}
use Rattle.history.specs.Answers.{Passed}
use Rattle.history.specs.declared.Effect.TheVariants.{Changed, Stable}

-- a run that 25, 14 or 16 refuses, and one at rest
module _ (q : Quota) (i : ℕ) (s : State) where
  channel_run_refused : {r : Refusal} → or_else (channel_rule q i) (ready_verdict s) ≡ Err r → channel_run_of q i s ≡ unmade r s q
  channel_run_refused e = run_unmade q i s (channel_refused q i s e)

  channel_stable : or_else (channel_rule q i) (ready_verdict s) ≡ Ok tt → s.job.stage ≡ 2
      → channel_pass_of q i s ≡ record { answer = (Ok Stable); state = s; quota = q }
  channel_stable e z = at_rest q i s (or_else_left (channel_rule q i) (ready_verdict s) e) (or_else_right (channel_rule q i) (ready_verdict s) e) z

  channel_run_stable : or_else (channel_rule q i) (ready_verdict s) ≡ Ok tt → s.job.stage ≡ 2
      → channel_run_of q i s ≡ record { answer = (Ok Stable); state = s; quota = q }
  unfolding channel_run_of
  channel_run_stable e z = run_ended q i s (pixels s.job) (channel_stable e z) (λ y. let x : ◌≡◌ {A = ℕ} 0 1 = cc in omega arith)

-- the passes of an answer that the record counts
abbrev counted : Passed → ℕ
counted (Ok Changed) = 1
counted (Ok Stable) = 0
counted (Err r) = 0

at_most_one : (a : Passed) → counted a + quietly a ≤ 1
at_most_one (Ok Changed) = omega arith
at_most_one (Ok Stable) = omega arith
at_most_one (Err r) = omega arith

paid_for : (a : Passed) (q : Quota) (i : ℕ) → paid a 1 q i ≡ charged_for (counted a + quietly a) q i
paid_for (Ok Changed) q i = refl
paid_for (Ok Stable) q i = refl
paid_for (Err r) q i = refl

stopped_not : (b : Bool) (i : ℕ) (a : Passed) → (a ≡ Ok Changed → ⊥) → stopped_at b i a ≡ a
stopped_not b i (Ok Changed) h = absurd (h refl)
stopped_not b i (Ok Stable) h = refl
stopped_not b i (Err r) h = refl

stopped_none : (i : ℕ) (a : Passed) → stopped_at false i a ≡ a
stopped_none i (Ok Changed) = refl
stopped_none i (Ok Stable) = refl
stopped_none i (Err r) = refl

pass_counts : (s : State) → (pass_of s).state.job.passes ≡ s.job.passes + counted (pass_of s).answer
unfolding changed_job stable_job
pass_counts s = by (way s)
  where
    by : Way s → (pass_of s).state.job.passes ≡ s.job.passes + counted (pass_of s).answer
    by (refused r x p) = rw p (omega arith)
    by (resting r z p) = rw p (omega arith)
    by (stopped r z d x p) = rw p (omega arith)
    by (quiet r z d p) = rw p (let e = ap (λ (j : Job). j.passes) (next_job (stable_job s) s) in omega (arith, e))
    by (changes r z d x p) = rw p (ap (λ (j : Job). j.passes) (next_job (changed_job s) s))

-- a pass on a record that is ready and not at rest
module _ (s : State) (r : Ready s) (h : s.job.stage ≡ 2 → ⊥) where
  staged : s.job.stage ≡ 1
  staged = omega (arith, h, r.begun, r.staged)

  here : pass_of s ≡ pass_loaded s
  here = pass_loaded_lem s (ready_accepted r) h

  loaded_counts : (pass_loaded s).state.job.passes ≡ s.job.passes + counted (pass_loaded s).answer
  loaded_counts = rw here at (pass_counts s)

  loaded_ready : (pass_loaded s).answer ≡ Ok Changed → Ready (pass_loaded s).state
  loaded_ready e = rw here at (changed s (ap (λ (o : Outcome). o.answer) here ∙ e)).ready

  loaded_stage : (pass_loaded s).answer ≡ Ok Changed → (pass_loaded s).state.job.stage ≡ 2 → ⊥
  loaded_stage e z =
      let one : (pass_loaded s).state.job.stage ≡ 1 = rw here at (changed s (ap (λ (o : Outcome). o.answer) here ∙ e)).loaded in
      omega (arith, one)

-- the passes that several take: no more than they may
pub record Rises (n : ℕ) (s : State) (o : Outcome) : Type 0 where
  pub least : s.job.passes ≤ o.state.job.passes
  pub most : o.state.job.passes + quietly o.answer ≤ s.job.passes + n

made_rises : (n : ℕ) (s : State) → Ready s → (s.job.stage ≡ 2 → ⊥) → Rises n s (made n s)
unfolding made
made_rises zero s r h = record { least = omega arith; most = omega arith }
made_rises (suc n) s r h =
    ⊎_elim (λ e. goes e (made_rises n (pass_loaded s).state (loaded_ready s r h e) (loaded_stage s r h e))) ends (either_changed (pass_loaded s).answer)
  where
    goes : (pass_loaded s).answer ≡ Ok Changed → Rises n (pass_loaded s).state (made n (pass_loaded s).state) → Rises (suc n) s (made (suc n) s)
    goes e below =
        let more : (pass_loaded s).state.job.passes ≡ s.job.passes + 1 = rw e at (loaded_counts s r h) in
        rw (made_goes n s e) (record { least = omega (arith, below.least, more); most = omega (arith, below.most, more) })

    ends : ((pass_loaded s).answer ≡ Ok Changed → ⊥) → Rises (suc n) s (made (suc n) s)
    ends k =
        let counts = loaded_counts s r h in
        rw (made_ends n s k) (record {
          least = omega (arith, counts);
          most = omega (arith, counts, at_most_one (pass_loaded s).answer);
        })

-- the same of what a function handed back
pub taken : (n : ℕ) (s : State) {a : Passed} {j : Job} → Ready s → (s.job.stage ≡ 2 → ⊥) → a ≡ (made n s).answer → j ≡ (made n s).state.job
    → (s.job.passes ≤ j.passes) × (j.passes + quietly a ≤ s.job.passes + n)
taken n s r h e f = let rises = made_rises n s r h in rw (e, f) (rises.least, rises.most)

-- the same outcome, by its answer and by what was taken
settled_by : (b : Bool) (q : Quota) (i p : ℕ) (o : Outcome) {a : Passed} {n : ℕ} → stopped_at b i o.answer ≡ a → spent_from p o ≡ n
    → settled b q i p o ≡ record { answer = a; state = o.state; quota = charged_for n q i }
settled_by b q i p o e f = ap₂ (λ (x : Passed) (m : ℕ). record { answer = x; state = o.state; quota = charged_for m q i }) e f

-- at stage 1, where 25 lets the call pass
module _ (q : Quota) (i : ℕ) (s : State) (rule : channel_rule q i ≡ Ok tt) (r : Ready s) (h : s.job.stage ≡ 2 → ⊥) where
  -- nothing is left
  for_none : (k : ℕ) → available q i ≡ 0 → channel_run_for k q i s ≡ metering (suc k) q i s
  unfolding metering made
  for_none k a =
      let none : min (available q i) (suc k) ≡ 0 = omega (arith, a) in
      let zero_spent : s.job.passes - s.job.passes + 0 ≡ 0 = omega arith in
      run_ended q i s k (none_left q i s rule (ready_accepted r) (staged s r h) a) (λ y. let x : ◌≡◌ {A = ℕ} 0 1 = cc in omega arith)
      ∙ rw (none, lt-ltb 0 (suc k) (omega arith))
      (sym (settled_by true q i s.job.passes (record { answer = (Ok Changed); state = s }) refl zero_spent))

  module _ (a : 0 < available q i) where
    paid_pass : channel_pass_of q i s ≡ record { answer = (pass_loaded s).answer; state = (pass_loaded s).state; quota = paid (pass_loaded s).answer 1 q i }
    paid_pass =
        some_left q i s rule (ready_accepted r) (staged s r h) a
        ∙ ap (λ (o : Outcome). record { answer = o.answer; state = o.state; quota = paid o.answer 1 q i }) (here s r h)

    -- a pass that is the last one
    for_one : (b : Bool) → stopped_at b i (pass_loaded s).answer ≡ (pass_loaded s).answer
        → channel_pass_of q i s ≡ settled b q i s.job.passes (pass_loaded s)
    for_one b e =
        let counts = loaded_counts s r h in
        let spent : spent_from s.job.passes (pass_loaded s) ≡ counted (pass_loaded s).answer + quietly (pass_loaded s).answer = omega (arith, counts) in
        paid_pass
        ∙ ap (λ (p : Quota). record { answer = (pass_loaded s).answer; state = (pass_loaded s).state; quota = p }) (paid_for (pass_loaded s).answer q i)
        ∙ sym (settled_by b q i s.job.passes (pass_loaded s) e spent)

    for_ends : (k : ℕ) → ((pass_loaded s).answer ≡ Ok Changed → ⊥) → channel_run_for k q i s ≡ metering (suc k) q i s
    unfolding metering
    for_ends k n =
        let c = min (available q i) (suc k) - 1 in
        let some : min (available q i) (suc k) ≡ suc c = omega (arith, a) in
        run_ended q i s k paid_pass n
        ∙ sym paid_pass
        ∙ rw (some, made_ends c s n) (for_one (ltb (suc c) (suc k)) (stopped_not (ltb (suc c) (suc k)) i (pass_loaded s).answer n))

    for_pass : channel_pass_of q i s ≡ metering 1 q i s
    unfolding metering
    for_pass =
        let one : min (available q i) 1 ≡ 1 = omega (arith, a) in
        rw (one, made_one s, le-ltb 1 1 (omega arith)) (for_one false (stopped_none i (pass_loaded s).answer))

    -- the passes after the first, on a quota that is charged by one
    for_goes : (k : ℕ) → (pass_loaded s).answer ≡ Ok Changed
        → channel_run_for k (charged q i) i (pass_loaded s).state ≡ metering (suc k) (charged q i) i (pass_loaded s).state
        → channel_run_for (suc k) q i s ≡ metering (suc (suc k)) q i s
    unfolding metering
    for_goes k e below =
        run_next q i s k (continues_on q i s rule (ap (λ (o : Outcome). o.answer) (here s r h) ∙ e) a)
        ∙ ap (λ (o : Outcome). channel_run_for k (charged q i) i o.state) (here s r h)
        ∙ below
        ∙ same
      where
        c : ℕ
        c = min (available q i - 1) (suc k)

        one_less : available (charged q i) i ≡ available q i - 1
        one_less = available_charged q i (available q i - 1) (omega (arith, a))

        after : Outcome
        after = made c (pass_loaded s).state

        more : (pass_loaded s).state.job.passes ≡ s.job.passes + 1
        more = rw e at (loaded_counts s r h)

        spent : spent_from s.job.passes after ≡ suc (spent_from (pass_loaded s).state.job.passes after)
        spent = let rises = made_rises c (pass_loaded s).state (loaded_ready s r h e) (loaded_stage s r h e) in omega (arith, more, rises.least)

        all : min (available q i) (suc (suc k)) ≡ suc c
        all = omega (arith, a)

        short : ltb (suc c) (suc (suc k)) ≡ ltb c (suc k)
        short = sym (ltb_suc c (suc k))

        same : metering (suc k) (charged q i) i (pass_loaded s).state ≡ metering (suc (suc k)) q i s
        same =
            rw (one_less, all, short, made_goes c s e)
            (sym (settled_by (ltb c (suc k)) q i s.job.passes after refl spent))

-- by the first pass: nothing left, no change, or the passes after it
for_metered : (k : ℕ) (q : Quota) (i : ℕ) (s : State) → channel_rule q i ≡ Ok tt → Ready s → (s.job.stage ≡ 2 → ⊥)
    → channel_run_for k q i s ≡ metering (suc k) q i s
unfolding channel_run_for
for_metered zero q i s rule r h = ⊎_elim (for_pass q i s rule r h) (λ l. for_none q i s rule r h 0 (omega arith)) (lt_or_le 0 (available q i))
for_metered (suc k) q i s rule r h =
    let goes : 0 < available q i → (pass_loaded s).answer ≡ Ok Changed → channel_run_for (suc k) q i s ≡ metering (suc (suc k)) q i s =
    λ a e. for_goes q i s rule r h a k e
    (for_metered k (charged q i) i (pass_loaded s).state (rule_charged q i i ∙ rule) (loaded_ready s r h e) (loaded_stage s r h e)) in
    ⊎_elim
    (λ a. ⊎_elim (goes a) (for_ends q i s rule r h a (suc k)) (either_changed (pass_loaded s).answer))
    (λ l. for_none q i s rule r h (suc k) (omega arith))
    (lt_or_le 0 (available q i))

-- where 25, 14 and 16 let a call pass
module _ (q : Quota) (i : ℕ) (s : State) (e : or_else (channel_rule q i) (ready_verdict s) ≡ Ok tt) where
  pub free_rule : channel_rule q i ≡ Ok tt
  free_rule = or_else_left (channel_rule q i) (ready_verdict s) e

  pub free_ready : Ready s
  free_ready = accepted_ready s (or_else_right (channel_rule q i) (ready_verdict s) e)

  channel_metered : (s.job.stage ≡ 2 → ⊥) → channel_pass_of q i s ≡ metering 1 q i s
  unfolding channel_run_for
  channel_metered h = for_metered 0 q i s free_rule free_ready h

  run_metered : (s.job.stage ≡ 2 → ⊥) → channel_run_of q i s ≡ metering (pixels s.job + 1) q i s
  unfolding channel_run_of
  run_metered h = rw add-one (for_metered (pixels s.job) q i s free_rule free_ready h)

-- what the code hands back: m passes are allowed, k is the quiet one, and a and p are the answer and the quota afterwards
pub metered_made : (q : Quota) (i n : ℕ) (s : State) (x : Passed) (j : Job) {m k : ℕ} {a : Passed} {p : Quota} {l l' : List ℕ}
    → m ≡ min (available q i) n → Made (made m s) x j l l'
    → a ≡ stopped_at (ltb m n) i x → k ≡ quietly x → p ≡ charged_for (j.passes - s.job.passes + k) q i
    → MadeBy (metering n q i s) (record { answer = a; quota = p }) j l l'
unfolding metering
metered_made q i n s x j e d f g h = rw (sym e, f, h, g, d.0, d.1, d.2, d.3) (refl, refl, refl, refl)

-- a channel's pass and run, by how many passes they make at most
module _ (q : Quota) (i : ℕ) (s : State) where
  pub pass_at_most : metering_at_most 1 q i s ≡ channel_pass_of q i s
  pass_at_most = by (or_else (channel_rule q i) (ready_verdict s)) refl
    where
      staged : or_else (channel_rule q i) (ready_verdict s) ≡ Ok tt → (b : Bool) → eqb s.job.stage 2 ≡ b → metering_as (Ok tt) 1 q i s ≡ channel_pass_of q i s
      staged e true z = rw z (sym (channel_stable q i s e (eqb-true s.job.stage 2 z)))
      staged e false z = rw z (sym (channel_metered q i s e (eqb-false s.job.stage 2 z)))

      by : (v : Verdict) → or_else (channel_rule q i) (ready_verdict s) ≡ v → metering_at_most 1 q i s ≡ channel_pass_of q i s
      by (Ok tt) e = rw e (staged e (eqb s.job.stage 2) refl)
      by (Err r) e = rw e (sym (channel_refused q i s e))

  pub run_at_most : (n : ℕ) → (pixels s.job ≤ max_strip → n ≡ pixels s.job + 1) → metering_at_most n q i s ≡ channel_run_of q i s
  run_at_most n k = by (or_else (channel_rule q i) (ready_verdict s)) refl
    where
      staged : or_else (channel_rule q i) (ready_verdict s) ≡ Ok tt → (b : Bool) → eqb s.job.stage 2 ≡ b → metering_as (Ok tt) n q i s ≡ channel_run_of q i s
      staged e true z = rw z (sym (channel_run_stable q i s e (eqb-true s.job.stage 2 z)))
      staged e false z = rw (z, k (ready_small (free_ready q i s e))) (sym (run_metered q i s e (eqb-false s.job.stage 2 z)))

      by : (v : Verdict) → or_else (channel_rule q i) (ready_verdict s) ≡ v → metering_at_most n q i s ≡ channel_run_of q i s
      by (Ok tt) e = rw e (staged e (eqb s.job.stage 2) refl)
      by (Err r) e = rw e (sym (channel_run_refused q i s e))
