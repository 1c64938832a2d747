-- Each call answers what the history says.
--     pass_empty, run_empty              a pass and a run on an empty job
--     answered_empty, answered_held      each call on an empty job, and on one that holds an entry
--     answered                           for any related job
--     refused_by_lem, refused                so it is refused as the history says
--     barred_refused, unaltered          and a call that is refused with nothing done alters nothing
--     quota_back                         a quota that is handed back as it was
-- Assumes nothing.
use Rattle.std.specs.Prelude.{Ok, Err}
use mathlib.Core.Bool.{Bool, true, false}
use mathlib.Core.List.{[], ◌∷◌}
use mathlib.Core.Logic.{◌⊎◌, inl, inr, ◌≢◌}
use mathlib.Core.Path.{◌≡◌, refl, sym, ap, ◌∙◌, subst}
use Prim.Native.Nat.{ℕ, ◌+◌, ◌*◌}
use native.Mathlib.Numerals.{add-one}
use Rattle.history.specs.declared.Quota.{Quota}
use Rattle.history.specs.Answered.{rest_if, rest_as, figures_by, answered_by}
use Rattle.history.specs.Call.{Call, load, pass, run, view, figures, collect, channel_pass, channel_run, loaded, passed, answer_of, state_of, refusal_of}
use Rattle.history.specs.Channel.{ChannelOutcome, spent_rule, channel_pass_of, channel_run_of}
use Rattle.history.specs.Collect.{collect_written, collect_output}
use Rattle.history.specs.Demand3.{QuotaBack}
use Rattle.history.specs.History as book
use Rattle.history.specs.History.{Entry, History, empty, holds, Lengths, passed_for, needed, files_of, refused_by, barred_by}
use Rattle.history.specs.Lists.{lengths_of}
use Rattle.history.specs.Pass.{Outcome, pass_of}
use Rattle.history.specs.Quota.{channel_rule}
use Rattle.history.specs.Run.{run_of}
use Rattle.history.specs.State.{State, empty_job}
use Rattle.history.specs.View.{view_of, figures_of}
use Rattle.verdict.specs.declared.Rule.TheVariants as why
use Rattle.history.proofs.Channel.{pass_told, run_told, empty_unmade}
use Rattle.history.proofs.ChannelPasses.{unmade, channel_barred}
use Rattle.history.proofs.ChannelRuns.{run_unmade}
use Rattle.history.proofs.Collect.{collect_empty, collected_held, collect_held}
use Rattle.history.proofs.Load.{load_empty, load_held}
use Rattle.history.proofs.Passes.{pass_refused}
use Rattle.history.proofs.Refusals as refusals
use Rattle.history.proofs.Refusals.{written_refusal}
use Rattle.history.proofs.Related.{Held, RelatedTo}
use Rattle.history.proofs.Run.{pass_answer, run_answer, ran_settled}
use Rattle.history.proofs.Runs.{run_refused}
use Rattle.history.proofs.Sound.{ready_empty, ready_held}
use Rattle.verdict.specs.Rules.{refusal, judge, Verdict, Refusal}
use Rattle.verdict.proofs.Rules.{refused_accepted, or_else_accepted}

-- a pass on an empty job, and so a run, is refused by 16 and alters nothing
pub pass_empty : (s : State) → s.job ≡ empty_job → pass_of s ≡ record { answer = Err (refusal why.NothingLoaded 0); state = s }
pass_empty s q = pass_refused s (ready_empty s q)

pub run_empty : (s : State) → s.job ≡ empty_job → run_of s ≡ record { answer = Err (refusal why.NothingLoaded 0); state = s }
run_empty s q = run_refused s (ready_empty s q)

answered_empty : (c : Call) (s : State) → s.job ≡ empty_job → answer_of c s ≡ answered_by c (lengths_of s) empty
unfolding answer_of answered_by view_of figures_of collect_written collect_output refused_by
answered_empty (load t x) s q = ap loaded (load_empty t x s q)
answered_empty pass s q = rw (pass_empty s q)
answered_empty run s q = rw (run_empty s q)
answered_empty view s q = rw (ready_empty s q)
answered_empty figures s q = rw (ready_empty s q)
answered_empty (collect out) s q = rw (collect_empty out s q)
answered_empty (channel_pass c i) s q = let (x, e, p) = empty_unmade c i s q in rw (e, p)
answered_empty (channel_run c i) s q = let (x, e, p) = empty_unmade c i s q in rw (e, run_unmade c i s p)

module _ {s : State} {e : Entry} {n : ℕ} (r : Held s e n) where
  -- 25, then 24
  abbrev PassAnswered : Quota → ℕ → Verdict → Type 0
  PassAnswered c i v = (channel_pass_of c i s).answer ≡ rest_as (judge (v ∷ spent_rule c i (needed 1 e) ∷ [])) (book.passed e).settled

  abbrev RunAnswered : Quota → ℕ → Verdict → Type 0
  RunAnswered c i v = (channel_run_of c i s).answer ≡ rest_as (judge (v ∷ spent_rule c i (needed (e.width * e.height + 1) e) ∷ [])) (book.ran e).settled

  channel_answered : (c : Quota) (i : ℕ) (v : Verdict) → channel_rule c i ≡ v → PassAnswered c i v × RunAnswered c i v
  unfolding book.ran
  channel_answered c i (Err x) k =
      let p = channel_barred c i s k in
      (ap (λ (o : ChannelOutcome). o.answer) p, ap (λ (o : ChannelOutcome). o.answer) (run_unmade c i s p))
  channel_answered c i (Ok _) k = (
    ap (λ (o : ChannelOutcome). o.answer) (pass_told c i k r)
        ∙ ap (λ (v : Verdict). rest_as v (book.passed e).settled) (sym (or_else_accepted (spent_rule c i (needed 1 e)))),
    ap (λ (o : ChannelOutcome). o.answer) (run_told c i k r)
        ∙ ap (λ (m : ℕ). rest_as (spent_rule c i (needed m e)) (passed_for m e).settled) (sym (add-one (e.width * e.height)))
        ∙ ap (λ (v : Verdict). rest_as v (passed_for (e.width * e.height + 1) e).settled) (sym (or_else_accepted (spent_rule c i (needed (e.width * e.height + 1) e)))),
  )

  answered_held : (c : Call) → answer_of c s ≡ answered_by c (lengths_of s) (holds e)
  unfolding answer_of answered_by view_of figures_of figures_by collect_written collect_output refused_by
  answered_held (load t x) = ap loaded (load_held t x r)
  answered_held pass = ap passed (pass_answer r)
  answered_held run = ap passed (run_answer r ∙ sym (ap rest_if (ran_settled r)))
  answered_held view = simp (ready_held r, r.shown)
  answered_held figures = simp (ready_held r, r.shown, r.job)
  answered_held (collect out) = rw (collect_held r out, collected_held r)
  answered_held (channel_pass c i) = ap passed (channel_answered c i (channel_rule c i) refl).0
  answered_held (channel_run c i) = ap passed (channel_answered c i (channel_rule c i) refl).1

pub answered : (c : Call) (s : State) (H : History) (n : ℕ) → RelatedTo s H n → answer_of c s ≡ answered_by c (lengths_of s) H
answered c s empty n q = answered_empty c s q
answered c s (holds e) n r = answered_held r c

-- the answer holds the refusal that the history gives
no_refusal : (b : Bool) → refusal_of (passed (rest_if b)) ≡ Ok tt
no_refusal true = refl
no_refusal false = refl

rest_refusal : (v : Verdict) (b : Bool) → refusal_of (passed (rest_as v b)) ≡ v
rest_refusal (Ok _) b = no_refusal b
rest_refusal (Err x) b = refl

refused_by_lem : (c : Call) (n : Lengths) (H : History) → refusal_of (answered_by c n H) ≡ refused_by c n H
unfolding answered_by refused_by figures_by
refused_by_lem (load t x) n H = refl
refused_by_lem pass n empty = refl
refused_by_lem pass n (holds e) = no_refusal (book.passed e).settled
refused_by_lem run n empty = refl
refused_by_lem run n (holds e) = no_refusal (book.ran e).settled
refused_by_lem view n empty = refl
refused_by_lem view n (holds e) = refl
refused_by_lem figures n empty = refl
refused_by_lem figures n (holds e) = refl
refused_by_lem (collect out) n empty = refl
refused_by_lem (collect out) n (holds e) = written_refusal (refused_by (collect out) n (holds e)) (files_of e)
refused_by_lem (channel_pass c i) n empty = rest_refusal (refused_by (channel_pass c i) n empty) false
refused_by_lem (channel_pass c i) n (holds e) = rest_refusal (refused_by (channel_pass c i) n (holds e)) (book.passed e).settled
refused_by_lem (channel_run c i) n empty = rest_refusal (refused_by (channel_run c i) n empty) false
refused_by_lem (channel_run c i) n (holds e) = rest_refusal (refused_by (channel_run c i) n (holds e)) (book.ran e).settled

pub refused : (c : Call) (s : State) (H : History) (n : ℕ) → RelatedTo s H n → refusal_of (answer_of c s) ≡ refused_by c (lengths_of s) H
refused c s H n r = ap refusal_of (answered c s H n r) ∙ refused_by_lem c (lengths_of s) H

-- a call that is refused with nothing done is refused
barred_refused : (c : Call) (n : Lengths) (H : History) (r : Refusal) → barred_by c n H ≡ Err r → refused_by c n H ≡ Err r
unfolding barred_by refused_by
barred_refused (load t x) n H r b = b
barred_refused pass n H r b = b
barred_refused run n H r b = b
barred_refused view n H r b = b
barred_refused figures n H r b = b
barred_refused (collect out) n H r b = b
barred_refused (channel_pass c i) n H r b = b
barred_refused (channel_run c i) n empty r b = b
barred_refused (channel_run c i) n (holds e) r b = rw b

-- a run on a job that holds an entry is not refused, and on an empty job it alters nothing
unaltered_run : (s : State) (H : History) (n : ℕ) (r : Refusal) → RelatedTo s H n → refused_by run (lengths_of s) H ≡ Err r → state_of run s ≡ s
unfolding state_of refused_by
unaltered_run s empty n r h q = ap (λ (o : Outcome). o.state) (run_empty s h)
unaltered_run s (holds e) n r h q = refused_accepted q refl

-- a channel's run that 25 or 16 refuses alters nothing
unaltered_channel : (c : Quota) (i : ℕ) (s : State) (H : History) (n : ℕ) (r : Refusal) → RelatedTo s H n
    → barred_by (channel_run c i) (lengths_of s) H ≡ Err r → state_of (channel_run c i) s ≡ s
unfolding state_of barred_by
unaltered_channel c i s empty n r h b = let (x, e, p) = empty_unmade c i s h in ap (λ (o : ChannelOutcome). o.state) (run_unmade c i s p)
unaltered_channel c i s (holds e) n r h b = ap (λ (o : ChannelOutcome). o.state) (run_unmade c i s (channel_barred c i s b))

pub unaltered : (c : Call) (s : State) (H : History) (n : ℕ) (r : Refusal) → RelatedTo s H n → barred_by c (lengths_of s) H ≡ Err r → state_of c s ≡ s
unaltered c s H n r h b = by c b (refused c s H n h ∙ barred_refused c (lengths_of s) H r b)
  where
    by : (c : Call) → barred_by c (lengths_of s) H ≡ Err r → refusal_of (answer_of c s) ≡ Err r → state_of c s ≡ s
    by (load t x) b q = refusals.unaltered s (load t x) refl q
    by pass b q = refusals.unaltered s pass refl q
    by run b q = unaltered_run s H n r h (barred_refused run (lengths_of s) H r b)
    by view b q = refusals.unaltered s view refl q
    by figures b q = refusals.unaltered s figures refl q
    by (collect out) b q = refusals.unaltered s (collect out) refl q
    by (channel_pass c i) b q = refusals.unaltered s (channel_pass c i) refl q
    by (channel_run c i) b q = unaltered_channel c i s H n r h b

-- on an empty job, and by 25, a channel's call hands the quota back
unmade_back : (c : Quota) (i : ℕ) (s : State) {r : Refusal} → channel_pass_of c i s ≡ unmade r s c → QuotaBack c i s
unmade_back c i s p = (ap (λ (o : ChannelOutcome). o.quota) p, ap (λ (o : ChannelOutcome). o.quota) (run_unmade c i s p))

pub quota_back : (c : Quota) (i : ℕ) (s : State) (H : History) (n : ℕ) → RelatedTo s H n → (H ≡ empty) ⊎ (channel_rule c i ≢ Ok tt) → QuotaBack c i s
quota_back c i s H n h (inl e) = unmade_back c i s (empty_unmade c i s (subst (λ (K : History). RelatedTo s K n) e h)).2
quota_back c i s H n h (inr bad) = by (channel_rule c i) refl
  where
    by : (v : Verdict) → channel_rule c i ≡ v → QuotaBack c i s
    by (Ok _) e = absurd (bad e)
    by (Err r) e = unmade_back c i s (channel_barred c i s e)
