-- Refused because of the state or of the quota: 14 to 17, 24 and 25 are given under their conditions and under no other (01, Refused because of the state).
--     barred_call, unsound_call     25 first; then an unsound record: every call is refused by 14
--     empty_load, empty_call  a sound record at stage 0: load goes by its input, the others are refused by 16
--     ready_load, ready-collect     at stage 1 and 2: load is refused by 15; collect by 17 at stage 1, and goes by its output at stage 2
--     stopped_call, spent_call      14's pass clause, and 24
--     only_channel_pass, only_channel_run     why a channel's pass, alone or in a run, is refused
--     given, only, by_state   the claims
-- Assumes nothing.
use Rattle.std.specs.Prelude.{Ok, Err}
use mathlib.Core.Bool.{Bool, true, false, not, ◌||◌}
use mathlib.Core.List.{List, [], ◌∷◌}
use mathlib.Core.Logic.{inl, inr, ⊎_elim, ◌≢◌}
use mathlib.Core.Path.{◌≡◌, refl, sym, ap, ◌∙◌}
use Prim.Native.Nat.{ℕ}
use native.Mathlib.Omega.{arith}
use borrow.Author.Tests.{eqb-true, eqb-false, eq-eqb, ne_eqb, not-true}
use lib.Dec.{ltb, eqb}
use lib.ListN.{length}
use Rattle.history.specs.declared.Quota.{Quota}
use Rattle.history.specs.Call.{Call, load, pass, run, view, figures, collect, channel_pass, channel_run, is_load, is_collect, answer_of, refusal_of}
use Rattle.history.specs.Channel.{ChannelOutcome}
use Rattle.history.specs.Collect.{collected, collect_verdict, collect_written}
use Rattle.history.specs.Demand1.{Goes, quota_rule, Stopped, Spent, state_numbers, placed, Cause, no_channel, unsound, stopped, not_collected, nothing_loaded, not_at_rest, spent}
use Rattle.history.specs.Load.{areas_rule, load_verdict}
use Rattle.history.specs.Pass.{Outcome}
use Rattle.history.specs.Quota.{channel_rule}
use Rattle.history.specs.Sound.{Unsound, Ready}
use Rattle.history.specs.Source.{Source, source_verdict}
use Rattle.history.specs.State as state
use Rattle.history.specs.State.{State, sound_rule, loaded_rule, ready_verdict}
use Rattle.history.specs.View.{figures_of}
use Rattle.verdict.specs.declared.Rule.TheVariants as why
use Rattle.history.proofs.ChannelPasses.{channel_barred, channel_unready, rule_number}
use Rattle.history.proofs.ChannelRuns.{run_unmade}
use Rattle.history.proofs.ChannelStates.{Because, stopped_pass, stopped_run, spent_pass, spent_run, pass_because, run_because}
use Rattle.history.proofs.Never14.{load_numbers_lem}
use Rattle.history.proofs.Overruns.{sound, overrun_pass, refused_changed, refused_pass}
use Rattle.history.proofs.Passes as passes
use Rattle.history.proofs.Ready.{ready_sound, ready_accepted}
use Rattle.history.proofs.Refusals.{written_refusal}
use Rattle.history.proofs.Runs.{run_refused, ends, ends_at}
use Rattle.history.proofs.Unsound.{unsound_words, words_unsound, sound_none, sound_ready}
use Rattle.seq.proofs.Lists.{clash, either}
use Rattle.table.specs.declared.Table.{Table}
use Rattle.table.specs.Record.{record_verdict}
use Rattle.verdict.specs.Answers.{verdict_of}
use Rattle.verdict.specs.declared.Rule.{Rule}
use Rattle.verdict.specs.Numbers.{among}
use Rattle.verdict.specs.Rules.{refusal, refuse_if, or_else, judge, Verdict, number_of, number, Refusal}
use Rattle.verdict.proofs.Numbers.{one_of_passes}
use Rattle.verdict.proofs.Rules.{refused_accepted, or_else_accepted, judge_append}

-- what a call is refused by
abbrev refused_with : Call → State → Verdict
refused_with c s = refusal_of (answer_of c s)

-- collect begins with 14 and 16 too
pub collect_split : (n : ℕ) (s : State)
    → collect_verdict n s
    ≡ or_else (ready_verdict s) (judge (refuse_if (eqb s.job.stage 1) why.NotStable 0 ∷ refuse_if (ltb n (length (collected s))) why.AreaShort 0 ∷ []))
unfolding collect_verdict ready_verdict
collect_split n s =
    judge_append (sound_rule s ∷ loaded_rule s ∷ [])
    (refuse_if (eqb s.job.stage 1) why.NotStable 0 ∷ refuse_if (ltb n (length (collected s))) why.AreaShort 0 ∷ [])

-- every call but load is refused as `ready_verdict` refuses
unready_call : (s : State) {r : Refusal} → ready_verdict s ≡ Err r → (c : Call) → quota_rule c ≡ Ok tt → is_load c ≡ false → refused_with c s ≡ Err r
unfolding answer_of figures_of collect_written
unready_call s e (load t x) k n = clash refl n
unready_call s e pass k n = ap (λ (o : Outcome). verdict_of o.answer) (passes.pass_refused s e)
unready_call s e run k n = ap (λ (o : Outcome). verdict_of o.answer) (run_refused s e)
unready_call s e view k n = e
unready_call s e figures k n = rw e
unready_call s e (collect out) k n =
    written_refusal (collect_verdict (length out) s) (collected s) ∙ collect_split (length out) s ∙ rw e
unready_call s e (channel_pass c i) k n = ap (λ (o : ChannelOutcome). verdict_of o.answer) (channel_unready c i s k e)
unready_call s e (channel_run c i) k n = ap (λ (o : ChannelOutcome). verdict_of o.answer) (run_unmade c i s (channel_unready c i s k e))

-- 25 before all else
barred_call : (s : State) {r : Refusal} (c : Call) → quota_rule c ≡ Err r → refused_with c s ≡ Err r
unfolding answer_of
barred_call s (load t x) k = refused_accepted k refl
barred_call s pass k = refused_accepted k refl
barred_call s run k = refused_accepted k refl
barred_call s view k = refused_accepted k refl
barred_call s figures k = refused_accepted k refl
barred_call s (collect out) k = refused_accepted k refl
barred_call s (channel_pass c i) k = ap (λ (o : ChannelOutcome). verdict_of o.answer) (channel_barred c i s k)
barred_call s (channel_run c i) k = ap (λ (o : ChannelOutcome). verdict_of o.answer) (run_unmade c i s (channel_barred c i s k))

quota_number : (c : Call) {r : Refusal} → quota_rule c ≡ Err r → r ≡ refusal why.QuotaRange 0
quota_number (load t x) k = refused_accepted k refl
quota_number pass k = refused_accepted k refl
quota_number run k = refused_accepted k refl
quota_number view k = refused_accepted k refl
quota_number figures k = refused_accepted k refl
quota_number (collect out) k = refused_accepted k refl
quota_number (channel_pass c i) k = rule_number c i k
quota_number (channel_run c i) k = rule_number c i k

module _ (s : State) (bad : state.unsound s ≡ true) where
  unready : ready_verdict s ≡ Err (refusal why.Unsound 0)
  unfolding ready_verdict
  unready = rw bad

  unsound_call : (c : Call) → quota_rule c ≡ Ok tt → refused_with c s ≡ Err (refusal why.Unsound 0)
  unfolding answer_of load_verdict
  unsound_call (load t x) k = rw bad
  unsound_call pass k = unready_call s unready pass k refl
  unsound_call run k = unready_call s unready run k refl
  unsound_call view k = unready_call s unready view k refl
  unsound_call figures k = unready_call s unready figures k refl
  unsound_call (collect out) k = unready_call s unready (collect out) k refl
  unsound_call (channel_pass c i) k = unready_call s unready (channel_pass c i) k refl
  unsound_call (channel_run c i) k = unready_call s unready (channel_run c i) k refl

module _ (s : State) (good : state.unsound s ≡ false) where
  module _ (empty : s.job.stage ≡ 0) where
    nothing : ready_verdict s ≡ Err (refusal why.NothingLoaded 0)
    unfolding ready_verdict
    nothing = rw (good, eq-eqb s.job.stage 0 empty)

    empty_call : (c : Call) → quota_rule c ≡ Ok tt → is_load c ≡ false → refused_with c s ≡ Err (refusal why.NothingLoaded 0)
    empty_call = unready_call s nothing

    pub empty_load : (t : Table) (x : Source)
        → refused_with (load t x) s ≡ judge (record_verdict t ∷ source_verdict x ∷ areas_rule x (length s.first) (length s.second) ∷ [])
    unfolding answer_of load_verdict
    empty_load t x = rw (good, eq-eqb s.job.stage 0 empty)

  ready_load : (s.job.stage ≡ 0 → ⊥) → (t : Table) (x : Source) → refused_with (load t x) s ≡ Err (refusal why.NotCollected 0)
  unfolding answer_of load_verdict
  ready_load n t x = rw (good, ne_eqb s.job.stage 0 n)

  module _ (out : List ℕ) (n : s.job.stage ≡ 0 → ⊥) where
    -- what is left of collect's rules
    left : refused_with (collect out) s ≡ judge (refuse_if (eqb s.job.stage 1) why.NotStable 0 ∷ refuse_if (ltb (length out) (length (collected s))) why.AreaShort 0 ∷ [])
    unfolding answer_of collect_written
    left =
        written_refusal (collect_verdict (length out) s) (collected s)
        ∙ collect_split (length out) s
        ∙ rw (ready_accepted (sound_ready s good n))

    loaded_collect : s.job.stage ≡ 1 → refused_with (collect out) s ≡ Err (refusal why.NotStable 0)
    loaded_collect z = left ∙ rw (eq-eqb s.job.stage 1 z)

    pub stable_collect : (s.job.stage ≡ 1 → ⊥) → refused_with (collect out) s ≡ refuse_if (ltb (length out) (length (collected s))) why.AreaShort 0
    stable_collect z = left ∙ rw (ne_eqb s.job.stage 1 z) (or_else_accepted _)

stopped_call : (c : Call) (s : State) → Stopped c s → refused_with c s ≡ Err (refusal why.Unsound 0)
unfolding answer_of
stopped_call (load t y) s x = absurd x
stopped_call pass s o = ap verdict_of (overrun_pass o)
stopped_call run s (k, g, o) =
    let p = overrun_pass o in
    ap (λ (u : Outcome). verdict_of u.answer) (ends_at k s g (refused_changed p)) ∙ ap verdict_of p
stopped_call view s x = absurd x
stopped_call figures s x = absurd x
stopped_call (collect out) s x = absurd x
stopped_call (channel_pass c i) s (k, l, o) = ap verdict_of (stopped_pass c i s k l o)
stopped_call (channel_run c i) s (k, (j, l, g, o)) = ap verdict_of (stopped_run c i s k j l g o)

spent_call : (c : Call) (s : State) → Spent c s → refused_with c s ≡ Err (refusal why.AllowanceSpent (placed c why.AllowanceSpent))
unfolding answer_of
spent_call (load t y) s x = absurd x
spent_call pass s x = absurd x
spent_call run s x = absurd x
spent_call view s x = absurd x
spent_call figures s x = absurd x
spent_call (collect out) s x = absurd x
spent_call (channel_pass c i) s (k, u, z, l) = ap verdict_of (spent_pass c i s k (sound_ready s (sound s u) (λ q. omega (arith, z))) z l)
spent_call (channel_run c i) s (k, u, z, g) = ap verdict_of (spent_run c i s k (sound_ready s (sound s u) (λ q. omega (arith, z))) z g)

-- 25 where the rule is not accepted
no_channel_call : (c : Call) (s : State) → quota_rule c ≢ Ok tt → refused_with c s ≡ Err (refusal why.QuotaRange 0)
no_channel_call c s n = by (quota_rule c) refl
  where
    by : (v : Verdict) → quota_rule c ≡ v → refused_with c s ≡ Err (refusal why.QuotaRange 0)
    by (Ok _) k = absurd (n k)
    by (Err r) k = barred_call s c k ∙ ap Err (quota_number c k)

pub given : (c : Call) (s : State) (n : Rule) → Cause c s n → refused_with c s ≡ Err (refusal n (placed c n))
given c s n (no_channel x) = no_channel_call c s x
given c s n (unsound k u) = unsound_call s (words_unsound s u) c k
given c s n (stopped x) = stopped_call c s x
given c s n (spent x) = spent_call c s x
given (load t x) s n (not_collected g l z) = ready_load s (sound s g) z t x
given pass s n (not_collected g l z) = clash l refl
given run s n (not_collected g l z) = clash l refl
given view s n (not_collected g l z) = clash l refl
given figures s n (not_collected g l z) = clash l refl
given (collect out) s n (not_collected g l z) = clash l refl
given (channel_pass c i) s n (not_collected g l z) = clash l refl
given (channel_run c i) s n (not_collected g l z) = clash l refl
given c s n (nothing_loaded k g l z) = empty_call s (sound s g) z c k l
given (load t x) s n (not_at_rest g l z) = clash l refl
given pass s n (not_at_rest g l z) = clash l refl
given run s n (not_at_rest g l z) = clash l refl
given view s n (not_at_rest g l z) = clash l refl
given figures s n (not_at_rest g l z) = clash l refl
given (collect out) s n (not_at_rest g l z) = loaded_collect s (sound s g) out (λ q. omega (arith, z)) z
given (channel_pass c i) s n (not_at_rest g l z) = clash l refl
given (channel_run c i) s n (not_at_rest g l z) = clash l refl

-- a call whose refusal is known, with its cause
abbrev Caused : Call → State → Refusal → Type 0
Caused c s r = Cause c s r.rule × (r.place ≡ placed c r.rule)

named : {v : Verdict} {r : Refusal} (c : Call) (s : State) (n : Rule) → v ≡ Err r → v ≡ Err (refusal n (placed c n)) → Cause c s n → Caused c s r
named {r = r} c s n p q x = let e : r ≡ refusal n (placed c n) = cc in rw e (x, refl)

-- refused because of the input
low_load : (s : State) (good : state.unsound s ≡ false) (empty : s.job.stage ≡ 0) (t : Table) (x : Source) {r : Refusal}
    → refused_with (load t x) s ≡ Err r → among state_numbers (number_of r) ≡ false
low_load s good empty t x {r} q =
    not-true (among state_numbers (number_of r))
    (one_of_passes (λ n. not (among state_numbers n)) (load_numbers_lem t x (length s.first) (length s.second)) refl (sym (empty_load s good empty t x) ∙ q))

low_collect : (b : Bool) {r : Refusal} → refuse_if b why.AreaShort 0 ≡ Err r → among state_numbers (number_of r) ≡ false
low_collect true {r} q = let e : refusal why.AreaShort 0 ≡ r = cc in ap (λ (x : Refusal). among state_numbers (number_of x)) (sym e)
low_collect false q = refused_accepted q refl

module _ (s : State) (ready : Ready s) {r : Refusal} where
  only_run : refused_with run s ≡ Err r → Caused run s r
  unfolding answer_of
  only_run q =
      let x = ends s in
      let (e, o) = refused_pass s ready x.finished x.goes (sym (ap (λ (u : Outcome). verdict_of u.answer) x.last) ∙ q) in
      rw e (stopped (x.finished, x.goes, o), refl)

  only_pass : refused_with pass s ≡ Err r → Caused pass s r
  unfolding answer_of
  only_pass q = let (e, o) = refused_pass s ready 0 (λ i l. absurd (omega arith)) q in rw e (stopped o, refl)

  -- why a channel's pass is refused, and its run
  only_channel_pass : (c : Quota) (i : ℕ) → channel_rule c i ≡ Ok tt → refused_with (channel_pass c i) s ≡ Err r → Caused (channel_pass c i) s r
  unfolding answer_of
  only_channel_pass c i k q = by (pass_because c i s k ready q)
    where
      by : Because c i s 0 r → Caused (channel_pass c i) s r
      by (inl (e, z, l)) = rw e (spent (k, sound_none s (ready_sound ready), z, l), refl)
      by (inr (e, l, o)) = rw e (stopped (k, l, o), refl)

  only_channel_run : (c : Quota) (i : ℕ) → channel_rule c i ≡ Ok tt → refused_with (channel_run c i) s ≡ Err r → Caused (channel_run c i) s r
  unfolding answer_of
  only_channel_run c i k q = let (j, g, b) = run_because c i s k ready q in by j g b
    where
      by : (j : ℕ) → Goes j s → Because c i s j r → Caused (channel_run c i) s r
      by j g (inl (e, z, l)) = rw e (spent (k, sound_none s (ready_sound ready), z, rw l g), refl)
      by j g (inr (e, l, o)) = rw e (stopped (k, (j, l, g, o)), refl)

-- a refusal because of the state; load and collect are also refused because of their input and output
abbrev takes : Call → Bool
takes c = is_load c || is_collect c

module _ (s : State) (good : state.unsound s ≡ false) {r : Refusal} where
  nothing_there : s.job.stage ≡ 0 → (c : Call) → quota_rule c ≡ Ok tt → is_load c ≡ false → refused_with c s ≡ Err r → Caused c s r
  nothing_there z c k l q = named c s why.NothingLoaded q (empty_call s good z c k l) (nothing_loaded k (sound_none s good) l z)

  only_empty : s.job.stage ≡ 0 → (c : Call) → quota_rule c ≡ Ok tt → refused_with c s ≡ Err r
      → (takes c ≡ true → among state_numbers (number_of r) ≡ true) → Caused c s r
  only_empty z (load t x) k q l = clash (l refl) (low_load s good z t x q)
  only_empty z pass k q l = nothing_there z pass k refl q
  only_empty z run k q l = nothing_there z run k refl q
  only_empty z view k q l = nothing_there z view k refl q
  only_empty z figures k q l = nothing_there z figures k refl q
  only_empty z (collect out) k q l = nothing_there z (collect out) k refl q
  only_empty z (channel_pass c i) k q l = nothing_there z (channel_pass c i) k refl q
  only_empty z (channel_run c i) k q l = nothing_there z (channel_run c i) k refl q

  only_ready : (s.job.stage ≡ 0 → ⊥) → (c : Call) → quota_rule c ≡ Ok tt → refused_with c s ≡ Err r
      → (takes c ≡ true → among state_numbers (number_of r) ≡ true) → Caused c s r
  unfolding answer_of figures_of
  only_ready n (load t x) k q l = named (load t x) s why.NotCollected q (ready_load s good n t x) (not_collected (sound_none s good) refl n)
  only_ready n pass k q l = only_pass s (sound_ready s good n) q
  only_ready n run k q l = only_run s (sound_ready s good n) q
  only_ready n view k q l = refused_accepted q (ready_accepted (sound_ready s good n))
  only_ready n figures k q l = refused_accepted q (rw (ready_accepted (sound_ready s good n)))
  only_ready n (collect out) k q l = ⊎_elim loaded stable (either (eqb s.job.stage 1))
    where
      loaded : eqb s.job.stage 1 ≡ true → Caused (collect out) s r
      loaded e = let z = eqb-true s.job.stage 1 e in named (collect out) s why.NotStable q (loaded_collect s good out n z) (not_at_rest (sound_none s good) refl z)

      stable : eqb s.job.stage 1 ≡ false → Caused (collect out) s r
      stable e = clash (l refl) (low_collect (ltb (length out) (length (collected s))) (sym (stable_collect s good out n (eqb-false s.job.stage 1 e)) ∙ q))
  only_ready n (channel_pass c i) k q l = only_channel_pass s (sound_ready s good n) c i k q
  only_ready n (channel_run c i) k q l = only_channel_run s (sound_ready s good n) c i k q

by_cause : (c : Call) (s : State) (r : Refusal) → refused_with c s ≡ Err r → (takes c ≡ true → among state_numbers (number_of r) ≡ true) → Caused c s r
by_cause c s r q l = first (quota_rule c) refl
  where
    bad : quota_rule c ≡ Ok tt → state.unsound s ≡ true → Caused c s r
    bad k e = named c s why.Unsound q (unsound_call s e c k) (unsound k (unsound_words s e))

    good : quota_rule c ≡ Ok tt → state.unsound s ≡ false → Caused c s r
    good k e =
        ⊎_elim (λ z. only_empty s e (eqb-true s.job.stage 0 z) c k q l) (λ z. only_ready s e (eqb-false s.job.stage 0 z) c k q l)
        (either (eqb s.job.stage 0))

    first : (v : Verdict) → quota_rule c ≡ v → Caused c s r
    first (Ok _) k = ⊎_elim (bad k) (good k) (either (state.unsound s))
    first (Err x) k = named c s why.QuotaRange q (no_channel_call c s (refused_accepted k)) (no_channel (refused_accepted k))

pub only : (c : Call) (s : State) (r : Refusal) → refused_with c s ≡ Err r → among state_numbers (number_of r) ≡ true → Caused c s r
only c s r q l = by_cause c s r q (λ e. l)

cause_number : {c : Call} {s : State} {x : Rule} → Cause c s x → among state_numbers (number x) ≡ true
cause_number (no_channel x) = refl
cause_number (unsound k u) = refl
cause_number (stopped x) = refl
cause_number (not_collected g l z) = refl
cause_number (nothing_loaded k g l z) = refl
cause_number (not_at_rest g l z) = refl
cause_number (spent x) = refl

pub by_state : (c : Call) (s : State) (r : Refusal) → is_load c ≡ false → is_collect c ≡ false → refused_with c s ≡ Err r → among state_numbers (number_of r) ≡ true
by_state c s r a b q = cause_number (by_cause c s r q (λ e. clash e (rw (a, b)))).0

pub by_input : (t : Table) (x : Source) (s : State) → (Unsound s → ⊥) → s.job.stage ≡ 0
    → refused_with (load t x) s ≡ judge (record_verdict t ∷ source_verdict x ∷ areas_rule x (length s.first) (length s.second) ∷ [])
by_input t x s n z = empty_load s (sound s n) z t x

pub by_output : (out : List ℕ) (s : State) → (Unsound s → ⊥) → s.job.stage ≡ 2
    → refused_with (collect out) s ≡ refuse_if (ltb (length out) (length (collected s))) why.AreaShort 0
by_output out s n z = stable_collect s (sound s n) out (λ q. omega (arith, z)) (λ q. omega (arith, z))
