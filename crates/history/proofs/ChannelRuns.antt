-- A channel's run on any record and areas (02, T-10): the passes of a run, as many as the quota pays for.
--     run_once, run_next, run_last, run_ended     a channel's run by its first pass
--     run_from                after k passes that change pixels and are paid for, the rest of it
--     Reaches q i s, reaches  how far it comes
--     ends_channel            how it ends
--     channel_at              where it ends
--     run_unmade              a run that 25, 14 or 16 ends before it begins
--     pass_plain, unmetered   a channel's pass and run are refused by 24, or are a pass and a run
--     pass_accepted, run_accepted     those that are not refused answer as the plain ones
-- Assumes nothing.
use Rattle.std.specs.Prelude.{Ok, Err}
use mathlib.Core.Logic.{◌⊎◌, inl, inr, ⊎_elim}
use mathlib.Core.Path.{◌≡◌, refl, sym, ap, ◌∙◌}
use Prim.Native.Nat.{ℕ, zero, suc, ◌+◌, ◌-◌, ◌≤◌, ◌<◌}
use native.Mathlib.Omega.{arith}
use Rattle.history.specs.declared.Effect.TheVariants.{Changed}
use Rattle.history.specs.declared.Quota.{Quota}
use Rattle.history.specs.Channel.{ChannelOutcome, channel_pass_of, channel_run_for, channel_run_of}
use Rattle.history.specs.Demand1.{after_passes, Goes, RunEnds, ChannelEnds}
use Rattle.history.specs.Fleet.{PlainBut24, Unmetered}
use Rattle.history.specs.Pass.{Outcome, pass_of}
use Rattle.history.specs.Quota.{channel_rule, available, charged, charged_for}
use Rattle.history.specs.Run.{run_of}
use Rattle.history.specs.State.{State, pixels}
use Rattle.verdict.specs.declared.Rule.TheVariants as why
use Rattle.history.proofs.ChannelPasses as way
use Rattle.history.proofs.ChannelPasses.{unmade, channel_barred, ChannelWay, channel_way, Continues, continues, continues_on, stops_short}
use Rattle.history.proofs.Passes.{pass_refused, pass_stable}
use Rattle.history.proofs.Ready.{ready_accepted}
use Rattle.history.proofs.Quotas.{rule_charged, rule_charged_for, available_charged, available_charged_for}
use Rattle.history.proofs.Runs.{after, after_ends, goes_next, goes_few, ends}
use Rattle.seq.proofs.Tests.{lt_or_le}
use Rattle.verdict.specs.Answers.{verdict_of}
use Rattle.verdict.specs.Rules.{refusal, Verdict, Refusal}
use Rattle.verdict.proofs.Rules.{refused_accepted}

module _ (q : Quota) (i : ℕ) (s : State) where
  pub run_once : channel_run_for 0 q i s ≡ channel_pass_of q i s
  unfolding channel_run_for
  run_once = refl

  pub run_next : (n : ℕ) → Continues q i s → channel_run_for (suc n) q i s ≡ channel_run_for n (charged q i) i (pass_of s).state
  unfolding channel_run_for
  run_next n c = ap (λ (o : ChannelOutcome). after o (channel_run_for n o.quota i o.state) o.answer) c.outcome

  pub run_last : (n : ℕ) → ((channel_pass_of q i s).answer ≡ Ok Changed → ⊥) → channel_run_for n q i s ≡ channel_pass_of q i s
  unfolding channel_run_for
  run_last zero h = refl
  run_last (suc n) h = after_ends (channel_pass_of q i s) (channel_run_for n (channel_pass_of q i s).quota i (channel_pass_of q i s).state) (channel_pass_of q i s).answer h

  -- so does an outcome of another answer
  pub run_ended : (n : ℕ) {o : ChannelOutcome} → channel_pass_of q i s ≡ o → (o.answer ≡ Ok Changed → ⊥) → channel_run_for n q i s ≡ o
  run_ended n p h = run_last n (λ e. h (sym (ap (λ (o : ChannelOutcome). o.answer) p) ∙ e)) ∙ p

-- after k passes that change pixels, with as many left to pay for them
pub run_from : (k m : ℕ) (q : Quota) (i : ℕ) (s : State) → channel_rule q i ≡ Ok tt → Goes k s → k ≤ available q i
    → channel_run_for (k + m) q i s ≡ channel_run_for m (charged_for k q i) i (after_passes k s)
run_from zero m q i s rule g l = ap (λ (n : ℕ). channel_run_for n q i s) (omega arith)
run_from (suc k) m q i s rule g l =
    let c = continues_on q i s rule (g 0 (omega arith)) (omega arith) in
    let one : available (charged q i) i ≡ available q i - 1 = available_charged q i (available q i - 1) (omega arith) in
    ap (λ (n : ℕ). channel_run_for n q i s) (omega arith)
    ∙ run_next q i s (k + m) c
    ∙ run_from k m (charged q i) i (pass_of s).state (rule_charged q i i ∙ rule) (goes_next k s g) (omega arith)

-- how far a run comes: to the first pass that does not change pixels, or to the last that is paid for
pub record Reaches (q : Quota) (i : ℕ) (s : State) : Type 0 where
  pub finished : ℕ
  pub few : finished ≤ pixels s.job
  pub goes : Goes finished s
  pub affordable : finished ≤ available q i
  pub last : channel_run_of q i s ≡ channel_pass_of (charged_for finished q i) i (after_passes finished s)
  pub ends : (channel_run_of q i s).answer ≡ Ok Changed → ⊥
  -- the plain run comes as far, or further and then 24 stops this one
  pub plain : (run_of s ≡ pass_of (after_passes finished s)) ⊎ ((channel_run_of q i s).answer ≡ Err (refusal why.AllowanceSpent i))

module _ (q : Quota) (i : ℕ) (s : State) (rule : channel_rule q i ≡ Ok tt) where
  -- a pass after k, which does not answer "changed"
  pub channel_at : (k : ℕ) → Goes k s → k ≤ available q i
      → ((channel_pass_of (charged_for k q i) i (after_passes k s)).answer ≡ Ok Changed → ⊥)
      → channel_run_of q i s ≡ channel_pass_of (charged_for k q i) i (after_passes k s)
  unfolding channel_run_of
  channel_at k g l h =
      ap (λ (n : ℕ). channel_run_for n q i s) (omega (arith, goes_few k s g))
      ∙ run_from k (pixels s.job - k) q i s rule g l
      ∙ run_last (charged_for k q i) i (after_passes k s) (pixels s.job - k) h

  reached : (k : ℕ) → Goes k s → k ≤ available q i
      → ((channel_pass_of (charged_for k q i) i (after_passes k s)).answer ≡ Ok Changed → ⊥)
      → (run_of s ≡ pass_of (after_passes k s)) ⊎ ((channel_pass_of (charged_for k q i) i (after_passes k s)).answer ≡ Err (refusal why.AllowanceSpent i)) → Reaches q i s
  reached k g l h p = record {
    finished = k;
    few = goes_few k s g;
    goes = g;
    affordable = l;
    last = channel_at k g l h;
    ends = λ e. h (sym (ap (λ (o : ChannelOutcome). o.answer) (channel_at k g l h)) ∙ e);
    plain = ⊎_elim inl (λ e. inr (ap (λ (o : ChannelOutcome). o.answer) (channel_at k g l h) ∙ e)) p;
  }

  pub reaches : Reaches q i s
  reaches = ⊎_elim short long (lt_or_le (available q i) x.finished)
    where
      x : RunEnds s
      x = ends s

      long : x.finished ≤ available q i → Reaches q i s
      long l =
          reached x.finished x.goes l
          (λ e. x.ends (ap (λ (o : Outcome). o.answer) x.last ∙ (continues (charged_for x.finished q i) i (after_passes x.finished s) e).change))
          (inl x.last)

      -- the pass that comes next would change pixels, and nothing is left to pay for it
      short : available q i < x.finished → Reaches q i s
      short l = reached (available q i) (λ j m. x.goes j (omega arith)) (omega arith) (λ e. stop (continues left i here e)) (inr refused)
        where
          left : Quota
          left = charged_for (available q i) q i

          here : State
          here = after_passes (available q i) s

          spent : available left i ≡ 0
          spent = let z = available_charged_for (available q i) q i (omega arith) in omega arith

          stop : Continues left i here → ⊥
          stop c = omega (arith, c.some, spent)

          refused : (channel_pass_of left i here).answer ≡ Err (refusal why.AllowanceSpent i)
          refused =
              ap (λ (o : ChannelOutcome). o.answer)
              (stops_short left i here (rule_charged_for (available q i) q i i ∙ rule) (x.goes (available q i) l) spent)

-- with 25 a run is its first pass
pub ends_channel : (q : Quota) (i : ℕ) (s : State) → ChannelEnds q i s
unfolding channel_run_of
ends_channel q i s = by (channel_rule q i) refl
  where
    by : (v : Verdict) → channel_rule q i ≡ v → ChannelEnds q i s
    by (Ok _) rule = let x = reaches q i s rule in record { finished = x.finished; few = x.few; goes = x.goes; last = x.last; ends = x.ends }
    by (Err r) bad = record { finished = 0; few = omega arith; goes = λ j l. absurd (omega arith); last = only; ends = λ e. stop (sym (ap (λ (o : ChannelOutcome). o.answer) only) ∙ e) }
      where
        stop : (channel_pass_of q i s).answer ≡ Ok Changed → ⊥
        stop e = refused_accepted bad (continues q i s e).rule

        only : channel_run_for (pixels s.job) q i s ≡ channel_pass_of q i s
        only = run_last q i s (pixels s.job) stop

-- by 25, 14 or 16 a run is refused before it begins, as its first pass is
module _ (q : Quota) (i : ℕ) (s : State) {r : Refusal} (p : channel_pass_of q i s ≡ unmade r s q) where
  pub run_unmade : channel_run_of q i s ≡ unmade r s q
  unfolding channel_run_of
  run_unmade = run_ended q i s (pixels s.job) p (λ e. let z : ◌≡◌ {A = ℕ} 0 1 = cc in omega arith)

-- refused by 24, or a pass
pub pass_plain : (q : Quota) (i : ℕ) (s : State) → channel_rule q i ≡ Ok tt → PlainBut24 i (channel_pass_of q i s) (pass_of s)
pass_plain q i s rule = by (channel_way q i s)
  where
    same : {o : ChannelOutcome} → channel_pass_of q i s ≡ o → (pass_of s).answer ≡ o.answer → (pass_of s).state ≡ o.state → PlainBut24 i (channel_pass_of q i s) (pass_of s)
    same p a b = inr (ap (λ (o : ChannelOutcome). o.answer) p ∙ sym a, ap (λ (o : ChannelOutcome). o.state) p ∙ sym b)

    by : ChannelWay q i s → PlainBut24 i (channel_pass_of q i s) (pass_of s)
    by (way.barred r bad p) = refused_accepted bad rule
    by (way.unready ok r e p) = let o = pass_refused s e in same p (ap (λ (o : Outcome). o.answer) o) (ap (λ (o : Outcome). o.state) o)
    by (way.spent_out_lem ok r z l p) = inl (ap (λ (o : ChannelOutcome). o.answer) p)
    by (way.resting ok r z p) = let o = pass_stable s (ready_accepted r) z in same p (ap (λ (o : Outcome). o.answer) o) (ap (λ (o : Outcome). o.state) o)
    by (way.paying ok r z l p) = same p refl refl

-- a channel's call that is not refused answers as the plain one
not_24 : (i : ℕ) (o : ChannelOutcome) (p : Outcome) → PlainBut24 i o p → verdict_of o.answer ≡ Ok tt → o.answer ≡ p.answer
not_24 i o p (inl e) ok = refused_accepted (ap verdict_of e) ok
not_24 i o p (inr e) ok = e.0

pub unmetered : (q : Quota) (i : ℕ) (s : State) → channel_rule q i ≡ Ok tt → Unmetered q i s
unmetered q i s rule = record { pass_plain = pass_plain q i s rule; run_plain = ⊎_elim along inl x.plain }
  where
    x : Reaches q i s
    x = reaches q i s rule

    left : Quota
    left = charged_for x.finished q i

    here : State
    here = after_passes x.finished s

    along : run_of s ≡ pass_of here → PlainBut24 i (channel_run_of q i s) (run_of s)
    along e = rw (x.last, e) (pass_plain left i here (rule_charged_for x.finished q i i ∙ rule))

-- so does a channel's pass, and a run
module _ (q : Quota) (i : ℕ) (s : State) where
  barred_both : {r : Refusal} → channel_rule q i ≡ Err r → (verdict_of (channel_pass_of q i s).answer ≡ Err r) × (verdict_of (channel_run_of q i s).answer ≡ Err r)
  barred_both bad =
      let p = channel_barred q i s bad in
      (ap (λ (o : ChannelOutcome). verdict_of o.answer) p, ap (λ (o : ChannelOutcome). verdict_of o.answer) (run_unmade q i s p))

  pub pass_accepted : verdict_of (channel_pass_of q i s).answer ≡ Ok tt → (channel_pass_of q i s).answer ≡ (pass_of s).answer
  pass_accepted ok = by (channel_rule q i) refl
    where
      by : (v : Verdict) → channel_rule q i ≡ v → (channel_pass_of q i s).answer ≡ (pass_of s).answer
      by (Ok _) rule = not_24 i (channel_pass_of q i s) (pass_of s) (unmetered q i s rule).pass_plain ok
      by (Err r) bad = refused_accepted (barred_both bad).0 ok

  pub run_accepted : verdict_of (channel_run_of q i s).answer ≡ Ok tt → (channel_run_of q i s).answer ≡ (run_of s).answer
  run_accepted ok = by (channel_rule q i) refl
    where
      by : (v : Verdict) → channel_rule q i ≡ v → (channel_run_of q i s).answer ≡ (run_of s).answer
      by (Ok _) rule = not_24 i (channel_run_of q i s) (run_of s) (unmetered q i s rule).run_plain ok
      by (Err r) bad = refused_accepted (barred_both bad).1 ok
