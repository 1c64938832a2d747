-- 24, and 14's pass clause, of a channel's pass and run on any record (02, T-10).
--     goes_loaded, goes_began          passes that change pixels begin and end at stage 1
--     stopped_pass, stopped_run        14 under its pass clause
--     spent_pass, spent_run            24 under its condition
--     Because q i s k r, because       why the pass after k others is refused
--     pass_because, run_because        why a channel's pass is, and why its run
-- Assumes nothing.
use Rattle.std.specs.Prelude.{Ok, Err}
use mathlib.Core.Logic.{◌⊎◌, inl, inr}
use mathlib.Core.Path.{◌≡◌, sym, ap, ◌∙◌}
use Prim.Native.Nat.{ℕ, zero, suc, ◌+◌, ◌≤◌, ◌<◌}
use native.Mathlib.Omega.{arith}
use Rattle.history.specs.declared.Quota.{Quota}
use Rattle.history.specs.Channel.{ChannelOutcome, channel_pass_of, channel_run_of}
use Rattle.history.specs.Demand1.{after_passes, Goes}
use Rattle.history.specs.Pass.{pass_of}
use Rattle.history.specs.Quota.{channel_rule, available, charged_for}
use Rattle.history.specs.Sound.{Overruns, Ready}
use Rattle.history.specs.State.{State}
use Rattle.verdict.specs.declared.Rule.TheVariants as why
use Rattle.history.proofs.ChannelPasses as ways
use Rattle.history.proofs.ChannelPasses.{none_left, ChannelWay, channel_way}
use Rattle.history.proofs.ChannelRuns.{reaches, channel_at}
use Rattle.history.proofs.Overruns.{sound, overrun_pass, refused_changed, still_ready, refused_pass}
use Rattle.history.proofs.Passes.{changed}
use Rattle.history.proofs.Quotas.{rule_charged_for, available_charged_for}
use Rattle.history.proofs.Ready.{ready_accepted}
use Rattle.history.proofs.Runs.{goes_next}
use Rattle.history.proofs.Unsound.{sound_ready}
use Rattle.verdict.specs.Answers.{verdict_of}
use Rattle.verdict.specs.Rules.{refusal, Refusal}
use Rattle.verdict.proofs.Rules.{refused_accepted}

-- 14's pass clause comes after 24
pub stopped_pass : (q : Quota) (i : ℕ) (s : State) → channel_rule q i ≡ Ok tt → 0 < available q i → Overruns s
    → (channel_pass_of q i s).answer ≡ Err (refusal why.Unsound 0)
stopped_pass q i s rule l o = by (channel_way q i s)
  where
    ready : Ready s
    ready = sound_ready s (sound s o.sound) (λ z. omega (arith, o.loaded))

    by : ChannelWay q i s → (channel_pass_of q i s).answer ≡ Err (refusal why.Unsound 0)
    by (ways.barred x bad p) = refused_accepted bad rule
    by (ways.unready k x e p) = refused_accepted e (ready_accepted ready)
    by (ways.spent_out_lem k x z m p) = absurd (omega arith)
    by (ways.resting k x z p) = absurd (omega (arith, o.loaded))
    by (ways.paying k x z m p) = ap (λ (u : ChannelOutcome). u.answer) p ∙ overrun_pass o

-- passes that change pixels begin at stage 1, and leave it
goes_loaded : (k : ℕ) (s : State) → Goes k s → s.job.stage ≡ 1 → (after_passes k s).job.stage ≡ 1
goes_loaded zero s g z = z
goes_loaded (suc k) s g z = goes_loaded k (pass_of s).state (goes_next k s g) (changed s (g 0 (omega arith))).loaded

goes_began : (k : ℕ) (s : State) → Goes k s → (after_passes k s).job.stage ≡ 1 → s.job.stage ≡ 1
goes_began zero s g z = z
goes_began (suc k) s g z = (changed s (g 0 (omega arith))).begun

module _ (q : Quota) (i : ℕ) (s : State) (rule : channel_rule q i ≡ Ok tt) where
  -- the quota after k passes, and the record
  rule_after : (k : ℕ) → channel_rule (charged_for k q i) i ≡ Ok tt
  rule_after k = rule_charged_for k q i i ∙ rule

  -- a run that is refused after k passes
  refused_at : (k : ℕ) {r : Refusal} → Goes k s → k ≤ available q i
      → (channel_pass_of (charged_for k q i) i (after_passes k s)).answer ≡ Err r → (channel_run_of q i s).answer ≡ Err r
  refused_at k g l p = ap (λ (u : ChannelOutcome). u.answer) (channel_at q i s rule k g l (refused_changed p)) ∙ p

  pub stopped_run : (k : ℕ) → k < available q i → Goes k s → Overruns (after_passes k s) → (channel_run_of q i s).answer ≡ Err (refusal why.Unsound 0)
  stopped_run k l g o =
      let left : 0 < available (charged_for k q i) i = let z = available_charged_for k q i (omega arith) in omega arith in
      refused_at k g (omega arith) (stopped_pass (charged_for k q i) i (after_passes k s) (rule_after k) left o)

  module _ (ready : Ready s) (z : s.job.stage ≡ 1) where
    pub spent_pass : available q i ≡ 0 → (channel_pass_of q i s).answer ≡ Err (refusal why.AllowanceSpent i)
    spent_pass l = ap (λ (u : ChannelOutcome). u.answer) (none_left q i s rule (ready_accepted ready) z l)

    pub spent_run : Goes (available q i) s → (channel_run_of q i s).answer ≡ Err (refusal why.AllowanceSpent i)
    spent_run g =
        let k = available q i in
        let none : available (charged_for k q i) i ≡ 0 = let y = available_charged_for k q i (omega arith) in omega arith in
        refused_at k g (omega arith)
        (ap (λ (u : ChannelOutcome). u.answer)
        (none_left (charged_for k q i) i (after_passes k s) (rule_after k) (ready_accepted (still_ready s ready k g)) (goes_loaded k s g z) none))

-- 24 where as many passes were made as the channel had, or 14's pass clause where one was left
abbrev pub Because : Quota → ℕ → State → ℕ → Refusal → Type 0
Because q i s k r =
    ((r ≡ refusal why.AllowanceSpent i) × (s.job.stage ≡ 1) × (available q i ≡ k)) ⊎ ((r ≡ refusal why.Unsound 0) × (k < available q i) × Overruns (after_passes k s))

module _ (q : Quota) (i : ℕ) (s : State) (rule : channel_rule q i ≡ Ok tt) (ready : Ready s) {r : Refusal} where
  because : (k : ℕ) → Goes k s → k ≤ available q i → verdict_of (channel_pass_of (charged_for k q i) i (after_passes k s)).answer ≡ Err r → Because q i s k r
  because k g l e = by (channel_way (charged_for k q i) i (after_passes k s))
    where
      left : available (charged_for k q i) i + k ≡ available q i
      left = available_charged_for k q i l

      by : ChannelWay (charged_for k q i) i (after_passes k s) → Because q i s k r
      by (ways.barred x bad p) = refused_accepted bad (rule_charged_for k q i i ∙ rule)
      by (ways.unready y x f p) = refused_accepted f (ready_accepted (still_ready s ready k g))
      by (ways.spent_out_lem y x z m p) =
          let same : Err (refusal why.AllowanceSpent i) ≡ Err r = sym (ap (λ (u : ChannelOutcome). verdict_of u.answer) p) ∙ e in
          inl (cc, goes_began k s g z, omega (arith, left))
      by (ways.resting y x z p) = refused_accepted e (ap (λ (u : ChannelOutcome). verdict_of u.answer) p)
      by (ways.paying y x z m p) =
          let (f, o) = refused_pass s ready k g (sym (ap (λ (u : ChannelOutcome). verdict_of u.answer) p) ∙ e) in
          inr (f, omega (arith, left), o)

  pub pass_because : verdict_of (channel_pass_of q i s).answer ≡ Err r → Because q i s 0 r
  pass_because e = because 0 (λ j l. absurd (omega arith)) (omega arith) e

  pub run_because : verdict_of (channel_run_of q i s).answer ≡ Err r → (k : ℕ) × Goes k s × Because q i s k r
  run_because e =
      let x = reaches q i s rule in
      (x.finished, x.goes, because x.finished x.goes x.affordable (sym (ap (λ (u : ChannelOutcome). verdict_of u.answer) x.last) ∙ e))
