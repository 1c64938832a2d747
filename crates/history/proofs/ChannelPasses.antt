-- A channel's pass on any record and areas: the ways that it goes (02, T-10).
--     unmade r s q                      refused by r, with nothing done
--     needs_none, needs_one             what a pass needs, at rest and at stage 1
--     channel_split                     25, then 14 and 16, then 24
--     none_left, some_left, at_rest     at stage 1, without and with a pass left, and at rest
--     channel_refused                   refused by 25, 14 or 16; channel_barred: by 25; channel_unready: by 14 or 16
--     ChannelWay q i s, channel_way     the five ways, and that it goes one of them
--     rule_number                       25 is said at place 0
--     Continues q i s, continues        what a channel's pass that answers "changed" has done
--     continues_on, stops_short         a pass that changes pixels: where one is left to pay for it, and where none is
--     handed_back                       a refused one hands the quota back
-- Assumes nothing.
use Rattle.std.specs.Prelude.{Ok, Err}
use mathlib.Core.Bool.{cond}
use mathlib.Core.List.{[], ◌∷◌}
use mathlib.Core.Logic.{⊎_elim}
use mathlib.Core.Path.{◌≡◌, refl, sym, ap, ◌∙◌}
use Prim.Native.Nat.{ℕ, ◌<◌}
use native.Mathlib.Omega.{arith}
use borrow.Author.Tests.{eqb-true, eqb-false, le-ltb}
use lib.Dec.{eqb}
use Rattle.history.specs.declared.Effect.TheVariants.{Changed, Stable}
use Rattle.history.specs.declared.Job.{Job}
use Rattle.history.specs.declared.Quota.{Quota}
use Rattle.history.specs.Channel.{ChannelOutcome, spent_rule, demand, channel_verdict, paid, channel_as, channel_pass_of}
use Rattle.history.specs.Pass.{Outcome, pass_of}
use Rattle.history.specs.Quota.{lacks, channel_rule, available, charged}
use Rattle.history.specs.Sound.{Ready}
use Rattle.history.specs.State.{State, sound_rule, loaded_rule, ready_verdict}
use Rattle.verdict.specs.declared.Rule.TheVariants as why
use Rattle.history.proofs.Passes.{pass_stable, Changes, changed}
use Rattle.history.proofs.Ready.{accepted_ready, ready_accepted}
use Rattle.seq.proofs.Lists.{either}
use Rattle.verdict.specs.Rules.{refusal, or_else, Verdict, Refusal}
use Rattle.verdict.proofs.Rules.{judge_last, or_else_assoc}

-- refused with nothing done
abbrev pub unmade : Refusal → State → Quota → ChannelOutcome
unmade r s q = record { answer = Err r; state = s; quota = q }

-- 25, 14 or 16, 24, at rest, or a pass that the quota pays for where it is not refused
pub data ChannelWay (q : Quota) (i : ℕ) (s : State) : Type 0 where
  barred : (r : Refusal) → channel_rule q i ≡ Err r → channel_pass_of q i s ≡ unmade r s q → ChannelWay q i s
  unready : channel_rule q i ≡ Ok tt → (r : Refusal) → ready_verdict s ≡ Err r → channel_pass_of q i s ≡ unmade r s q → ChannelWay q i s
  spent_out_lem : channel_rule q i ≡ Ok tt → Ready s → s.job.stage ≡ 1 → available q i ≡ 0 → channel_pass_of q i s ≡ unmade (refusal why.AllowanceSpent i) s q → ChannelWay q i s
  resting : channel_rule q i ≡ Ok tt → Ready s → s.job.stage ≡ 2
      → channel_pass_of q i s ≡ record { answer = (Ok Stable); state = s; quota = q } → ChannelWay q i s
  paying : channel_rule q i ≡ Ok tt → Ready s → s.job.stage ≡ 1 → 0 < available q i
      → channel_pass_of q i s ≡ record { answer = (pass_of s).answer; state = (pass_of s).state; quota = paid (pass_of s).answer 1 q i } → ChannelWay q i s

-- a pass needs none at rest, and one at stage 1
needs_none : (j : Job) → j.stage ≡ 2 → demand j ≡ 0
needs_none j z = ap (λ (k : ℕ). cond (eqb k 1) 1 0) z

needs_one : (j : Job) → j.stage ≡ 1 → demand j ≡ 1
needs_one j z = ap (λ (k : ℕ). cond (eqb k 1) 1 0) z

module _ (q : Quota) (i : ℕ) (s : State) where
  pub channel_split : channel_verdict q i s ≡ or_else (channel_rule q i) (or_else (ready_verdict s) (spent_rule q i (demand s.job)))
  unfolding channel_verdict ready_verdict
  channel_split = ap (or_else (channel_rule q i)) (judge_last (sound_rule s ∷ loaded_rule s ∷ []) (spent_rule q i (demand s.job)))

  by_verdict : (v : Verdict) → channel_verdict q i s ≡ v → channel_pass_of q i s ≡ channel_as v q i s
  unfolding channel_pass_of
  by_verdict v e = ap (λ (v : Verdict). channel_as v q i s) e

  module _ (rule : channel_rule q i ≡ Ok tt) (ready : ready_verdict s ≡ Ok tt) where
    loaded_verdict : s.job.stage ≡ 1 → channel_verdict q i s ≡ spent_rule q i 1
    loaded_verdict z = channel_split ∙ rw (rule, ready) (ap (spent_rule q i) (needs_one s.job z))

    rest_verdict : s.job.stage ≡ 2 → channel_verdict q i s ≡ Ok tt
    rest_verdict z = channel_split ∙ rw (rule, ready) (ap (spent_rule q i) (needs_none s.job z) ∙ rw (le-ltb (available q i) 0 (omega arith)))

    pub none_left : s.job.stage ≡ 1 → available q i ≡ 0 → channel_pass_of q i s ≡ unmade (refusal why.AllowanceSpent i) s q
    none_left z e = by_verdict (Err (refusal why.AllowanceSpent i)) (loaded_verdict z ∙ rw e)

    pub some_left : s.job.stage ≡ 1 → 0 < available q i
        → channel_pass_of q i s ≡ record { answer = (pass_of s).answer; state = (pass_of s).state; quota = paid (pass_of s).answer 1 q i }
    some_left z l = by_verdict (Ok tt) (loaded_verdict z ∙ rw (le-ltb (available q i) 1 (omega arith)))
        ∙ ap (λ (n : ℕ). record { answer = (pass_of s).answer; state = (pass_of s).state; quota = paid (pass_of s).answer n q i }) (needs_one s.job z)

    pub at_rest : s.job.stage ≡ 2 → channel_pass_of q i s ≡ record { answer = (Ok Stable); state = s; quota = q }
    at_rest z =
        by_verdict (Ok tt) (rest_verdict z)
        ∙ ap (λ (o : Outcome). record { answer = o.answer; state = o.state; quota = paid o.answer (demand s.job) q i }) (pass_stable s ready z)
        ∙ ap (λ (n : ℕ). record { answer = (Ok Stable); state = s; quota = paid (Ok Stable) n q i }) (needs_none s.job z)

  pub channel_refused : {r : Refusal} → or_else (channel_rule q i) (ready_verdict s) ≡ Err r → channel_pass_of q i s ≡ unmade r s q
  channel_refused {r} e =
      by_verdict (Err r) (channel_split ∙ sym (or_else_assoc (channel_rule q i) (ready_verdict s) (spent_rule q i (demand s.job))) ∙ rw e)

  pub channel_barred : {r : Refusal} → channel_rule q i ≡ Err r → channel_pass_of q i s ≡ unmade r s q
  channel_barred rule = channel_refused (rw rule)

  pub channel_unready : {r : Refusal} → channel_rule q i ≡ Ok tt → ready_verdict s ≡ Err r → channel_pass_of q i s ≡ unmade r s q
  channel_unready rule e = channel_refused (rw (rule, e))

  pub channel_way : ChannelWay q i s
  channel_way = by (channel_rule q i) refl (ready_verdict s) refl
    where
      loaded : channel_rule q i ≡ Ok tt → ready_verdict s ≡ Ok tt → s.job.stage ≡ 1 → ChannelWay q i s
      loaded rule e z =
          ⊎_elim
          (λ t. let l = eqb-true (available q i) 0 t in spent_out_lem rule (accepted_ready s e) z l (none_left rule e z l))
          (λ t. let l : 0 < available q i = let n = eqb-false (available q i) 0 t in omega arith in paying rule (accepted_ready s e) z l (some_left rule e z l))
          (either (eqb (available q i) 0))

      by : (v : Verdict) → channel_rule q i ≡ v → (w : Verdict) → ready_verdict s ≡ w → ChannelWay q i s
      by (Err r) rule w e = barred r rule (channel_barred rule)
      by (Ok _) rule (Err r) e = unready rule r e (channel_unready rule e)
      by (Ok _) rule (Ok _) e =
          ⊎_elim
          (λ t. let z = eqb-true s.job.stage 2 t in resting rule (accepted_ready s e) z (at_rest rule e z))
          (λ t. let r = accepted_ready s e in loaded rule e (let n = eqb-false s.job.stage 2 t in omega (arith, r.begun, r.staged)))
          (either (eqb s.job.stage 2))

-- 25 is said at place 0
pub rule_number : (q : Quota) (i : ℕ) {r : Refusal} → channel_rule q i ≡ Err r → r ≡ refusal why.QuotaRange 0
unfolding channel_rule
rule_number q i {r} e =
    ⊎_elim
    (λ t. let y : Err (refusal why.QuotaRange 0) ≡ Err r = rw t at e in cc)
    (λ t. absurd (let y : (Ok tt) ≡ Err r = rw t at e in let z : ◌≡◌ {A = ℕ} 0 1 = cc in omega arith))
    (either (lacks q i))

-- a channel's pass that answers "changed" is a pass that does, at stage 1, and the quota has paid for it
pub record Continues (q : Quota) (i : ℕ) (s : State) : Type 0 where
  pub rule : channel_rule q i ≡ Ok tt
  pub some : 0 < available q i
  pub loaded : s.job.stage ≡ 1
  pub change : (pass_of s).answer ≡ Ok Changed
  pub outcome : channel_pass_of q i s ≡ record { answer = (Ok Changed); state = (pass_of s).state; quota = charged q i }

module _ (q : Quota) (i : ℕ) (s : State) where
  paid_changed : (pass_of s).answer ≡ Ok Changed
      → channel_pass_of q i s ≡ record { answer = (pass_of s).answer; state = (pass_of s).state; quota = paid (pass_of s).answer 1 q i }
      → channel_pass_of q i s ≡ record { answer = (Ok Changed); state = (pass_of s).state; quota = charged q i }
  paid_changed c p = p ∙ rw c

  pub continues : (channel_pass_of q i s).answer ≡ Ok Changed → Continues q i s
  continues e = by (channel_way q i s)
    where
      none : {r : Refusal} → channel_pass_of q i s ≡ unmade r s q → Continues q i s
      none {r} p = absurd (let y : Err r ≡ (Ok Changed) = rw p at e in let z : ◌≡◌ {A = ℕ} 0 1 = cc in omega arith)

      by : ChannelWay q i s → Continues q i s
      by (barred r rule p) = none p
      by (unready rule r x p) = none p
      by (spent_out_lem rule r z l p) = none p
      by (resting rule r z p) = absurd (let y : (Ok Stable) ≡ (Ok Changed) = rw p at e in let x : ◌≡◌ {A = ℕ} 0 1 = cc in omega arith)
      by (paying rule r z l p) =
          let c : (pass_of s).answer ≡ (Ok Changed) = sym (ap (λ (o : ChannelOutcome). o.answer) p) ∙ e in
          record { rule = rule; some = l; loaded = z; change = c; outcome = paid_changed c p }

  -- a pass that changes pixels, with a pass left to pay for it, and without
  module _ (rule : channel_rule q i ≡ Ok tt) (c : (pass_of s).answer ≡ Ok Changed) where
    abbrev made : Changes s
    made = changed s c

    pub continues_on : 0 < available q i → Continues q i s
    continues_on l = record {
      rule = rule;
      some = l;
      loaded = made.begun;
      change = c;
      outcome = paid_changed c (some_left q i s rule (ready_accepted made.before) made.begun l);
    }

    pub stops_short : available q i ≡ 0 → channel_pass_of q i s ≡ unmade (refusal why.AllowanceSpent i) s q
    stops_short = none_left q i s rule (ready_accepted made.before) made.begun

  pub handed_back : (r : Refusal) → (channel_pass_of q i s).answer ≡ Err r → (channel_pass_of q i s).quota ≡ q
  handed_back r e = by (channel_way q i s)
    where
      by : ChannelWay q i s → (channel_pass_of q i s).quota ≡ q
      by (barred x rule p) = ap (λ (o : ChannelOutcome). o.quota) p
      by (unready rule x y p) = ap (λ (o : ChannelOutcome). o.quota) p
      by (spent_out_lem rule x z l p) = ap (λ (o : ChannelOutcome). o.quota) p
      by (resting rule x z p) = ap (λ (o : ChannelOutcome). o.quota) p
      by (paying rule x z l p) =
          let c : (pass_of s).answer ≡ Err r = sym (ap (λ (o : ChannelOutcome). o.answer) p) ∙ e in
          ap (λ (o : ChannelOutcome). o.quota) p ∙ rw c
