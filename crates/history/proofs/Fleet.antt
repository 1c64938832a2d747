-- The channels of a quota together (02, T-10), proved.
--     Shared q c f                    the quota c, of which f was spent, is what is left of the quota q
--     shared_opened, shared_spent     so it is when it was opened, and after a channel's call
--     put_same, put_here, put_other   one channel's value set
--     spent_sum_lem                       what all channels spent, after one of them
--     pass_paid, run_paid             a channel's call takes from the quota what its history says
--     Sound q a b F                   the courses are those of lists of calls, and the quota is shared
--     sound_moved                     so it is after every list of moves
--     after_round, only_24, rounds    the claims
-- Assumes nothing.
use Rattle.std.specs.Prelude.{Ok, Err}
use mathlib.Core.Bool.{Bool, true, false, cond}
use mathlib.Core.List.{List, [], ◌∷◌, ◌++◌}
use mathlib.Core.Logic.{inl, inr, ⊎_elim, ◌≢◌}
use mathlib.Core.Path.{◌≡◌, refl, sym, ap, ◌∙◌, subst}
use Prim.Native.Nat.{ℕ, zero, suc, ◌+◌, ◌-◌, ◌*◌, ◌≤◌, ◌<◌}
use native.Mathlib.Omega.{arith}
use borrow.Author.Tests.{eqb-true, eqb-false, eq-eqb, ne_eqb, le-ltb}
use lib.Dec.{eqb}
use lib.ListN.{get_or}
use Rattle.history.specs.declared.Quota.{Quota}
use Rattle.history.specs.Call.{Call, channel_pass, channel_run, answer_of, refusal_of}
use Rattle.history.specs.Channel.{ChannelOutcome, channel_pass_of, channel_run_of}
use Rattle.history.specs.Demand3.{AfterList, played, lent}
use Rattle.history.specs.Fleet.{Fleet, begun, Move, passes, runs, own, renew, spent_as, put, perform, moved, AfterRound, PlainBut24, SameBut24, Rounds}
use Rattle.history.specs.History.{Entry, History, empty, holds, Lengths, passes_of_run, needed, spends, refused_by}
use Rattle.history.specs.Lists.{Course, start, step}
use Rattle.history.specs.Pass.{Outcome, pass_of}
use Rattle.history.specs.Quota.{max_channels, kept, open_verdict, open_quota, lacks, channel_rule, left_of, reserve_of, available, charged_for}
use Rattle.history.specs.Run.{run_of}
use Rattle.history.specs.State.{State}
use Rattle.history.proofs.ChannelPasses.{channel_barred}
use Rattle.history.proofs.ChannelRuns.{run_unmade, unmetered}
use Rattle.history.proofs.Demand3.{demand_3}
use Rattle.history.proofs.Lists.{play_append}
use Rattle.history.proofs.Quotas.{rule_range, shape_charged_for, left_charged_for, left_other_for, total, total_charged_for, opened_accepted, opened_unread, opened_again, opened_fits}
use Rattle.history.proofs.Run.{few_passes}
use Rattle.seq.proofs.Lists.{either}
use Rattle.seq.specs.Lists.{sum_of}
use Rattle.seq.specs.Tab.{tab}
use Rattle.verdict.specs.Answers.{verdict_of}
use Rattle.verdict.proofs.Rules.{refused_accepted}
use Rattle.verdict.specs.Rules.{Verdict}

-- what all channels spent
abbrev spent_sum : (ℕ → ℕ) → ℕ
spent_sum f = sum_of (tab (λ k. f (k + 1)) max_channels)

record Shared (q c : Quota) (f : ℕ → ℕ) : Type 0 where
  channels : c.channels ≡ q.channels
  allowance : c.allowance ≡ q.allowance
  reserves : c.reserves ≡ kept q
  left : (k : ℕ) → get_or c.left k 0 ≡ get_or (kept q) k 0 - f (k + 1)
  all : spent_sum f + total c ≡ q.allowance

shared_opened : (q : Quota) → open_verdict q ≡ Ok tt → Shared q (open_quota q) (λ i. 0)
shared_opened q ok =
    rw (opened_accepted q ok)
    (record { channels = refl; allowance = refl; reserves = refl; left = λ k. omega arith; all = omega (arith, opened_fits q ok) })

-- one channel's value set
module _ {ℓ} {A : Type ℓ} (i : ℕ) (x : A) (f : ℕ → A) where
  put_here : put i x f i ≡ x
  put_here = rw (eq-eqb i i refl)

  put_other : (j : ℕ) → j ≢ i → put i x f j ≡ f j
  put_other j n = rw (ne_eqb j i n)

put_same : (i : ℕ) (f : ℕ → ℕ) (j : ℕ) → put i (f i + 0) f j ≡ f j
put_same i f j = ⊎_elim (λ e. rw e (let same : f i ≡ f j = ap f (sym (eqb-true j i e)) in omega arith)) (λ e. rw e) (either (eqb j i))

-- what all channels spent, after n more of one of them
spent_sum_lem : (i n : ℕ) (f : ℕ → ℕ) → 1 ≤ i → i ≤ max_channels → spent_sum (put i (f i + n) f) ≡ spent_sum f + n
spent_sum_lem zero n f l m = absurd (omega arith)
spent_sum_lem (suc zero) n f l m = omega arith
spent_sum_lem (suc (suc zero)) n f l m = omega arith
spent_sum_lem (suc (suc (suc zero))) n f l m = omega arith
spent_sum_lem (suc (suc (suc (suc zero)))) n f l m = omega arith
spent_sum_lem (suc (suc (suc (suc (suc i))))) n f l m = absurd (omega arith)

spent_none : (i : ℕ) (f : ℕ → ℕ) → spent_sum (put i (f i + 0) f) ≡ spent_sum f
spent_none i f = rw (put_same i f 1, put_same i f 2, put_same i f 3, put_same i f 4)

-- a channel's call takes n of what it has
module _ {q c : Quota} {f : ℕ → ℕ} (x : Shared q c f) (i n : ℕ) where
  left_after : channel_rule c i ≡ Ok tt → (k : ℕ) → get_or (charged_for n c i).left k 0 ≡ get_or (kept q) k 0 - put i (f i + n) f (k + 1)
  left_after rule k = ⊎_elim here there (either (eqb k (i - 1)))
    where
      low : 1 ≤ i
      low = (rule_range c i rule).0

      here : eqb k (i - 1) ≡ true → get_or (charged_for n c i).left k 0 ≡ get_or (kept q) k 0 - put i (f i + n) f (k + 1)
      here e =
          let at : k ≡ i - 1 = eqb-true k (i - 1) e in
          let next : i - 1 + 1 ≡ i = omega (arith, low) in
          let had : get_or c.left (i - 1) 0 ≡ get_or (kept q) (i - 1) 0 - f i = x.left (i - 1) ∙ ap (λ (j : ℕ). get_or (kept q) (i - 1) 0 - f j) next in
          let more : put i (f i + n) f (i - 1 + 1) ≡ f i + n = ap (put i (f i + n) f) next ∙ put_here i (f i + n) f in
          rw (at, more) (left_charged_for n c i ∙ rw had (omega arith))

      there : eqb k (i - 1) ≡ false → get_or (charged_for n c i).left k 0 ≡ get_or (kept q) k 0 - put i (f i + n) f (k + 1)
      there e =
          let apart = eqb-false k (i - 1) e in
          let past : k + 1 ≢ i = λ z. apart (omega arith) in
          left_other_for n c i k apart ∙ x.left k ∙ ap (λ (m : ℕ). get_or (kept q) k 0 - m) (sym (put_other i (f i + n) f (k + 1) past))

  shared_spent : channel_rule c i ≡ Ok tt → n ≤ available c i → Shared q (charged_for n c i) (put i (f i + n) f)
  shared_spent rule l =
      let s = shape_charged_for n c i in
      let r = rule_range c i rule in
      record {
        channels = s.channels ∙ x.channels;
        allowance = s.allowance ∙ x.allowance;
        reserves = s.reserves ∙ x.reserves;
        left = left_after rule;
        all = let t = total_charged_for n c i l in let u = spent_sum_lem i n f r.0 (omega arith) in omega (arith, x.all);
      }

-- a call that spends nothing
shared_same : {q c : Quota} {f : ℕ → ℕ} → Shared q c f → (i : ℕ) → Shared q c (put i (f i + 0) f)
shared_same {q} {c} {f} x i = record {
  channels = x.channels;
  allowance = x.allowance;
  reserves = x.reserves;
  left = λ k. x.left k ∙ ap (λ (m : ℕ). get_or (kept q) k 0 - m) (sym (put_same i f (k + 1)));
  all = let u = spent_none i f in omega (arith, x.all);
}

-- what the quota is after a channel's pass, and after its run, by the history
module _ {n : Lengths} {w : Course} (d : AfterList n w) (c : Quota) (i : ℕ) where
  pass_paid : (v : Verdict) → channel_rule c i ≡ v → (H : History) → w.history ≡ H
      → (channel_pass_of c i w.state).quota ≡ charged_for (spent_as v (λ e. 1) c i H) c i
  pass_paid (Ok _) k empty h = (d.quota_back c i (inl h)).0
  pass_paid (Ok _) k (holds e) h = (d.channel_as_passes e h c i k).pass_quota
  pass_paid (Err r) k H h = (d.quota_back c i (inr (refused_accepted k))).0

  run_paid : (v : Verdict) → channel_rule c i ≡ v → (H : History) → w.history ≡ H
      → (channel_run_of c i w.state).quota ≡ charged_for (spent_as v (λ e. e.width * e.height + 1) c i H) c i
  run_paid (Ok _) k empty h = (d.quota_back c i (inl h)).1
  run_paid (Ok _) k (holds e) h = (d.channel_as_passes e h c i k).run_quota
  run_paid (Err r) k H h = (d.quota_back c i (inr (refused_accepted k))).1

-- it spends no more than it has, and by 25 nothing
shared_paid : {q c : Quota} {f : ℕ → ℕ} → Shared q c f → (i : ℕ) (most : Entry → ℕ) (v : Verdict) → channel_rule c i ≡ v → (H : History)
    → Shared q (charged_for (spent_as v most c i H) c i) (put i (f i + spent_as v most c i H) f)
shared_paid x i most (Ok _) k empty = shared_same x i
shared_paid {q} {c} x i most (Ok _) k (holds e) = shared_spent x i (spends (most e) c i e) k (omega arith)
shared_paid x i most (Err r) k H = shared_same x i

record Sound (q : Quota) (a b : ℕ → List ℕ) (F : Fleet) : Type 0 where
  alone : (i : ℕ) → (cs : List Call) × (F.courses i ≡ played cs (a i) (b i))
  shared : Shared q F.quota F.spent

-- demand 3 of one channel
each : {q : Quota} {a b : ℕ → List ℕ} {F : Fleet} → Sound q a b F → (i : ℕ) → AfterList (lent (a i) (b i)) (F.courses i)
each {a = a} {b = b} x i = let (cs, e) = x.alone i in subst (AfterList (lent (a i) (b i))) (sym e) (demand_3.after_list cs (a i) (b i))

-- one call more on one channel's job
one_more : (a b : ℕ → List ℕ) {f : ℕ → Course} → ((i : ℕ) → (cs : List Call) × (f i ≡ played cs (a i) (b i))) → (i : ℕ) (c : Call) (j : ℕ)
    → (cs : List Call) × (put i (step c (f i)) f j ≡ played cs (a j) (b j))
one_more a b {f} x i c j = ⊎_elim here there (either (eqb j i))
  where
    here : eqb j i ≡ true → (cs : List Call) × (put i (step c (f i)) f j ≡ played cs (a j) (b j))
    here e =
        let same : i ≡ j = sym (eqb-true j i e) in
        let (cs, p) = x j in
        (cs ++ c ∷ [], rw e (ap (λ (k : ℕ). step c (f k)) same ∙ ap (step c) p ∙ play_append cs (c ∷ []) (start (a j) (b j))))

    there : eqb j i ≡ false → (cs : List Call) × (put i (step c (f i)) f j ≡ played cs (a j) (b j))
    there e = let (cs, p) = x j in (cs, rw e p)

-- a pass needs one at most
one_at_most : (e : Entry) → needed 1 e ≤ 1
one_at_most e = pick e.settled (passes_of_run 1 e) (few_passes 1 e)
  where
    pick : (b : Bool) (n : ℕ) → n ≤ 1 → cond b 0 n ≤ 1
    pick true n l = omega arith
    pick false n l = l

module _ (q : Quota) (ok : open_verdict q ≡ Ok tt) (a b : ℕ → List ℕ) where
  again : {c : Quota} {f : ℕ → ℕ} → Shared q c f → open_quota c ≡ open_quota q
  again {c} x = opened_again q c x.channels x.allowance x.reserves ok

  sound_perform : (m : Move) (F : Fleet) → Sound q a b F → Sound q a b (perform m F)
  unfolding perform
  sound_perform (passes i) F x = record {
    alone = one_more a b x.alone i (channel_pass F.quota i);
    shared =
        rw (pass_paid (each x i) F.quota i (channel_rule F.quota i) refl (F.courses i).history refl)
        (shared_paid x.shared i (λ e. 1) (channel_rule F.quota i) refl (F.courses i).history);
  }
  sound_perform (runs i) F x = record {
    alone = one_more a b x.alone i (channel_run F.quota i);
    shared =
        rw (run_paid (each x i) F.quota i (channel_rule F.quota i) refl (F.courses i).history refl)
        (shared_paid x.shared i (λ e. e.width * e.height + 1) (channel_rule F.quota i) refl (F.courses i).history);
  }
  sound_perform (own i c) F x = record { alone = one_more a b x.alone i c; shared = x.shared }
  sound_perform renew F x = record { alone = x.alone; shared = rw (again x.shared) (shared_opened q ok) }

  sound_moved : (ms : List Move) (F : Fleet) → Sound q a b F → Sound q a b (moved ms F)
  sound_moved [] F x = x
  sound_moved (m ∷ ms) F x = sound_moved ms (perform m F) (sound_perform m F x)

  sound_begun : Sound q a b (begun q a b)
  unfolding begun
  sound_begun = record { alone = λ i. ([], refl); shared = shared_opened q ok }

  module _ (F : Fleet) (x : Sound q a b F) where
    reserved : (i : ℕ) → reserve_of (open_quota q) i ≡ get_or (kept q) (i - 1) 0
    reserved i = rw (opened_accepted q ok)

    reserve : (i : ℕ) → channel_rule F.quota i ≡ Ok tt → left_of F.quota i ≡ reserve_of (open_quota q) i - F.spent i
    reserve i rule =
        let next : i - 1 + 1 ≡ i = omega (arith, (rule_range F.quota i rule).0) in
        x.shared.left (i - 1) ∙ ap (λ (j : ℕ). get_or (kept q) (i - 1) 0 - F.spent j) next ∙ ap (λ (n : ℕ). n - F.spent i) (sym (reserved i))

    -- a channel with n passes of its reserve left has n passes left
    within_reserve : (i n : ℕ) → channel_rule F.quota i ≡ Ok tt → F.spent i + n ≤ reserve_of (open_quota q) i → n ≤ available F.quota i
    unfolding available
    within_reserve i n rule l = let r = reserve i rule in omega arith

    usable_pass : (i : ℕ) (e : Entry) → channel_rule F.quota i ≡ Ok tt → (F.courses i).history ≡ holds e → F.spent i < reserve_of (open_quota q) i
        → refusal_of (answer_of (channel_pass F.quota i) (F.courses i).state) ≡ Ok tt
    unfolding refused_by
    usable_pass i e rule h l =
        let some = within_reserve i 1 rule (omega arith) in
        (each x i).refused (channel_pass F.quota i) ∙ rw (h, rule, le-ltb (available F.quota i) (needed 1 e) (omega (arith, one_at_most e)))

    usable_run : (i : ℕ) (e : Entry) → channel_rule F.quota i ≡ Ok tt → (F.courses i).history ≡ holds e
        → F.spent i + needed (e.width * e.height + 1) e ≤ reserve_of (open_quota q) i
        → refusal_of (answer_of (channel_run F.quota i) (F.courses i).state) ≡ Ok tt
    unfolding refused_by
    usable_run i e rule h l =
        let some = within_reserve i (needed (e.width * e.height + 1) e) rule l in
        (each x i).refused (channel_run F.quota i) ∙ rw (h, rule, le-ltb (available F.quota i) (needed (e.width * e.height + 1) e) some)

    sound_round : AfterRound q a b F
    sound_round = record {
      alone = x.alone;
      each = each x;
      own = λ i e h. (each x i).passed e h;
      reserve = reserve;
      usable_pass = usable_pass;
      usable_run = usable_run;
      within_allowance = x.shared.all;
      channels = x.shared.channels;
      renewed = again x.shared;
    }

-- the same refusal, or 24
same_but : (i : ℕ) (o o' : ChannelOutcome) (p : Outcome) → PlainBut24 i o p → PlainBut24 i o' p
    → SameBut24 i (verdict_of o.answer) (verdict_of o'.answer)
same_but i o o' p (inl e) y = inr (inl (ap verdict_of e))
same_but i o o' p (inr e) (inl e') = inr (inr (ap verdict_of e'))
same_but i o o' p (inr e) (inr e') = inl (ap verdict_of (e.0 ∙ sym e'.0))

module _ (q q' : Quota) (i : ℕ) (s : State) (same : q.channels ≡ q'.channels) where
  same_rule : channel_rule q i ≡ channel_rule q' i
  unfolding channel_rule lacks
  same_rule = rw same

  only_24 : (v : Verdict) → channel_rule q i ≡ v → SameBut24 i (refusal_of (answer_of (channel_pass q i) s)) (refusal_of (answer_of (channel_pass q' i) s))
      × SameBut24 i (refusal_of (answer_of (channel_run q i) s)) (refusal_of (answer_of (channel_run q' i) s))
  unfolding answer_of
  only_24 (Ok tt) k =
      let u = unmetered q i s k in
      let u' = unmetered q' i s (sym same_rule ∙ k) in (
        same_but i (channel_pass_of q i s) (channel_pass_of q' i s) (pass_of s) u.pass_plain u'.pass_plain,
        same_but i (channel_run_of q i s) (channel_run_of q' i s) (run_of s) u.run_plain u'.run_plain,
      )
  only_24 (Err r) k =
      let p = channel_barred q i s k in
      let p' = channel_barred q' i s (sym same_rule ∙ k) in (
        inl (ap (λ (o : ChannelOutcome). verdict_of o.answer) p ∙ sym (ap (λ (o : ChannelOutcome). verdict_of o.answer) p')),
        inl (ap (λ (o : ChannelOutcome). verdict_of o.answer) (run_unmade q i s p) ∙ sym (ap (λ (o : ChannelOutcome). verdict_of o.answer) (run_unmade q' i s p'))),
      )

pub rounds : Rounds
rounds = record {
  after_round = λ q ok a b ms. sound_round q ok a b (moved ms (begun q a b)) (sound_moved q ok a b ms (begun q a b) (sound_begun q ok a b));
  unmetered = unmetered;
  only_24_pass = λ q q' i s same. (only_24 q q' i s same (channel_rule q i) refl).0;
  unread = opened_unread;
  only_24_run = λ q q' i s same. (only_24 q q' i s same (channel_rule q i) refl).1;
}
