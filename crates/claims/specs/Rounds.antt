-- 02, T-10: four lanes, one allowance. A round is a quota, its lanes are channels, a floor is a reserve.
--     open_refused, opened, unread, open_handed_back     a quota is opened: 25, and what is left then
--     reserve_first, pool_next                   what one pass takes: from the reserve first
--     accepted_pass, paid, rest_free             an accepted pass, which spends one at stage 1 and none at rest
--     channel_order, no_channel_refused          25, 14, 16, 24 in this order, and 25 under its condition
--     spent_pass, spent_run, overruns_pass, overruns_run     24, and 14's pass clause after it
--     handed_back, run_ends                      what a refused call hands back: the quota as it was, less the finished passes of a run
--     pass_singly, run_singly, pass_quota, run_quota, quota_back     in every list of calls on a job
--     pass_refused_by, run_refused_by, rest_answers     what the book says of a channel's call; a stable image that was loaded
--     alone, each, own, reserve, usable_pass, usable_run, within_allowance, renewed     all channels together, after any list of moves
--     pass_plain, run_plain, only_24_pass, only_24_run     a channel depends on the others by 24 alone
--     openings, bad_openings_computed                     quotas opened, and refused, computed
-- Assumes nothing.
use Rattle.std.specs.Prelude.{cond, not, ◌||◌, List, [], ◌∷◌, ◌++◌, map, ◌⊎◌, ◌≢◌, ◌≡◌, ℕ, ◌+◌, ◌-◌, ◌*◌, ◌≤◌, ◌<◌, min, ltb, eqb, get_or, replicate, set, Ok, Err}
use Rattle.verdict.specs.declared.Rule.TheVariants as why
use Rattle.std.proofs.Math.Logic.{⊎_elim}
use Rattle.std.proofs.Math.Path.{refl, ap}
use Rattle.std.proofs.Common.{◌∙◌}
use native.Mathlib.Omega.{arith}
use borrow.Author.Tests.{lt-ltb}
use Rattle.claims.specs.Demand3.{course, state}
use Rattle.history.proofs.Demand1.{demand_1}
use Rattle.history.proofs.Demand3.{demand_3}
use Rattle.history.proofs.Fleet as together
use Rattle.history.specs.Answers.{Passed}
use Rattle.history.specs.declared.Effect.TheVariants.{Changed, Stable}
use Rattle.history.specs.declared.Quota.{Quota}
use Rattle.history.specs.Call.{Call, pass, channel_pass, channel_run, passed, answer_of, refusal_of}
use Rattle.history.specs.Channel as paying
use Rattle.history.specs.Channel.{channel_verdict, channel_as, channel_pass_of, channel_run_of}
use Rattle.history.specs.ChannelCases as cases
use Rattle.history.specs.Demand1.{after_passes, no_channel, spent, stopped}
use Rattle.history.specs.Demand3.{AfterList}
use Rattle.history.specs.Fleet.{Fleet, Move, begun, moved}
use Rattle.history.specs.History.{Entry, empty, holds, needed, refused_by}
use Rattle.history.specs.Lists.{start, lengths_of, step, play, first_of}
use Rattle.history.specs.Pass.{pass_of}
use Rattle.history.specs.Quota.{kept, open_verdict, open_quota, lacks, channel_rule, available, charged, charged_for}
use Rattle.history.specs.Run.{run_of}
use Rattle.history.specs.Sound.{Unsound, Overruns}
use Rattle.history.specs.State.{State, pixels, sound_rule, loaded_rule}
use Rattle.history.specs.View.{view_of}
use Rattle.image.specs.Size.{within}
use Rattle.operator.specs.Pass as operator
use Rattle.seq.specs.Lists.{sum_of}
use Rattle.seq.specs.Tab.{tab}
use Rattle.verdict.specs.Rules.{refusal, refuse_if, judge, Verdict, Refusal}

-- a quota is opened: those past the channels are unread, and what the reserves leave is the pool
module _ (q : Quota) where
  abbrev reserves : List ℕ
  reserves = tab (λ k. cond (ltb k q.channels) (get_or q.reserves k 0) 0) 4

  pub open_refused : open_verdict q ≡ refuse_if (not (within 4 q.channels) || ltb q.allowance (sum_of reserves)) why.QuotaRange 0
  unfolding open_verdict kept
  open_refused = refl

  pub opened : open_verdict q ≡ Ok tt
      → open_quota q ≡ record { channels = q.channels; allowance = q.allowance; reserves = reserves; left = reserves; pool = q.allowance - sum_of reserves }
  unfolding open_quota kept
  opened ok = rw ok

  pub unread : (p : Quota) → q.channels ≡ p.channels → q.allowance ≡ p.allowance
      → ((k : ℕ) → k < q.channels → get_or q.reserves k 0 ≡ get_or p.reserves k 0)
      → (open_verdict q ≡ open_verdict p) × (open_verdict q ≡ Ok tt → open_quota q ≡ open_quota p)
  unread = (together.rounds).unread q

  pub open_handed_back : (r : Refusal) → open_verdict q ≡ Err r → open_quota q ≡ q
  unfolding open_quota
  open_handed_back r bad = rw bad

-- what one pass takes: from the channel's reserve first
module _ (q : Quota) (i : ℕ) where
  pub reserve_first : (n : ℕ) → get_or q.left (i - 1) 0 ≡ n + 1
      → charged q i ≡ record { channels = q.channels; allowance = q.allowance; reserves = q.reserves; left = set q.left (i - 1) n; pool = q.pool }
  unfolding charged
  reserve_first n e = let d : n + 1 - 1 ≡ n = omega arith in rw (e, lt-ltb 0 (n + 1) (omega arith), d)

  pub pool_next : get_or q.left (i - 1) 0 ≡ 0
      → charged q i ≡ record { channels = q.channels; allowance = q.allowance; reserves = q.reserves; left = q.left; pool = q.pool - 1 }
  unfolding charged
  pool_next e = rw e

-- any record, areas and quota
module _ (q : Quota) (i : ℕ) (s : State) where
  pub channel_order : channel_verdict q i s
      ≡ judge (
      refuse_if (ltb 4 q.channels || not (within q.channels i)) why.QuotaRange 0
      ∷ sound_rule s
      ∷ loaded_rule s
      ∷ refuse_if (ltb (get_or q.left (i - 1) 0 + q.pool) (cond (eqb s.job.stage 1) 1 0)) why.AllowanceSpent i
      ∷ []
      )
  unfolding channel_verdict channel_rule lacks available
  channel_order = refl

  -- past them it is a pass, and a quota pays for one that is accepted at stage 1, quiet or not
  pub accepted_pass : channel_verdict q i s ≡ Ok tt → ((channel_pass_of q i s).answer ≡ (pass_of s).answer) × ((channel_pass_of q i s).state ≡ (pass_of s).state)
  unfolding channel_pass_of
  accepted_pass ok = rw ok (refl, refl)

  pub paid : channel_verdict q i s ≡ Ok tt → s.job.stage ≡ 1 → ((pass_of s).answer ≡ Ok Changed) ⊎ ((pass_of s).answer ≡ Ok Stable)
      → (channel_pass_of q i s).quota ≡ charged q i
  unfolding channel_pass_of
  paid ok z a =
      ap (λ (v : Verdict). (channel_as v q i s).quota) ok
      ∙ ap (λ (k : ℕ). paying.paid (pass_of s).answer (cond (eqb k 1) 1 0) q i) z
      ∙ ⊎_elim (ap (λ (x : Passed). paying.paid x 1 q i)) (ap (λ (x : Passed). paying.paid x 1 q i)) a

  pub rest_free : s.job.stage ≡ 2 → (channel_pass_of q i s).quota ≡ q
  unfolding channel_pass_of
  rest_free z = by (channel_verdict q i s)
    where
      free : (a : Passed) → paying.paid a 0 q i ≡ q
      free (Ok Changed) = refl
      free (Ok Stable) = refl
      free (Err r) = refl

      by : (v : Verdict) → (channel_as v q i s).quota ≡ q
      by (Ok _) = ap (λ (k : ℕ). paying.paid (pass_of s).answer (cond (eqb k 1) 1 0) q i) z ∙ free (pass_of s).answer
      by (Err r) = refl

  -- 25 under its condition, before all else
  pub no_channel_refused : channel_rule q i ≢ Ok tt
      → (refusal_of (answer_of (channel_pass q i) s) ≡ Err (refusal why.QuotaRange 0)) × (refusal_of (answer_of (channel_run q i) s) ≡ Err (refusal why.QuotaRange 0))
  no_channel_refused n = (demand_1.given (channel_pass q i) s why.QuotaRange (no_channel n), demand_1.given (channel_run q i) s why.QuotaRange (no_channel n))

  -- 24 at the channel, where a pass, alone or in a run, meets stage 1 and none is left
  pub spent_pass : channel_rule q i ≡ Ok tt → (Unsound s → ⊥) → s.job.stage ≡ 1 → available q i ≡ 0
      → refusal_of (answer_of (channel_pass q i) s) ≡ Err (refusal why.AllowanceSpent i)
  spent_pass k u z l = demand_1.given (channel_pass q i) s why.AllowanceSpent (spent (k, u, z, l))

  pub spent_run : channel_rule q i ≡ Ok tt → (Unsound s → ⊥) → s.job.stage ≡ 1
      → ((j : ℕ) → j < available q i → (pass_of (after_passes j s)).answer ≡ Ok Changed) → refusal_of (answer_of (channel_run q i) s) ≡ Err (refusal why.AllowanceSpent i)
  spent_run k u z g = demand_1.given (channel_run q i) s why.AllowanceSpent (spent (k, u, z, g))

  -- 14's pass clause, where one is left
  pub overruns_pass : channel_rule q i ≡ Ok tt → 0 < available q i → Overruns s → refusal_of (answer_of (channel_pass q i) s) ≡ Err (refusal why.Unsound 0)
  overruns_pass k l o = demand_1.given (channel_pass q i) s why.Unsound (stopped (k, l, o))

  pub overruns_run : channel_rule q i ≡ Ok tt → (n : ℕ) → n < available q i → ((j : ℕ) → j < n → (pass_of (after_passes j s)).answer ≡ Ok Changed)
      → Overruns (after_passes n s) → refusal_of (answer_of (channel_run q i) s) ≡ Err (refusal why.Unsound 0)
  overruns_run k n l g o = demand_1.given (channel_run q i) s why.Unsound (stopped (k, (n, l, g, o)))

  -- a refused pass hands the quota back as it was; a run is its finished passes, each paid for, and then a pass that rests or is refused
  pub handed_back : (r : Refusal) → (channel_pass_of q i s).answer ≡ Err r → (channel_pass_of q i s).quota ≡ q
  handed_back = demand_1.handed_back q i s

  pub run_ends : (k : ℕ) × (k ≤ pixels s.job) × ((j : ℕ) → j < k → (pass_of (after_passes j s)).answer ≡ Ok Changed)
      × (channel_run_of q i s ≡ channel_pass_of (charged_for k q i) i (after_passes k s)) × ((channel_run_of q i s).answer ≢ Ok Changed)
  run_ends =
      let e = demand_1.channel_ends q i s in
      (e.finished, e.few, e.goes, e.last, e.ends)

  -- refused by 24, or as the plain call in answer, record and areas
  module _ (rule : channel_rule q i ≡ Ok tt) where
    pub pass_plain : ((channel_pass_of q i s).answer ≡ Err (refusal why.AllowanceSpent i))
        ⊎ (((channel_pass_of q i s).answer ≡ (pass_of s).answer) × ((channel_pass_of q i s).state ≡ (pass_of s).state))
    pass_plain = ((together.rounds).unmetered q i s rule).pass_plain

    pub run_plain : ((channel_run_of q i s).answer ≡ Err (refusal why.AllowanceSpent i))
        ⊎ (((channel_run_of q i s).answer ≡ (run_of s).answer) × ((channel_run_of q i s).state ≡ (run_of s).state))
    run_plain = ((together.rounds).unmetered q i s rule).run_plain

-- of two quotas with equally many channels: the same refusal, or one of them is 24
module _ (q q' : Quota) (i : ℕ) (s : State) (same : q.channels ≡ q'.channels) where
  pub only_24_pass : (refusal_of (answer_of (channel_pass q i) s) ≡ refusal_of (answer_of (channel_pass q' i) s))
      ⊎ ((refusal_of (answer_of (channel_pass q i) s) ≡ Err (refusal why.AllowanceSpent i)) ⊎ (refusal_of (answer_of (channel_pass q' i) s) ≡ Err (refusal why.AllowanceSpent i)))
  only_24_pass = (together.rounds).only_24_pass q q' i s same

  pub only_24_run : (refusal_of (answer_of (channel_run q i) s) ≡ refusal_of (answer_of (channel_run q' i) s))
      ⊎ ((refusal_of (answer_of (channel_run q i) s) ≡ Err (refusal why.AllowanceSpent i)) ⊎ (refusal_of (answer_of (channel_run q' i) s) ≡ Err (refusal why.AllowanceSpent i)))
  only_24_run = (together.rounds).only_24_run q q' i s same

-- in every list of calls on a job, with any quota
module _ (cs : List Call) (a b : List ℕ) (q : Quota) (i : ℕ) where
  pub quota_back : ((course cs a b).history ≡ empty) ⊎ (channel_rule q i ≢ Ok tt)
      → ((channel_pass_of q i (state cs a b)).quota ≡ q) × ((channel_run_of q i (state cs a b)).quota ≡ q)
  quota_back = (demand_3.after_list cs a b).quota_back q i

  module _ (e : Entry) (h : (course cs a b).history ≡ holds e) where
    -- the passes that a run needs: the changing ones, and one that rests
    abbrev most : ℕ
    most = e.width * e.height + 1

    -- 24 and 25 follow from the quota
    pub pass_refused_by : refusal_of (answer_of (channel_pass q i) (state cs a b)) ≡ judge (channel_rule q i ∷ refuse_if (ltb (available q i) (needed 1 e)) why.AllowanceSpent i ∷ [])
    unfolding refused_by
    pass_refused_by = rw h at ((demand_3.after_list cs a b).refused (channel_pass q i))

    pub run_refused_by : refusal_of (answer_of (channel_run q i) (state cs a b)) ≡ judge (channel_rule q i ∷ refuse_if (ltb (available q i) (needed most e)) why.AllowanceSpent i ∷ [])
    unfolding refused_by
    run_refused_by = rw h at ((demand_3.after_list cs a b).refused (channel_run q i))

    module _ (rule : channel_rule q i ≡ Ok tt) where
      -- at rest one pass that spends nothing; else as many as are needed, or as are left
      abbrev made : ℕ → ℕ
      made n = cond e.settled 1 (min (available q i) (needed n e))

      pub pass_singly : step (channel_pass q i) (course cs a b) ≡ play (replicate (made 1) pass) (course cs a b)
      pass_singly = ((demand_3.after_list cs a b).channel_as_passes e h q i rule).pass_singly

      pub run_singly : step (channel_run q i) (course cs a b) ≡ play (replicate (made most) pass) (course cs a b)
      run_singly = ((demand_3.after_list cs a b).channel_as_passes e h q i rule).run_singly

      pub pass_quota : (channel_pass_of q i (state cs a b)).quota ≡ charged_for (min (available q i) (needed 1 e)) q i
      pass_quota = ((demand_3.after_list cs a b).channel_as_passes e h q i rule).pass_quota

      pub run_quota : (channel_run_of q i (state cs a b)).quota ≡ charged_for (min (available q i) (needed most e)) q i
      run_quota = ((demand_3.after_list cs a b).channel_as_passes e h q i rule).run_quota

    -- a stable image that was loaded
    pub rest_answers : operator.pass e.table e.width e.height (first_of e) ≡ first_of e
        → (refusal_of (answer_of (channel_pass q i) (state cs a b)) ≡ Ok tt → answer_of (channel_pass q i) (state cs a b) ≡ passed (Ok Stable))
        × (refusal_of (answer_of (channel_run q i) (state cs a b)) ≡ Ok tt → answer_of (channel_run q i) (state cs a b) ≡ passed (Ok Stable))
    rest_answers s = let r = demand_3.rests cs a b e h s in (r.channel_pass_answer q i, r.channel_run_answer q i)

-- all channels together: any list of moves from a quota that was opened, each channel with areas of its own
module _ (q : Quota) (ok : open_verdict q ≡ Ok tt) (a b : ℕ → List ℕ) (ms : List Move) (i : ℕ) where
  abbrev F : Fleet
  F = moved ms (begun q a b)

  abbrev own_reserve : ℕ
  own_reserve = get_or (open_quota q).reserves (i - 1) 0

  -- its course is that of a list of calls on its own job, so demand 3 holds for it
  pub alone : (cs : List Call) × (F.courses i ≡ course cs (a i) (b i))
  alone = ((together.rounds).after_round q ok a b ms).alone i

  pub each : AfterList (lengths_of (start (a i) (b i)).state) (F.courses i)
  each = ((together.rounds).after_round q ok a b ms).each i

  pub own : (e : Entry) → (F.courses i).history ≡ holds e
      → view_of (F.courses i).state ≡ operator.passes e.table e.width e.height (F.courses i).tally (first_of e)
  own = ((together.rounds).after_round q ok a b ms).own i

  -- a channel that the quota has
  module _ (rule : channel_rule F.quota i ≡ Ok tt) where
    pub reserve : get_or F.quota.left (i - 1) 0 ≡ own_reserve - F.spent i
    reserve = ((together.rounds).after_round q ok a b ms).reserve i rule

    pub usable_pass : (e : Entry) → (F.courses i).history ≡ holds e → F.spent i < own_reserve
        → refusal_of (answer_of (channel_pass F.quota i) (F.courses i).state) ≡ Ok tt
    usable_pass e = ((together.rounds).after_round q ok a b ms).usable_pass i e rule

    pub usable_run : (e : Entry) → (F.courses i).history ≡ holds e → F.spent i + needed (e.width * e.height + 1) e ≤ own_reserve
        → refusal_of (answer_of (channel_run F.quota i) (F.courses i).state) ≡ Ok tt
    usable_run e = ((together.rounds).after_round q ok a b ms).usable_run i e rule

  pub within_allowance : sum_of (tab (λ k. F.spent (k + 1)) 4) + (sum_of F.quota.left + F.quota.pool) ≡ q.allowance
  within_allowance = ((together.rounds).after_round q ok a b ms).within_allowance

  pub renewed : (F.quota.channels ≡ q.channels) × (open_quota F.quota ≡ open_quota q)
  renewed = let r = (together.rounds).after_round q ok a b ms in (r.channels, r.renewed)

-- computed
pub openings : map (λ c. (open_quota c.0).left ++ (open_quota c.0).pool ∷ []) cases.openings ≡ map (λ c. c.1) cases.openings
openings = cases.openings_met

pub bad_openings_computed : map open_quota cases.bad_openings ≡ cases.bad_openings
bad_openings_computed = cases.handed_back_met
