-- The channels of a quota together (02, T-10: the lanes of a round), each a job with areas of its own.
--     Fleet              the quota, a course for each channel, and the passes that each spent since the quota was opened
--     begun q a b        the quota q, opened, and for channel i an empty job with the areas a i and b i
--     Move               a call of a channel's job with the fleet's quota, which the next call gets; any other call of it; a new round
--     spent_by most q i H      what a channel's call of at most so many passes spends, by its history; spent_as v most q i H: by 25
--     put i x f          x for channel i, else as f says
--     perform m F        one move; moved ms F: a list of them
--     AfterRound q a b F      what holds after any list of moves
--     PlainBut24 i o p   a channel's call is refused by 24, or is as the plain one; Unmetered q i s: so are its pass and run
--     SameBut24 i v w    two verdicts are the same, or one of them is 24 at i
--     Rounds             the claims
-- Assumes nothing.
use Rattle.std.specs.Prelude.{cond, List, [], ◌∷◌, ◌⊎◌, ◌≡◌, ℕ, ◌+◌, ◌-◌, ◌*◌, ◌≤◌, ◌<◌, eqb, get_or, Ok, Err}
use Rattle.operator.specs.Pass as operator
use Rattle.history.specs.declared.Quota.{Quota}
use Rattle.history.specs.Call.{Call, channel_pass, channel_run, answer_of, refusal_of}
use Rattle.history.specs.Channel.{ChannelOutcome, channel_pass_of, channel_run_of}
use Rattle.history.specs.Demand3.{AfterList, played, lent}
use Rattle.history.specs.History.{Entry, History, empty, holds, needed, spends}
use Rattle.history.specs.Lists.{Course, start, step, first_of}
use Rattle.history.specs.Pass.{Outcome, pass_of}
use Rattle.history.specs.Quota.{max_channels, open_verdict, open_quota, channel_rule, left_of, reserve_of}
use Rattle.history.specs.Run.{run_of}
use Rattle.history.specs.State.{State}
use Rattle.history.specs.View.{view_of}
use Rattle.seq.specs.Lists.{sum_of}
use Rattle.seq.specs.Tab.{tab}
use Rattle.verdict.specs.Rules.{refusal, Verdict}
use Rattle.verdict.specs.declared.Rule.TheVariants as why

pub record Fleet : Type 0 where
  pub quota : Quota
  pub courses : ℕ → Course
  pub spent : ℕ → ℕ

unfoldable pub begun : Quota → (ℕ → List ℕ) → (ℕ → List ℕ) → Fleet
begun q a b = record { quota = open_quota q; courses = λ i. start (a i) (b i); spent = λ i. 0 }

pub data Move : Type 0 where
  -- a pass or a run of channel i, which is handed the fleet's quota
  passes runs : ℕ → Move
  -- any call of channel i's job that is not
  own : ℕ → Call → Move
  -- a new round: the quota is opened again, and the jobs are left
  renew : Move

-- 25, and a job that holds nothing, spend nothing
abbrev pub spent_as : Verdict → (Entry → ℕ) → Quota → ℕ → History → ℕ
spent_as (Ok _) most q i empty = 0
spent_as (Ok _) most q i (holds e) = spends (most e) q i e
spent_as (Err r) most q i H = 0

abbrev pub spent_by : (Entry → ℕ) → Quota → ℕ → History → ℕ
spent_by most q i H = spent_as (channel_rule q i) most q i H

abbrev pub put {ℓ} : {A : Type ℓ} → ℕ → A → (ℕ → A) → ℕ → A
put i x f j = cond (eqb j i) x (f j)

unfoldable pub perform : Move → Fleet → Fleet
perform (passes i) F =
    record {
      quota = (channel_pass_of F.quota i (F.courses i).state).quota;
      courses = put i (step (channel_pass F.quota i) (F.courses i)) F.courses;
      spent = put i (F.spent i + spent_by (λ e. 1) F.quota i (F.courses i).history) F.spent;
    }
perform (runs i) F =
    record {
      quota = (channel_run_of F.quota i (F.courses i).state).quota;
      courses = put i (step (channel_run F.quota i) (F.courses i)) F.courses;
      spent = put i (F.spent i + spent_by (λ e. e.width * e.height + 1) F.quota i (F.courses i).history) F.spent;
    }
perform (own i c) F = record { quota = F.quota; courses = put i (step c (F.courses i)) F.courses; spent = F.spent }
perform renew F = record { quota = open_quota F.quota; courses = F.courses; spent = λ i. 0 }

abbrev pub moved : List Move → Fleet → Fleet
moved [] F = F
moved (m ∷ ms) F = moved ms (perform m F)

pub record AfterRound (q : Quota) (a b : ℕ → List ℕ) (F : Fleet) : Type 0 where
  -- each channel's course is that of a list of calls on its own job: all of demand 3 holds for it
  pub alone : (i : ℕ) → (cs : List Call) × (F.courses i ≡ played cs (a i) (b i))
  pub each : (i : ℕ) → AfterList (lent (a i) (b i)) (F.courses i)
  -- its image after its own passes does not depend on the others
  pub own : (i : ℕ) (e : Entry) → (F.courses i).history ≡ holds e
      → view_of (F.courses i).state ≡ operator.passes e.table e.width e.height (F.courses i).tally (first_of e)
  -- of its reserve a channel has left what it did not spend
  pub reserve : (i : ℕ) → channel_rule F.quota i ≡ Ok tt → left_of F.quota i ≡ reserve_of (open_quota q) i - F.spent i
  -- so it can always use it: a pass within it is not refused, nor is a run
  pub usable_pass : (i : ℕ) (e : Entry) → channel_rule F.quota i ≡ Ok tt → (F.courses i).history ≡ holds e
      → F.spent i < reserve_of (open_quota q) i → refusal_of (answer_of (channel_pass F.quota i) (F.courses i).state) ≡ Ok tt
  pub usable_run : (i : ℕ) (e : Entry) → channel_rule F.quota i ≡ Ok tt → (F.courses i).history ≡ holds e
      → F.spent i + needed (e.width * e.height + 1) e ≤ reserve_of (open_quota q) i
      → refusal_of (answer_of (channel_run F.quota i) (F.courses i).state) ≡ Ok tt
  -- what the channels spent, what is left of their reserves, and the pool are the allowance
  pub within_allowance : sum_of (tab (λ k. F.spent (k + 1)) max_channels) + (sum_of F.quota.left + F.quota.pool) ≡ q.allowance
  -- the channels stay, and a new round restores all of it
  pub channels : F.quota.channels ≡ q.channels
  pub renewed : open_quota F.quota ≡ open_quota q

-- refused by 24, or as the plain call in answer, record and areas
abbrev pub PlainBut24 : ℕ → ChannelOutcome → Outcome → Type 0
PlainBut24 i o p = (o.answer ≡ Err (refusal why.AllowanceSpent i)) ⊎ ((o.answer ≡ p.answer) × (o.state ≡ p.state))

pub record Unmetered (q : Quota) (i : ℕ) (s : State) : Type 0 where
  pub pass_plain : PlainBut24 i (channel_pass_of q i s) (pass_of s)
  pub run_plain : PlainBut24 i (channel_run_of q i s) (run_of s)

abbrev pub SameBut24 : ℕ → Verdict → Verdict → Type 0
SameBut24 i v w = (v ≡ w) ⊎ ((v ≡ Err (refusal why.AllowanceSpent i)) ⊎ (w ≡ Err (refusal why.AllowanceSpent i)))

pub record Rounds : Type 0 where
  -- any list of moves from a quota that was opened
  pub after_round : (q : Quota) → open_verdict q ≡ Ok tt → (a b : ℕ → List ℕ) (ms : List Move) → AfterRound q a b (moved ms (begun q a b))
  -- reserves past the channels are unread
  pub unread : (q p : Quota) → q.channels ≡ p.channels → q.allowance ≡ p.allowance
      → ((k : ℕ) → k < q.channels → get_or q.reserves k 0 ≡ get_or p.reserves k 0)
      → (open_verdict q ≡ open_verdict p) × (open_verdict q ≡ Ok tt → open_quota q ≡ open_quota p)
  -- whatever the record holds
  pub unmetered : (q : Quota) (i : ℕ) (s : State) → channel_rule q i ≡ Ok tt → Unmetered q i s
  -- of two quotas with equally many channels: the same refusal, or one of them is 24
  pub only_24_pass : (q q' : Quota) (i : ℕ) (s : State) → q.channels ≡ q'.channels
      → SameBut24 i (refusal_of (answer_of (channel_pass q i) s)) (refusal_of (answer_of (channel_pass q' i) s))
  pub only_24_run : (q q' : Quota) (i : ℕ) (s : State) → q.channels ≡ q'.channels
      → SameBut24 i (refusal_of (answer_of (channel_run q i) s)) (refusal_of (answer_of (channel_run q' i) s))
