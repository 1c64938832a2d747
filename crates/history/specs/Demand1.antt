-- Demand 1, over every record (made by whomever), two areas and call: what is refused, and what a refusal and a call leave as it was.
--     after_passes k s    record and areas after k passes called singly
--     Goes k s           the first k passes answer "changed"
--     RunEnds s          a run is passes called singly, up to the first that does not answer "changed"
--     ChannelEnds q i s  so is a channel's run, with a quota that pays for each of them
--     quota_rule c        25: only a channel's call is handed a quota
--     Stopped c s        14's pass clause, for a pass, and for a pass that a run comes to
--     Spent c s          24, for a channel's pass, and for a pass that its run comes to
--     state_numbers       the numbers of a refusal because of the state or of the quota; all others are because of the input or of an area
--     channel_of c        the channel of a call; placed c n: the place of such a refusal, the channel for 24 and else 0
--     Cause c s n        01's condition for such a refusal n
--     reach c s          how many bytes of an area a call may write
--     Areas c s          what a call leaves of the areas
--     Demand1            the claim
-- Assumes nothing.
use Rattle.std.specs.Prelude.{true, false, cond, List, [], ◌∷◌, ◌≢◌, ◌≡◌, ℕ, zero, suc, ◌*◌, ◌≤◌, ◌<◌, ltb, eqb, length, drop, Ok, Err}
use Rattle.history.specs.declared.Effect.TheVariants.{Changed}
use Rattle.history.specs.declared.Quota.{Quota}
use Rattle.history.specs.Call.{Call, load, pass, run, view, figures, collect, channel_pass, channel_run, is_load, is_run, is_collect, answer_of, state_of, refusal_of, refusing}
use Rattle.history.specs.Channel.{channel_pass_of, channel_run_of}
use Rattle.history.specs.Collect.{collected}
use Rattle.history.specs.Lists.{lengths_of}
use Rattle.history.specs.Load.{areas_rule}
use Rattle.history.specs.Pass.{pass_of}
use Rattle.history.specs.Quota.{channel_rule, available, charged_for}
use Rattle.history.specs.Run.{run_of}
use Rattle.history.specs.Sound.{Unsound, Overruns}
use Rattle.history.specs.Source.{Source, source_verdict, source_width, source_height}
use Rattle.history.specs.State.{State, pixels}
use Rattle.table.specs.declared.Table.{Table}
use Rattle.table.specs.Record.{record_verdict}
use Rattle.verdict.specs.declared.Rule.{Rule}
use Rattle.verdict.specs.Numbers.{among}
use Rattle.verdict.specs.Rules.{refusal, refuse_if, judge, Verdict, number_of, number, Refusal}
use Rattle.verdict.specs.declared.Rule.TheVariants as why

abbrev pub after_passes : ℕ → State → State
after_passes zero s = s
after_passes (suc k) s = after_passes k (pass_of s).state

abbrev pub Goes : ℕ → State → Type 0
Goes k s = (i : ℕ) → i < k → (pass_of (after_passes i s)).answer ≡ Ok Changed

pub record RunEnds (s : State) : Type 0 where
  -- the finished passes: at most as many as there are pixels
  pub finished : ℕ
  pub few : finished ≤ pixels s.job
  pub goes : Goes finished s
  -- answer, record and areas are those of the next pass, which rests or is refused
  pub last : run_of s ≡ pass_of (after_passes finished s)
  pub ends : (run_of s).answer ≢ Ok Changed

pub record ChannelEnds (q : Quota) (i : ℕ) (s : State) : Type 0 where
  pub finished : ℕ
  pub few : finished ≤ pixels s.job
  pub goes : Goes finished s
  -- answer, record, areas and quota are those of the next pass, with a quota that has paid for these
  pub last : channel_run_of q i s ≡ channel_pass_of (charged_for finished q i) i (after_passes finished s)
  pub ends : (channel_run_of q i s).answer ≢ Ok Changed

abbrev pub quota_rule : Call → Verdict
quota_rule (load t x) = Ok tt
quota_rule pass = Ok tt
quota_rule run = Ok tt
quota_rule view = Ok tt
quota_rule figures = Ok tt
quota_rule (collect out) = Ok tt
quota_rule (channel_pass q i) = channel_rule q i
quota_rule (channel_run q i) = channel_rule q i

abbrev pub Stopped : Call → State → Type 0
Stopped (load t x) s = ⊥
Stopped pass s = Overruns s
Stopped run s = (k : ℕ) × Goes k s × Overruns (after_passes k s)
Stopped view s = ⊥
Stopped figures s = ⊥
Stopped (collect out) s = ⊥
Stopped (channel_pass q i) s = (channel_rule q i ≡ Ok tt) × (0 < available q i) × Overruns s
Stopped (channel_run q i) s = (channel_rule q i ≡ Ok tt) × ((k : ℕ) × (k < available q i) × Goes k s × Overruns (after_passes k s))

-- at stage 1 neither reserve nor pool has a pass left, after the passes that are made before
abbrev pub Spent : Call → State → Type 0
Spent (load t x) s = ⊥
Spent pass s = ⊥
Spent run s = ⊥
Spent view s = ⊥
Spent figures s = ⊥
Spent (collect out) s = ⊥
Spent (channel_pass q i) s = (channel_rule q i ≡ Ok tt) × (Unsound s → ⊥) × (s.job.stage ≡ 1) × (available q i ≡ 0)
Spent (channel_run q i) s = (channel_rule q i ≡ Ok tt) × (Unsound s → ⊥) × (s.job.stage ≡ 1) × Goes (available q i) s

abbrev pub state_numbers : List ℕ
state_numbers = 14 ∷ 15 ∷ 16 ∷ 17 ∷ 24 ∷ 25 ∷ []

abbrev pub channel_of : Call → ℕ
channel_of (load t x) = 0
channel_of pass = 0
channel_of run = 0
channel_of view = 0
channel_of figures = 0
channel_of (collect out) = 0
channel_of (channel_pass q i) = i
channel_of (channel_run q i) = i

abbrev pub placed : Call → Rule → ℕ
placed c x = cond (eqb (number x) 24) (channel_of c) 0

pub data Cause (c : Call) (s : State) : Rule → Type 0 where
  no_channel : quota_rule c ≢ Ok tt → Cause c s why.QuotaRange
  unsound : quota_rule c ≡ Ok tt → Unsound s → Cause c s why.Unsound
  stopped : Stopped c s → Cause c s why.Unsound
  -- the last sheet is not yet collected
  not_collected : (Unsound s → ⊥) → is_load c ≡ true → s.job.stage ≢ 0 → Cause c s why.NotCollected
  nothing_loaded : quota_rule c ≡ Ok tt → (Unsound s → ⊥) → is_load c ≡ false → s.job.stage ≡ 0 → Cause c s why.NothingLoaded
  not_at_rest : (Unsound s → ⊥) → is_collect c ≡ true → s.job.stage ≡ 1 → Cause c s why.NotStable
  spent : Spent c s → Cause c s why.AllowanceSpent

abbrev pub reach : Call → State → ℕ
reach (load t x) s = source_width x * source_height x
reach pass s = pixels s.job
reach run s = pixels s.job
reach view s = 0
reach figures s = 0
reach (collect out) s = 0
reach (channel_pass q i) s = pixels s.job
reach (channel_run q i) s = pixels s.job

pub record Areas (c : Call) (s : State) : Type 0 where
  pub lengths : lengths_of (state_of c s) ≡ lengths_of s
  -- bytes past the image never change; view, figures and collect change none
  pub first_past : drop (reach c s) (state_of c s).first ≡ drop (reach c s) s.first
  pub second_past : drop (reach c s) (state_of c s).second ≡ drop (reach c s) s.second
  -- load fills the first area only
  pub second_stays : is_load c ≡ true → (state_of c s).second ≡ s.second

pub record Demand1 : Type 0 where
  -- in a refused answer all else is zero, and the output is as it was
  pub zeroed : (c : Call) (s : State) (r : Refusal) → refusal_of (answer_of c s) ≡ Err r → answer_of c s ≡ refusing c r
  -- a refused call alters neither record nor areas; a run keeps its finished passes
  pub unaltered : (c : Call) (s : State) (r : Refusal) → is_run c ≡ false → refusal_of (answer_of c s) ≡ Err r → state_of c s ≡ s
  pub run_ends : (s : State) → RunEnds s
  pub channel_ends : (q : Quota) (i : ℕ) (s : State) → ChannelEnds q i s
  -- a refused pass of a channel hands the quota back as it was
  pub handed_back : (q : Quota) (i : ℕ) (s : State) (r : Refusal) → (channel_pass_of q i s).answer ≡ Err r → (channel_pass_of q i s).quota ≡ q
  -- 14 to 17, 24 and 25 are given under their conditions and under no other, 24 at the channel and the others at place 0
  pub given : (c : Call) (s : State) (x : Rule) → Cause c s x → refusal_of (answer_of c s) ≡ Err (refusal x (placed c x))
  pub only : (c : Call) (s : State) (r : Refusal) → refusal_of (answer_of c s) ≡ Err r → among state_numbers (number_of r) ≡ true
      → Cause c s r.rule × (r.place ≡ placed c r.rule)
  -- pass, run, view, figures and a channel's calls are refused for no other reason; load by its table and its source, then 13; collect by 13
  pub by_state : (c : Call) (s : State) (r : Refusal) → is_load c ≡ false → is_collect c ≡ false → refusal_of (answer_of c s) ≡ Err r
      → among state_numbers (number_of r) ≡ true
  pub by_input : (t : Table) (x : Source) (s : State) → (Unsound s → ⊥) → s.job.stage ≡ 0
      → refusal_of (answer_of (load t x) s) ≡ judge (record_verdict t ∷ source_verdict x ∷ areas_rule x (length s.first) (length s.second) ∷ [])
  pub by_output : (out : List ℕ) (s : State) → (Unsound s → ⊥) → s.job.stage ≡ 2
      → refusal_of (answer_of (collect out) s) ≡ refuse_if (ltb (length out) (length (collected s))) why.AreaShort 0
  pub areas : (c : Call) (s : State) → Areas c s
