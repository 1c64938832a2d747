-- Demand 3: one claim about every list of calls (01, Lists of calls), sentence by sentence.
--     Agrees s e          record, areas and entry agree
--     Operated t w h s    a pass gives the operator's image, and answers "at rest" exactly when the operator changes nothing
--     RunAsPasses w e     a run is its passes called singly
--     ChannelAsPasses w e q i     so are a channel's pass and run, all that they need or those that are left, and the quota pays for each at stage 1
--     QuotaBack q i s     a channel's pass and run hand the quota back as it was
--     AfterList n w       what holds after any list, on areas of the lengths n
--     Twins w w' e e'     two jobs with one table, one size and equally many accepted passes, or both settled
--     Rests img s         a stable image that was loaded stays
--     Reloads w e x       so does the last image of an entry, loaded again from the source x
--     Alone w w' e e' i   a job on a strip, and one that loaded its part i alone, with one table and equally many accepted passes
--     played cs a b       what a list of calls leaves
--     lent a b            the lengths of the areas at its start
--     Demand3             the claim
-- Assumes nothing.
use Rattle.std.specs.Prelude.{true, List, ◌↔◌, ◌⊎◌, ◌≢◌, ◌≡◌, ℕ, ◌+◌, ◌*◌, ◌≤◌, ◌<◌, length, get_or, replicate, take, Ok, Err}
use Rattle.history.specs.declared.Effect.TheVariants.{Changed, Stable}
use Rattle.operator.specs.Heijmans.{modified}
use Rattle.operator.specs.Image.{pixel, IsImage, black, added, removed, differs_at, exchange, Below}
use Rattle.operator.specs.Locality.{reach, Alike, Inner}
use Rattle.operator.specs.Parts.{added_in, removed_in}
use Rattle.operator.specs.Pass as operator
use Rattle.history.specs.declared.Quota.{Quota}
use Rattle.history.specs.Answered.{answered_by}
use Rattle.history.specs.Call.{Call, load, pass, run, collect, channel_pass, channel_run, passed, collected, answer_of, state_of, refusal_of}
use Rattle.history.specs.Channel.{channel_pass_of, channel_run_of}
use Rattle.history.specs.History.{Entry, empty, holds, Lengths, spends, made, refused_by, barred_by}
use Rattle.history.specs.Lists.{Course, start, lengths_of, step, play, uncollected, first_of, over_steps}
use Rattle.history.specs.Quota.{channel_rule, charged_for}
use Rattle.history.specs.Source.{Source, from_file, from_strip}
use Rattle.history.specs.State.{State}
use Rattle.history.specs.View.{view_of}
use Rattle.image.specs.Parts.{above, part_of}
use Rattle.image.specs.Strip.{strip_of, shape_verdict, PartsBack}
use Rattle.seq.specs.Lists.{one, sum_of}
use Rattle.table.specs.declared.Table.{Table}
use Rattle.table.specs.Record.{record_verdict}
use Rattle.verdict.specs.Rules.{number_of, Refusal}

pub record Agrees (s : State) (e : Entry) : Type 0 where
  pub table : s.job.table ≡ e.table
  pub width : s.job.width ≡ e.width
  pub height : s.job.height ≡ e.height
  -- the record's parts are the load's; their heights sum to the image's (02, T-08)
  pub strip : s.job.strip ≡ strip_of e.width e.parts
  pub rows : sum_of e.parts ≡ e.height
  -- the table was accepted, the size of each part is within the limits, and every pixel of the last image is 0 or 1
  pub accepted : record_verdict e.table ≡ Ok tt
  pub sized : shape_verdict (strip_of e.width e.parts) ≡ Ok tt
  pub image : IsImage e.width e.height e.last
  -- view gives the last image's pixels
  pub view : view_of s ≡ e.last
  -- passes is the number of steps
  pub passes : s.job.passes ≡ length e.earlier
  -- added counts the pixels that go from 0 to 1, over all steps, removed those from 1 to 0
  pub added : s.job.added ≡ over_steps added e
  pub removed : s.job.removed ≡ over_steps removed e
  -- so do the counts of each part, over its rows; they sum to those of the strip
  pub part_added : (i : ℕ) → i < length e.parts → get_or s.job.counts.added i 0 ≡ over_steps (λ a b. added_in e.width e.parts a b i) e
  pub part_removed : (i : ℕ) → i < length e.parts → get_or s.job.counts.removed i 0 ≡ over_steps (λ a b. removed_in e.width e.parts a b i) e
  pub added_sum : sum_of s.job.counts.added ≡ s.job.added
  pub removed_sum : sum_of s.job.counts.removed ≡ s.job.removed
  -- the files that collect writes read back as the parts
  pub files : PartsBack e.width e.parts e.last
  -- black in the last image is black in the first plus added less removed
  pub balance : black e.last + s.job.removed ≡ black (first_of e) + s.job.added
  -- a pixel changes in at most one step
  pub single : (k : ℕ) → over_steps (λ a b. one (differs_at a b k)) e ≤ 1
  -- the steps are at most as many as the pixels
  pub bound : length e.earlier ≤ e.width * e.height

-- demand 2, of one pass
pub record Operated (t : Table) (w h : ℕ) (s : State) : Type 0 where
  pub image : view_of (state_of pass s) ≡ modified t w h (view_of s)
  pub reported : (answer_of pass s ≡ passed (Ok Stable)) ↔ (modified t w h (view_of s) ≡ view_of s)
  pub otherwise : (answer_of pass s ≡ passed (Ok Changed)) ⊎ (answer_of pass s ≡ passed (Ok Stable))

pub record RunAsPasses (w : Course) (e : Entry) : Type 0 where
  pub passes : ℕ
  pub few : passes ≤ e.width * e.height + 1
  -- record, areas, history and the tally end as after these passes called singly
  pub singly : step run w ≡ play (replicate passes pass) w
  -- and the run answers "at rest"
  pub answer : answer_of run w.state ≡ passed (Ok Stable)

-- 02, T-10: record, areas, history and tally end as after these passes called singly, and the quota with so many passes less
pub record ChannelAsPasses (w : Course) (e : Entry) (q : Quota) (i : ℕ) : Type 0 where
  pub pass_singly : step (channel_pass q i) w ≡ play (replicate (made 1 q i e) pass) w
  pub pass_quota : (channel_pass_of q i w.state).quota ≡ charged_for (spends 1 q i e) q i
  pub run_singly : step (channel_run q i) w ≡ play (replicate (made (e.width * e.height + 1) q i e) pass) w
  pub run_quota : (channel_run_of q i w.state).quota ≡ charged_for (spends (e.width * e.height + 1) q i e) q i

abbrev pub QuotaBack : Quota → ℕ → State → Type 0
QuotaBack q i s = ((channel_pass_of q i s).quota ≡ q) × ((channel_run_of q i s).quota ≡ q)

pub record AfterList (n : Lengths) (w : Course) : Type 0 where
  pub lengths : lengths_of w.state ≡ n
  pub stage_empty : (w.state.job.stage ≡ 0) ↔ (w.history ≡ empty)
  pub stage_settled : (w.state.job.stage ≡ 2) ↔ ((e : Entry) × (w.history ≡ holds e) × (e.settled ≡ true))
  pub agrees : (e : Entry) → w.history ≡ holds e → Agrees w.state e
  pub operated : (e : Entry) → w.history ≡ holds e → Operated e.table e.width e.height w.state
  -- view gives the first image after as many passes as were accepted since the load, quiet ones too
  pub passed : (e : Entry) → w.history ≡ holds e
      → view_of w.state ≡ operator.passes e.table e.width e.height w.tally (first_of e)
  pub run_as_passes : (e : Entry) → w.history ≡ holds e → RunAsPasses w e
  -- the next call, whatever it is, answers what the history says, and leaves that in its output
  pub answered : (c : Call) → answer_of c w.state ≡ answered_by c n w.history
  -- so it is refused exactly as the history says, and never by 14
  pub refused : (c : Call) → refusal_of (answer_of c w.state) ≡ refused_by c n w.history
  pub never_14 : (c : Call) (r : Refusal) → refusal_of (answer_of c w.state) ≡ Err r → number_of r ≢ 14
  -- and a refused call alters neither record nor areas, but for a channel's run that 24 stops on its way
  pub unaltered : (c : Call) (r : Refusal) → barred_by c n w.history ≡ Err r → state_of c w.state ≡ w.state
  -- a channel's calls, with any quota: its passes called singly; on an empty job, and by 25, the quota is handed back as it was
  pub channel_as_passes : (e : Entry) → w.history ≡ holds e → (q : Quota) (i : ℕ) → channel_rule q i ≡ Ok tt → ChannelAsPasses w e q i
  pub quota_back : (q : Quota) (i : ℕ) → (w.history ≡ empty) ⊎ (channel_rule q i ≢ Ok tt) → QuotaBack q i w.state

pub record Twins (w w' : Course) (e e' : Entry) : Type 0 where
  pub here : w.history ≡ holds e
  pub there : w'.history ≡ holds e'
  pub table : e.table ≡ e'.table
  pub width : e.width ≡ e'.width
  pub height : e.height ≡ e'.height
  pub together : (w.tally ≡ w'.tally) ⊎ ((e.settled ≡ true) × (e'.settled ≡ true))

-- until collect: view gives the image that was loaded, the counts are 0, and every pass and run answers "at rest"
pub record Rests (img : List ℕ) (s : State) : Type 0 where
  pub view : view_of s ≡ img
  pub passes : s.job.passes ≡ 0
  pub added : s.job.added ≡ 0
  pub removed : s.job.removed ≡ 0
  pub pass_answer : answer_of pass s ≡ passed (Ok Stable)
  pub run_answer : answer_of run s ≡ passed (Ok Stable)
  -- and every channel's pass and run that its quota lets through
  pub channel_pass_answer : (q : Quota) (i : ℕ) → refusal_of (answer_of (channel_pass q i) s) ≡ Ok tt → answer_of (channel_pass q i) s ≡ passed (Ok Stable)
  pub channel_run_answer : (q : Quota) (i : ℕ) → refusal_of (answer_of (channel_run q i) s) ≡ Ok tt → answer_of (channel_run q i) s ≡ passed (Ok Stable)

-- a source loaded with the entry's table: accepted, and what it loads is the entry's last image, which stays until a collect is accepted
pub record Reloads (w : Course) (e : Entry) (x : Source) : Type 0 where
  pub accepted : refusal_of (answer_of (load e.table x) w.state) ≡ Ok tt
  pub rests : (cs : List Call) → uncollected cs (step (load e.table x) w) ≡ true
      → Rests e.last (play cs (step (load e.table x) w)).state

-- 02, T-08 with T-09: the entry e' holds part i of the strip that e holds, from the load on
pub record Alone (w w' : Course) (e e' : Entry) (i : ℕ) : Type 0 where
  pub here : w.history ≡ holds e
  pub there : w'.history ≡ holds e'
  pub table : e.table ≡ e'.table
  pub width : e.width ≡ e'.width
  pub part : i < length e.parts
  pub height : e'.height ≡ get_or e.parts i 0
  pub first : first_of e' ≡ part_of e.width e.parts i (first_of e)
  pub together : w.tally ≡ w'.tally

-- what a list of calls leaves, from an empty job with the areas a and b
abbrev pub played : List Call → List ℕ → List ℕ → Course
played cs a b = play cs (start a b)

abbrev pub lent : List ℕ → List ℕ → Lengths
lent a b = lengths_of (start a b).state

pub record Demand3 : Type 0 where
  pub after_list : (cs : List Call) (a b : List ℕ) → AfterList (lent a b) (played cs a b)
  -- a run is passes called singly, and the same holds after each of them
  pub inside : (cs : List Call) (a b : List ℕ) (k : ℕ) → AfterList (lent a b) (play (replicate k pass) (played cs a b))
  pub exchanged : (cs cs' : List Call) (a b a' b' : List ℕ) (e e' : Entry) → Twins (played cs a b) (played cs' a' b') e e'
      → first_of e' ≡ exchange (first_of e) → view_of (played cs' a' b').state ≡ exchange (view_of (played cs a b).state)
  pub ordered : (cs cs' : List Call) (a b a' b' : List ℕ) (e e' : Entry) → Twins (played cs a b) (played cs' a' b') e e'
      → Below (first_of e) (first_of e') → Below (view_of (played cs a b).state) (view_of (played cs' a' b').state)
  -- after equally many accepted passes, a pixel near which the first images agree is the same in both (02, T-09)
  pub located : (cs cs' : List Call) (a b a' b' : List ℕ) (e e' : Entry) → Twins (played cs a b) (played cs' a' b') e e'
      → (played cs a b).tally ≡ (played cs' a' b').tally → (r c : ℕ) → r < e.height → c < e.width
      → Alike (reach * (played cs a b).tally) e.width e.height (first_of e) (first_of e') r c
      → pixel e.width (view_of (played cs a b).state) r c ≡ pixel e.width (view_of (played cs' a' b').state) r c
  -- a stable image that was loaded
  pub rests : (cs : List Call) (a b : List ℕ) (e : Entry) → (played cs a b).history ≡ holds e
      → operator.Stable e.table e.width e.height (first_of e) → Rests (first_of e) (played cs a b).state
  -- what an accepted collect wrote of a single image, loaded again with its table
  pub reloaded : (cs : List Call) (a b out : List ℕ) (e : Entry) (m : ℕ) (after : List ℕ) → (played cs a b).history ≡ holds e → length e.parts ≡ 1
      → answer_of (collect out) (played cs a b).state ≡ collected (Ok m) after
      → Reloads (step (collect out) (played cs a b)) e (from_file (take m after))
  -- after an accepted collect, the strip of the parts that its files hold
  pub relaid : (cs : List Call) (a b out : List ℕ) (e : Entry) (m : ℕ) (after : List ℕ) → (played cs a b).history ≡ holds e
      → answer_of (collect out) (played cs a b).state ≡ collected (Ok m) after
      → Reloads (step (collect out) (played cs a b)) e (from_strip (strip_of e.width e.parts) e.last)
  -- a strip beside its part i alone, after equally many accepted passes: far enough from the seams view gives one pixel
  pub alone : (cs cs' : List Call) (a b a' b' : List ℕ) (e e' : Entry) (i : ℕ) → Alone (played cs a b) (played cs' a' b') e e' i
      → (r c : ℕ) → r < e'.height → c < e.width → Inner (reach * (played cs a b).tally) e.parts i r
      → pixel e.width (view_of (played cs a b).state) (above e.parts i + r) c ≡ pixel e.width (view_of (played cs' a' b').state) r c
