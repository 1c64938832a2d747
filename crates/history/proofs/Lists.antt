-- The relation between record, areas and history holds after every list of calls.
--     Kept c s H n                  it holds after the call c
--     pass_keeps, run_keeps, channel_pass_keeps, channel_run_keeps, keeps     each call keeps it, accepted or refused
--     passes_keep, play_related     so does a list
--     played_related                so it holds after every list from an empty job
--     played_lengths                and the areas have the lengths of the start
--     play_append                   one list after another
-- Assumes nothing.
use Rattle.std.specs.Prelude.{Ok, Err}
use mathlib.Core.List.{List, [], ◌∷◌, ◌++◌}
use mathlib.Core.Path.{◌≡◌, refl, ◌∙◌, subst⁻¹}
use Prim.Native.Nat.{ℕ, zero, suc, ◌+◌, ◌*◌}
use lib.ListN.{replicate}
use Rattle.history.specs.declared.Quota.{Quota}
use Rattle.history.specs.Call.{Call, load, pass, run, view, figures, collect, channel_pass, channel_run, state_of}
use Rattle.history.specs.Demand3.{played, lent}
use Rattle.history.specs.History.{History, empty, holds, made, refused_by, barred_by, accepted, after}
use Rattle.history.specs.Lists.{Course, start, lengths_of, tallied, step, play}
use Rattle.history.specs.Quota.{channel_rule}
use Rattle.history.specs.State.{State}
use Rattle.history.proofs.Channel.{channel_as_passes, empty_unmade}
use Rattle.history.proofs.ChannelPasses.{channel_barred}
use Rattle.history.proofs.ChannelRuns.{run_unmade}
use Rattle.history.proofs.Collect.{collect_keeps}
use Rattle.history.proofs.Kept.{kept}
use Rattle.history.proofs.Load.{load_keeps}
use Rattle.history.proofs.Pass.{pass_held}
use Rattle.history.proofs.Refused.{pass_empty, run_empty}
use Rattle.history.proofs.Related.{RelatedTo, Related}
use Rattle.history.proofs.Run.{course, run_as_passes}
use Rattle.verdict.specs.Rules.{Verdict}

-- the relation after a call
abbrev Kept : Call → State → History → ℕ → Type 0
Kept c s H n = Related (step c (record { state = s; history = H; tally = n }))

pass_keeps : (s : State) (H : History) (n : ℕ) → RelatedTo s H n → Kept pass s H n
unfolding step state_of after barred_by refused_by accepted tallied
pass_keeps s empty n q = rw (pass_empty s q) q
pass_keeps s (holds e) n r = pass_held r

-- a run is its passes, so what each of them keeps the run keeps
pub passes_keep : (k : ℕ) (w : Course) → Related w → Related (play (replicate k pass) w)
passes_keep zero w r = r
passes_keep (suc k) w r = passes_keep k (step pass w) (pass_keeps w.state w.history w.tally r)

run_keeps : (s : State) (H : History) (n : ℕ) → RelatedTo s H n → Kept run s H n
unfolding step state_of after barred_by refused_by
run_keeps s empty n q = rw (run_empty s q) q
run_keeps s (holds e) n r =
    let a = run_as_passes r in
    subst⁻¹ Related a.singly (passes_keep a.passes (course s e n) r)

-- so what the passes of a channel's call keep the call keeps, and one that is refused with nothing done alters nothing
channel_pass_keeps : (c : Quota) (i : ℕ) (s : State) (H : History) (n : ℕ) → RelatedTo s H n → Kept (channel_pass c i) s H n
unfolding step state_of after barred_by refused_by
channel_pass_keeps c i s empty n q = let (x, e, p) = empty_unmade c i s q in rw (e, p) q
channel_pass_keeps c i s (holds e) n r = by (channel_rule c i) refl
  where
    by : (v : Verdict) → channel_rule c i ≡ v → Kept (channel_pass c i) s (holds e) n
    by (Err x) k = rw (k, channel_barred c i s k) r
    by (Ok _) k = subst⁻¹ Related (channel_as_passes c i k r).pass_singly (passes_keep (made 1 c i e) (course s e n) r)

channel_run_keeps : (c : Quota) (i : ℕ) (s : State) (H : History) (n : ℕ) → RelatedTo s H n → Kept (channel_run c i) s H n
unfolding step state_of after barred_by refused_by
channel_run_keeps c i s empty n q = let (x, e, p) = empty_unmade c i s q in rw (e, run_unmade c i s p) q
channel_run_keeps c i s (holds e) n r = by (channel_rule c i) refl
  where
    by : (v : Verdict) → channel_rule c i ≡ v → Kept (channel_run c i) s (holds e) n
    by (Err x) k = rw (k, run_unmade c i s (channel_barred c i s k)) r
    by (Ok _) k = subst⁻¹ Related (channel_as_passes c i k r).run_singly (passes_keep (made (e.width * e.height + 1) c i e) (course s e n) r)

pub keeps : (c : Call) (s : State) (H : History) (n : ℕ) → RelatedTo s H n → Kept c s H n
unfolding step state_of after barred_by refused_by accepted tallied
keeps (load t x) s H n r = load_keeps t x s H n r
keeps pass s H n r = pass_keeps s H n r
keeps run s H n r = run_keeps s H n r
keeps view s empty n q = q
keeps view s (holds e) n r = r
keeps figures s empty n q = q
keeps figures s (holds e) n r = r
keeps (collect out) s H n r = collect_keeps out s H n r
keeps (channel_pass c i) s H n r = channel_pass_keeps c i s H n r
keeps (channel_run c i) s H n r = channel_run_keeps c i s H n r

pub play_related : (cs : List Call) (w : Course) → Related w → Related (play cs w)
play_related [] w r = r
play_related (c ∷ cs) w r = play_related cs (step c w) (keeps c w.state w.history w.tally r)

pub played_related : (cs : List Call) (a b : List ℕ) → Related (played cs a b)
unfolding start
played_related cs a b = play_related cs (start a b) refl

-- the areas keep the lengths that they have at the start
play_lengths : (cs : List Call) (w : Course) → lengths_of (play cs w).state ≡ lengths_of w.state
unfolding step
play_lengths [] w = refl
play_lengths (c ∷ cs) w = play_lengths cs (step c w) ∙ (kept c w.state).lengths

pub played_lengths : (cs : List Call) (a b : List ℕ) → lengths_of (played cs a b).state ≡ lent a b
played_lengths cs a b = play_lengths cs (start a b)

-- one list after another
pub play_append : (cs ds : List Call) (w : Course) → play ds (play cs w) ≡ play (cs ++ ds) w
play_append [] ds w = refl
play_append (c ∷ cs) ds w = play_append cs ds (step c w)
