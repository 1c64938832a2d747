-- What a call leaves of the areas: their lengths, and every byte past the image (01, The job).
--     Stays n s u          from s to u the areas keep their lengths, and their bytes from n on
--     load_stays, pass_stays, run_stays     load, pass and run; channel_stays, channel_run_stays: a channel's pass and run
--     kept                 the claim, for every call
-- Assumes nothing.
use Rattle.std.specs.Prelude.{Ok, Err}
use mathlib.Core.Bool.{true, ◌||◌}
use mathlib.Core.List.Memᴰ
use mathlib.Core.Logic.{⊎_elim}
use mathlib.Core.Path.{◌≡◌, refl, ap₂, ◌∙◌}
use Prim.Native.Nat.{ℕ, zero, suc, ◌*◌, ◌≤◌}
use native.Mathlib.Omega.{arith}
use borrow.Author.Tests.{ltb-false}
use lib.Dec.{ltb}
use lib.ListN.{length, drop}
use Rattle.history.specs.declared.Job.{Job}
use Rattle.history.specs.declared.Quota.{Quota}
use Rattle.history.specs.Call.{Call, load, pass, run, view, figures, collect, channel_pass, channel_run, is_load, state_of}
use Rattle.history.specs.Channel.{channel_pass_of, channel_run_of}
use Rattle.history.specs.Collect.{collect_verdict, collect_as, collect_state}
use Rattle.history.specs.Demand1.{after_passes, Goes, reach, Areas}
use Rattle.history.specs.Lists.{lengths_of}
use Rattle.history.specs.Load.{load_rules, load_verdict, load_as, load_state}
use Rattle.history.specs.Pass.{next_image, with_next, changed_job, stable_job, pass_of}
use Rattle.history.specs.Quota.{charged_for}
use Rattle.history.specs.Run.{run_of}
use Rattle.history.specs.Sound.{Ready}
use Rattle.history.specs.Source.{Source, source_verdict, source_width, source_height, source_pixels}
use Rattle.history.specs.State.{State, pixels, even}
use Rattle.verdict.specs.declared.Rule.TheVariants as why
use Rattle.history.proofs.ChannelPasses as ways
use Rattle.history.proofs.ChannelPasses.{ChannelWay, channel_way}
use Rattle.history.proofs.ChannelRuns.{ends_channel}
use Rattle.history.proofs.Passes as passes
use Rattle.history.proofs.Passes.{Way, way, changed}
use Rattle.history.proofs.Ready.{ready_next}
use Rattle.history.proofs.Runs.{goes_next, goes_pixels, ends}
use Rattle.history.proofs.Sources.{source_length}
use Rattle.seq.proofs.Lists.{clash, either}
use Rattle.seq.proofs.Tests.{or_none_left}
use Rattle.table.specs.declared.Table.{Table}
use Rattle.verdict.specs.Rules.{Verdict}
use Rattle.verdict.specs.Writer.{over}
use Rattle.verdict.proofs.Rules.{judge_accepted, refuse_if_accepted}
use Rattle.verdict.proofs.Writer.{drop_over, length_over}

record Stays (n : ℕ) (s u : State) : Type 0 where
  first_long : length u.first ≡ length s.first
  second_long : length u.second ≡ length s.second
  first_past : drop n u.first ≡ drop n s.first
  second_past : drop n u.second ≡ drop n s.second

same : (n : ℕ) (s : State) → Stays n s s
same n s = record { first_long = refl; second_long = refl; first_past = refl; second_past = refl }

next : {n : ℕ} {s t u : State} → Stays n s t → Stays n t u → Stays n s u
next a b = record {
  first_long = b.first_long ∙ a.first_long;
  second_long = b.second_long ∙ a.second_long;
  first_past = b.first_past ∙ a.first_past;
  second_past = b.second_past ∙ a.second_past;
}

-- the new image in the area that does not hold the present one
with_next_lem : {s : State} (j : Job) → Ready s → Stays (pixels s.job) s (with_next j s)
unfolding with_next
with_next_lem {s} j r = ⊎_elim (λ e. rw e to_second) (λ e. rw e to_first) (either (even s.job.passes))
  where
    sized : length (next_image s) ≡ pixels s.job
    sized = (ready_next r).sized

    to_second : Stays (pixels s.job) s (record { job = j; first = s.first; second = over (next_image s) s.second })
    to_second = record {
      first_long = refl;
      second_long = length_over (next_image s) s.second (omega (arith, sized, r.second));
      first_past = refl;
      second_past = drop_over (next_image s) s.second (pixels s.job) sized;
    }

    to_first : Stays (pixels s.job) s (record { job = j; first = over (next_image s) s.first; second = s.second })
    to_first = record {
      first_long = length_over (next_image s) s.first (omega (arith, sized, r.first));
      second_long = refl;
      first_past = drop_over (next_image s) s.first (pixels s.job) sized;
      second_past = refl;
    }

pass_stays : (s : State) → Stays (pixels s.job) s (pass_of s).state
pass_stays s = by (way s)
  where
    by : Way s → Stays (pixels s.job) s (pass_of s).state
    by (passes.refused x e p) = rw p (same (pixels s.job) s)
    by (passes.resting r z p) = rw p (same (pixels s.job) s)
    by (passes.quiet r z d p) = rw p (with_next_lem (stable_job s) r)
    by (passes.changes r z d x p) = rw p (with_next_lem (changed_job s) r)
    by (passes.stopped r z d x p) = rw p (same (pixels s.job) s)

-- passes that change pixels, on as many of them
before : (k : ℕ) (s : State) → Goes k s → Stays (pixels s.job) s (after_passes k s)
before zero s g = same (pixels s.job) s
before (suc k) s g =
    next (pass_stays s) (rw (changed s (g 0 (omega arith))).same at (before k (pass_of s).state (goes_next k s g)))

-- a run is such passes, and one more
passes_stay : (k : ℕ) (s : State) → Goes k s → Stays (pixels s.job) s (pass_of (after_passes k s)).state
passes_stay k s g = next (before k s g) (rw (goes_pixels k s g) at (pass_stays (after_passes k s)))

run_stays : (s : State) → Stays (pixels s.job) s (run_of s).state
run_stays s = let x = ends s in rw x.last (passes_stay x.finished s x.goes)

-- a channel's pass alters nothing, or what a pass does
channel_stays : (q : Quota) (i : ℕ) (s : State) → Stays (pixels s.job) s (channel_pass_of q i s).state
channel_stays q i s = by (channel_way q i s)
  where
    by : ChannelWay q i s → Stays (pixels s.job) s (channel_pass_of q i s).state
    by (ways.barred x e p) = rw p (same (pixels s.job) s)
    by (ways.unready e x y p) = rw p (same (pixels s.job) s)
    by (ways.spent_out_lem e r z l p) = rw p (same (pixels s.job) s)
    by (ways.resting e r z p) = rw p (same (pixels s.job) s)
    by (ways.paying e r z l p) = rw p (pass_stays s)

channel_run_stays : (q : Quota) (i : ℕ) (s : State) → Stays (pixels s.job) s (channel_run_of q i s).state
channel_run_stays q i s = let x = ends_channel q i s in rw x.last (by x.finished x.goes)
  where
    by : (k : ℕ) → Goes k s → Stays (pixels s.job) s (channel_pass_of (charged_for k q i) i (after_passes k s)).state
    by k g =
        next (before k s g) (rw (goes_pixels k s g) at (channel_stays (charged_for k q i) i (after_passes k s)))

-- an accepted load has an accepted source, and room in the first area
load_source : (t : Table) (x : Source) (s : State) → load_verdict t x s ≡ Ok tt → source_verdict x ≡ Ok tt
unfolding load_verdict
load_source t x s e = judge_accepted {vs = load_rules t x s} e (Memᴰ.tail (Memᴰ.tail (Memᴰ.tail (Memᴰ.head refl))))

load_room : (t : Table) (x : Source) (s : State) → load_verdict t x s ≡ Ok tt → source_width x * source_height x ≤ length s.first
unfolding load_verdict
load_room t x s e =
    let size = source_width x * source_height x in
    let room = refuse_if_accepted (ltb (length s.first) size || ltb (length s.second) size) why.AreaShort 0
    (judge_accepted {vs = load_rules t x s} e (Memᴰ.tail (Memᴰ.tail (Memᴰ.tail (Memᴰ.tail (Memᴰ.head refl)))))) in
    ltb-false (length s.first) size (or_none_left (ltb (length s.first) size) (ltb (length s.second) size) room)

load_stays : (t : Table) (x : Source) (s : State) → Stays (source_width x * source_height x) s (load_state t x s)
unfolding load_state
load_stays t x s = by (load_verdict t x s) refl
  where
    by : (v : Verdict) → load_verdict t x s ≡ v → Stays (source_width x * source_height x) s (load_as v t x s)
    by (Err r) e = same (source_width x * source_height x) s
    by (Ok _) e = record {
      first_long = length_over (source_pixels x) s.first (omega (arith, source_length x (load_source t x s e), load_room t x s e));
      second_long = refl;
      first_past = drop_over (source_pixels x) s.first (source_width x * source_height x) (source_length x (load_source t x s e));
      second_past = refl;
    }

collect_stays : (n : ℕ) (s : State) → Stays 0 s (collect_state n s)
unfolding collect_state
collect_stays n s = by (collect_verdict n s)
  where
    by : (v : Verdict) → Stays 0 s (collect_as v s)
    by (Ok _) = record { first_long = refl; second_long = refl; first_past = refl; second_past = refl }
    by (Err r) = same 0 s

stays : (c : Call) (s : State) → Stays (reach c s) s (state_of c s)
unfolding state_of
stays (load t x) s = load_stays t x s
stays pass s = pass_stays s
stays run s = run_stays s
stays view s = same 0 s
stays figures s = same 0 s
stays (collect out) s = collect_stays (length out) s
stays (channel_pass q i) s = channel_stays q i s
stays (channel_run q i) s = channel_run_stays q i s

-- load fills the first area only
load_second : (c : Call) (s : State) → is_load c ≡ true → (state_of c s).second ≡ s.second
unfolding state_of load_state
load_second (load t x) s l = by (load_verdict t x s)
  where
    by : (v : Verdict) → (load_as v t x s).second ≡ s.second
    by (Ok _) = refl
    by (Err r) = refl
load_second pass s l = clash l refl
load_second run s l = clash l refl
load_second view s l = clash l refl
load_second figures s l = clash l refl
load_second (collect out) s l = clash l refl
load_second (channel_pass q i) s l = clash l refl
load_second (channel_run q i) s l = clash l refl

pub kept : (c : Call) (s : State) → Areas c s
unfolding lengths_of
kept c s = let x = stays c s in record {
  lengths = ap₂ (λ (a b : ℕ). record { first = a; second = b }) x.first_long x.second_long;
  first_past = x.first_past;
  second_past = x.second_past;
  second_stays = load_second c s;
}
