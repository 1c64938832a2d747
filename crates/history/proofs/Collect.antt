-- Collect: what it answers on an empty job and on one that holds an entry, and that the relation is kept.
--     collect_empty, collect_held     the verdict is the history's
--     collect_keeps                   the relation after it
-- Assumes nothing.
use Rattle.std.specs.Prelude.{Ok, Err}
use mathlib.Core.Bool.{Bool, true, false, not}
use mathlib.Core.List.{List}
use mathlib.Core.Path.{◌≡◌, refl}
use Prim.Native.Nat.{ℕ}
use lib.Dec.{eqb}
use lib.ListN.{length}
use Rattle.history.specs.Call.{collect}
use Rattle.history.specs.Collect.{collected, collect_verdict, collect_as, collect_state}
use Rattle.history.specs.History.{Entry, History, empty, holds, files_of, refused_by, barred_by, accepted, after_as, after}
use Rattle.history.specs.Lists.{lengths_of, tallied, tally_as}
use Rattle.history.specs.State.{State, empty_job}
use Rattle.history.proofs.Related.{stage_of, Held, RelatedTo}
use Rattle.history.proofs.Sound.{sound_empty, sound_held, stage_held}
use Rattle.image.proofs.Shapes.{of_heights}
use Rattle.verdict.specs.Rules.{Verdict}

-- stage 1 is the stage without the mark
stage_unsettled : (b : Bool) → eqb (stage_of b) 1 ≡ not b
stage_unsettled true = refl
stage_unsettled false = refl

pub collect_empty : (out : List ℕ) (s : State) → s.job ≡ empty_job → collect_verdict (length out) s ≡ refused_by (collect out) (lengths_of s) empty
unfolding collect_verdict refused_by empty_job
collect_empty out s q = rw (sound_empty s q, q)

module _ {s : State} {e : Entry} {n : ℕ} (r : Held s e n) where
  pub collected_held : collected s ≡ files_of e
  unfolding collected files_of
  collected_held = rw (r.shown, r.job, of_heights r.listed)

  pub collect_held : (out : List ℕ) → collect_verdict (length out) s ≡ refused_by (collect out) (lengths_of s) (holds e)
  unfolding collect_verdict refused_by
  collect_held out = simp (sound_held r, collected_held, r.job, stage_held, stage_unsettled)

pub collect_keeps : (out : List ℕ) (s : State) (H : History) (n : ℕ) → RelatedTo s H n
    → RelatedTo (collect_state (length out) s) (after (collect out) (lengths_of s) H)
    (tally_as (refused_by (collect out) (lengths_of s) H) (collect out) H n)
unfolding collect_state after barred_by accepted tallied
collect_keeps out s empty n q = rw (collect_empty out s q) (go (refused_by (collect out) (lengths_of s) empty))
  where
    go : (v : Verdict) → RelatedTo (collect_as v s) (after_as v (collect out) empty) (tally_as v (collect out) empty n)
    go (Ok _) = refl
    go (Err x) = q
collect_keeps out s (holds e) n r = rw (collect_held r out) (go (refused_by (collect out) (lengths_of s) (holds e)))
  where
    go : (v : Verdict) → RelatedTo (collect_as v s) (after_as v (collect out) (holds e)) (tally_as v (collect out) (holds e) n)
    go (Ok _) = refl
    go (Err x) = r
