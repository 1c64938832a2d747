-- Pass (01): 14, 16; at stage 1 the new image goes to the other area; 14's pass clause comes last.
--     Outcome            an answer, and record and areas afterwards
--     next_image s        the image after one pass on the present one
--     now_added s, now_removed s      the record's counts with that pass
--     now_counts s        those of the parts
--     exceeds s          14's pass clause: passes, or added + removed, would rise above the pixels
--     with_next j s       the record j, and the new image in the area that does not hold the present one
--     changed_job s, stable_job s     the record after a pass that changes pixels, and after one that changes none
--     changing s         a pass at stage 1 that changes pixels; pass_loaded s: any pass at stage 1
--     pass_ready s        a pass on a sound record that has an image; at rest it does nothing
--     pass_of s           what a pass does; pass_as v s: by the verdict of 14 and 16
-- Assumes nothing.
use Rattle.std.specs.Prelude.{Bool, cond, ◌||◌, List, ℕ, ◌+◌, ltb, eqb, Ok, Err}
use Rattle.history.specs.Answers.{Passed}
use Rattle.history.specs.declared.Effect.TheVariants.{Changed, Stable}
use Rattle.operator.specs.Image.{added, removed, differs}
use Rattle.operator.specs.Parts.{part_counts, summed}
use Rattle.operator.specs.Pass.{pass}
use Rattle.history.specs.declared.Job.{Job}
use Rattle.history.specs.State.{State, pixels, even, image, ready_verdict}
use Rattle.image.specs.declared.strip.PartCounts.{PartCounts}
use Rattle.image.specs.Strip.{heights_of}
use Rattle.verdict.specs.Rules.{refusal, Verdict}
use Rattle.verdict.specs.Writer.{over}
use Rattle.verdict.specs.declared.Rule.TheVariants as why

pub record Outcome : Type 0 where
  pub answer : Passed
  pub state : State

unfoldable pub next_image : State → List ℕ
next_image s = pass s.job.table s.job.width s.job.height (image s)

unfoldable pub now_added : State → ℕ
now_added s = s.job.added + added (image s) (next_image s)

unfoldable pub now_removed : State → ℕ
now_removed s = s.job.removed + removed (image s) (next_image s)

unfoldable pub now_counts : State → PartCounts
now_counts s = summed s.job.counts (part_counts s.job.width (heights_of s.job.strip) (image s) (next_image s))

unfoldable pub exceeds : State → Bool
exceeds s = ltb (pixels s.job) (s.job.passes + 1) || ltb (pixels s.job) (now_added s + now_removed s)

unfoldable pub with_next : Job → State → State
with_next j s =
    cond (even s.job.passes)
    (record { job = j; first = s.first; second = over (next_image s) s.second })
    (record { job = j; first = over (next_image s) s.first; second = s.second })

unfoldable pub changed_job : State → Job
changed_job s =
    record {
      stage = 1;
      width = s.job.width;
      height = s.job.height;
      passes = s.job.passes + 1;
      added = now_added s;
      removed = now_removed s;
      table = s.job.table;
      strip = s.job.strip;
      counts = now_counts s;
    }

unfoldable pub stable_job : State → Job
stable_job s =
    record {
      stage = 2;
      width = s.job.width;
      height = s.job.height;
      passes = s.job.passes;
      added = s.job.added;
      removed = s.job.removed;
      table = s.job.table;
      strip = s.job.strip;
      counts = s.job.counts;
    }

unfoldable pub changing : State → Outcome
changing s =
    cond (exceeds s)
    (record { answer = Err (refusal why.Unsound 0); state = s })
    (record { answer = (Ok Changed); state = with_next (changed_job s) s })

unfoldable pub pass_loaded : State → Outcome
pass_loaded s = cond (differs (image s) (next_image s)) (changing s) (record { answer = (Ok Stable); state = with_next (stable_job s) s })

unfoldable pub pass_ready : State → Outcome
pass_ready s = cond (eqb s.job.stage 2) (record { answer = (Ok Stable); state = s }) (pass_loaded s)

abbrev pub pass_as : Verdict → State → Outcome
pass_as (Ok _) s = pass_ready s
pass_as (Err r) s = record { answer = Err r; state = s }

unfoldable pub pass_of : State → Outcome
pass_of s = pass_as (ready_verdict s) s
