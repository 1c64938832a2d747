-- The relation between record, areas and history that every call keeps.
--     stage_of b          the stage, with or without the mark
--     step_counts e       what each part gained and lost
--     job_of e            the record that an entry says
--     Held s e n         record and areas hold the entry e, after n accepted passes since the load
--     Related w          the relation, after any list of calls
--     stage_of_lem, stage_one, stage_two     the stage of a record that holds an entry tells whether the mark stands
-- Assumes nothing.
use Rattle.std.specs.Prelude.{Ok}
use mathlib.Core.Bool.{Bool, true, false, cond}
use mathlib.Core.Path.{◌≡◌, refl, ap}
use Prim.Native.Nat.{ℕ, ◌*◌, ◌≤◌}
use native.Mathlib.Omega.{arith}
use lib.ListN.{length}
use Rattle.operator.specs.Image.{IsImage, added, removed}
use Rattle.operator.specs.Pass as operator
use Rattle.history.specs.declared.Job.{Job}
use Rattle.history.specs.History.{Entry, History, empty, holds}
use Rattle.history.specs.Lists.{Course, first_of, over_steps}
use Rattle.history.specs.State.{State, empty_job, image}
use Rattle.history.proofs.Row.{Row}
use Rattle.history.proofs.Parts.{GoodParts}
use Rattle.image.proofs.Shapes.{Listed}
use Rattle.image.specs.declared.strip.PartCounts.{PartCounts}
use Rattle.image.specs.Strip.{max_parts, strip_of}
use Rattle.operator.specs.Parts.{added_in, removed_in}
use Rattle.seq.specs.Tab.{tab}
use Rattle.table.specs.Record.{record_verdict}

-- stage 2 with the mark, else 1
abbrev pub stage_of : Bool → ℕ
stage_of b = cond b 2 1

-- what each part gained and lost, over all steps
unfoldable pub step_counts : Entry → PartCounts
step_counts e =
    record {
      added = tab (λ i. over_steps (λ a b. added_in e.width e.parts a b i) e) max_parts;
      removed = tab (λ i. over_steps (λ a b. removed_in e.width e.parts a b i) e) max_parts;
    }

abbrev pub job_of : Entry → Job
job_of e =
    record {
      stage = stage_of e.settled;
      width = e.width;
      height = e.height;
      passes = length e.earlier;
      added = over_steps added e;
      removed = over_steps removed e;
      table = e.table;
      strip = strip_of e.width e.parts;
      counts = step_counts e;
    }

pub record Held (s : State) (e : Entry) (n : ℕ) : Type 0 where
  pub job : s.job ≡ job_of e
  -- the table was accepted, and the parts are as 14 wants them
  pub accepted : record_verdict e.table ≡ Ok tt
  pub parts : GoodParts (job_of e)
  pub listed : Listed e.width e.parts
  pub first_long : e.width * e.height ≤ length s.first
  pub second_long : e.width * e.height ≤ length s.second
  -- the present image is the last of a row of passes from an image
  pub shown : image s ≡ e.last
  pub begun : IsImage e.width e.height (first_of e)
  pub row : Row e.table e.width e.height e.last e.earlier
  pub stable : e.settled ≡ true → operator.Stable e.table e.width e.height e.last
  -- and the first image after all accepted passes, quiet ones too
  pub tallied : operator.passes e.table e.width e.height n (first_of e) ≡ e.last

abbrev pub RelatedTo : State → History → ℕ → Type 0
RelatedTo s empty n = s.job ≡ empty_job
RelatedTo s (holds e) n = Held s e n

abbrev pub Related : Course → Type 0
Related w = RelatedTo w.state w.history w.tally

-- the stage of a record that holds an entry
pub stage_of_lem : {s : State} {e : Entry} {n : ℕ} → Held s e n → s.job.stage ≡ stage_of e.settled
stage_of_lem r = ap (λ (j : Job). j.stage) r.job

pub stage_one : (b : Bool) → stage_of b ≡ 1 → b ≡ false
stage_one true q = absurd (omega arith)
stage_one false q = refl

pub stage_two : (b : Bool) → stage_of b ≡ 2 → b ≡ true
stage_two true q = refl
stage_two false q = absurd (omega arith)
