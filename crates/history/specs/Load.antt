-- Load (01): 14, 15, table, source, 13; then the image in the first area, stage 1, counts 0, and the parts of the source.
--     areas_rule x n m      13: both areas are tested
--     admit_rules t s       14, 15, table
--     load_rules t x s      what a load is refused by, in 01's order
--     load_verdict t x s    accepted, or number and place
--     loaded_job t x        the record afterwards
--     load_state t x s      record and areas afterwards: the second area stays; load_as v t x s: by the verdict
-- Assumes nothing.
use Rattle.std.specs.Prelude.{not, ◌||◌, List, [], ◌∷◌, ◌++◌, ℕ, ◌*◌, ltb, eqb, length, Ok, Err}
use Rattle.history.specs.declared.Job.{Job}
use Rattle.history.specs.Source.{Source, source_verdict, source_width, source_height, source_parts, source_pixels}
use Rattle.history.specs.State.{State, sound_rule}
use Rattle.image.specs.Strip.{strip_of, no_counts}
use Rattle.table.specs.declared.Table.{Table}
use Rattle.table.specs.Record.{record_verdict}
use Rattle.verdict.specs.Rules.{refuse_if, judge, Verdict}
use Rattle.verdict.specs.Writer.{over}
use Rattle.verdict.specs.declared.Rule.TheVariants as why

-- 13: both areas are tested
abbrev pub areas_rule : Source → ℕ → ℕ → Verdict
areas_rule x n m = refuse_if (ltb n (source_width x * source_height x) || ltb m (source_width x * source_height x)) why.AreaShort 0

-- what does not depend on the source
abbrev pub admit_rules : Table → State → List Verdict
admit_rules t s = sound_rule s ∷ refuse_if (not (eqb s.job.stage 0)) why.NotCollected 0 ∷ record_verdict t ∷ []

abbrev pub load_rules : Table → Source → State → List Verdict
load_rules t x s = admit_rules t s ++ source_verdict x ∷ areas_rule x (length s.first) (length s.second) ∷ []

unfoldable pub load_verdict : Table → Source → State → Verdict
load_verdict t x s = judge (load_rules t x s)

unfoldable pub loaded_job : Table → Source → Job
loaded_job t x =
    record {
      stage = 1;
      width = source_width x;
      height = source_height x;
      passes = 0;
      added = 0;
      removed = 0;
      table = t;
      strip = strip_of (source_width x) (source_parts x);
      counts = no_counts;
    }

abbrev pub load_as : Verdict → Table → Source → State → State
load_as (Ok _) t x s = record { job = loaded_job t x; first = over (source_pixels x) s.first; second = s.second }
load_as (Err r) t x s = s

unfoldable pub load_state : Table → Source → State → State
load_state t x s = load_as (load_verdict t x s) t x s
