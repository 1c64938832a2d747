-- A job: the record and the two work areas (01, The job), and when it is unsound (14).
--     State             record and areas
--     empty_job          every field zero
--     pixels j          width × height
--     even n            2 divides n
--     present s         the area that holds the image: the first when passes is even, else the second
--     image s           the present image
--     short j area      an area is shorter than the image
--     fields_of j        the fields beside the stage, each place of the table's masks and of the parts too
--     nonzero j         one of them is not zero: what 14 asks at stage 0
--     part_fields j      the fields that have a place for each part
--     past_parts j xs    a place past the parts is not zero
--     sums_to n xs       the parts' places sum to n
--     bad_parts j        what 14 asks of the parts (02, T-08)
--     inconsistent s    what 14 asks at stage 1 and 2
--     unsound s         01's 14, without its pass clause
--     sound_rule s, loaded_rule s      14, and 16 at stage 0
--     ready_verdict s    14, 16: what pass, run, view and figures begin with
-- Assumes nothing.
use Rattle.std.specs.Prelude.{Bool, cond, not, ◌&&◌, ◌||◌, List, [], ◌∷◌, ◌++◌, ℕ, ◌+◌, ◌*◌, ◌%◌, ltb, eqb, length, take, drop}
use Rattle.history.specs.declared.Job.{Job}
use Rattle.image.specs.Strip.{padded, strip_width, strip_height, shape_verdict, no_parts, no_counts}
use Rattle.seq.specs.Lists.{any, all, sum_of, join}
use Rattle.table.specs.Record.{zero_table, record_verdict}
use Rattle.verdict.specs.Rules.{refuse_if, judge, is_accepted, Verdict}
use Rattle.verdict.specs.declared.Rule.TheVariants as why

pub record State : Type 0 where
  pub job : Job
  pub first : List ℕ
  pub second : List ℕ

unfoldable pub empty_job : Job
empty_job =
    record { stage = 0; width = 0; height = 0; passes = 0; added = 0; removed = 0; table = zero_table; strip = no_parts; counts = no_counts }

abbrev pub pixels : Job → ℕ
pixels j = j.width * j.height

abbrev pub even : ℕ → Bool
even n = eqb (n % 2) 0

unfoldable pub present : State → List ℕ
present s = cond (even s.job.passes) s.first s.second

unfoldable pub image : State → List ℕ
image s = take (pixels s.job) (present s)

abbrev pub short : Job → List ℕ → Bool
short j area = ltb (length area) (pixels j)

abbrev pub part_fields : Job → List (List ℕ)
part_fields j = j.strip.widths ∷ j.strip.heights ∷ j.counts.added ∷ j.counts.removed ∷ []

abbrev pub fields_of : Job → List ℕ
fields_of j =
    j.width ∷ j.height ∷ j.passes ∷ j.added ∷ j.removed ∷ j.table.count ∷ j.table.ranks ∷ j.strip.parts
    ∷ j.table.elements ++ j.table.persistents ++ join (part_fields j)

unfoldable pub nonzero : Job → Bool
nonzero j = not (all (eqb 0) (fields_of j))

abbrev pub past_parts : Job → List ℕ → Bool
past_parts j xs = not (all (eqb 0) (drop j.strip.parts xs))

-- as numbers: nothing wraps
abbrev pub sums_to : ℕ → List ℕ → Bool
sums_to n xs = eqb n (sum_of (padded xs))

unfoldable pub bad_parts : Job → Bool
bad_parts j =
    not (is_accepted (shape_verdict j.strip))
    || (not (eqb j.width (strip_width j.strip) && eqb j.height (strip_height j.strip))
    || (any (past_parts j) (part_fields j)
    || not (sums_to j.added j.counts.added && sums_to j.removed j.counts.removed)))

unfoldable pub inconsistent : State → Bool
inconsistent s =
    bad_parts s.job
    || (not (is_accepted (record_verdict s.job.table))
    || ((short s.job s.first || short s.job s.second)
    || (any (ltb 1) (image s)
    || (ltb (pixels s.job) s.job.passes || ltb (pixels s.job) (s.job.added + s.job.removed)))))

unfoldable pub unsound : State → Bool
unsound s = ltb 2 s.job.stage || cond (eqb s.job.stage 0) (nonzero s.job) (inconsistent s)

abbrev pub sound_rule : State → Verdict
sound_rule s = refuse_if (unsound s) why.Unsound 0

abbrev pub loaded_rule : State → Verdict
loaded_rule s = refuse_if (eqb s.job.stage 0) why.NothingLoaded 0

unfoldable pub ready_verdict : State → Verdict
ready_verdict s = judge (sound_rule s ∷ loaded_rule s ∷ [])
