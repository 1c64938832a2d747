-- Collect (01): 14, 16, 17, 13; then the file in the output and a zero record; the areas stay. A strip has a file for each part (02, T-08).
--     collected s            the files of the present image's parts, one after another
--     collect_verdict n s     on an output of n bytes
--     collect_written n s, collect_output out s, collect_state n s     answer, output, record and areas afterwards
--     collect_as v s          record and areas by the verdict
-- Assumes nothing.
use Rattle.std.specs.Prelude.{List, [], ◌∷◌, ℕ, ltb, eqb, length, Ok, Err}
use Rattle.history.specs.State.{State, empty_job, image, sound_rule, loaded_rule}
use Rattle.image.specs.Strip.{heights_of, strip_bytes}
use Rattle.verdict.specs.Rules.{refuse_if, judge, Verdict}
use Rattle.verdict.specs.Writer.{written_of, output_of, Written}
use Rattle.verdict.specs.declared.Rule.TheVariants as why

unfoldable pub collected : State → List ℕ
collected s = strip_bytes s.job.width (heights_of s.job.strip) (image s)

unfoldable pub collect_verdict : ℕ → State → Verdict
collect_verdict n s =
    judge (sound_rule s ∷ loaded_rule s ∷ refuse_if (eqb s.job.stage 1) why.NotStable 0 ∷ refuse_if (ltb n (length (collected s))) why.AreaShort 0 ∷ [])

unfoldable pub collect_written : ℕ → State → Written
collect_written n s = written_of (collect_verdict n s) (collected s)

unfoldable pub collect_output : List ℕ → State → List ℕ
collect_output out s = output_of (collect_verdict (length out) s) (collected s) out

abbrev pub collect_as : Verdict → State → State
collect_as (Ok _) s = record { job = empty_job; first = s.first; second = s.second }
collect_as (Err r) s = s

unfoldable pub collect_state : ℕ → State → State
collect_state n s = collect_as (collect_verdict n s) s
