-- One pass over a strip (02, T-08): what it answers, and what it leaves in the area that it fills.
--     cross_verdict t p px n       the table's rules; those of the strip with its pixel bytes; 13 on an area of n bytes
--     across t p px               the strip after one pass, as one image
--     overfull room a b           from a to b more pixels change than there is room for
--     uncrossed                   no pass is made, since there is no room for it
--     crossed t p room px n       the answer, or the refusal; crossed_if b ..: by whether there is room
--     crossed_area t p room px area    the area afterwards; crossed_area_as v ..: by that verdict
-- Assumes nothing.
use Rattle.std.specs.Prelude.{Bool, true, false, cond, List, [], ◌∷◌, ℕ, ◌+◌, ltb, length, Ok, Err, Result}
use Rattle.filter.specs.declared.Crossed.{Crossed}
use Rattle.filter.specs.declared.End.TheVariants as ending
use Rattle.image.specs.declared.strip.Strip.{Strip}
use Rattle.image.specs.File.{area_rule}
use Rattle.image.specs.Strip.{heights_of, strip_width, strip_height, strip_verdict, no_counts}
use Rattle.operator.specs.Image.{added, removed, differs}
use Rattle.operator.specs.Parts.{part_counts}
use Rattle.operator.specs.Pass.{pass}
use Rattle.table.specs.declared.Table.{Table}
use Rattle.table.specs.Record.{record_verdict}
use Rattle.verdict.specs.Rules.{judge, result_of, Verdict, Refusal}
use Rattle.verdict.specs.Writer.{over}

unfoldable pub cross_verdict : Table → Strip → List ℕ → ℕ → Verdict
cross_verdict t p px n = judge (record_verdict t ∷ strip_verdict p px ∷ area_rule (strip_width p) (strip_height p) n ∷ [])

unfoldable pub across : Table → Strip → List ℕ → List ℕ
across t p px = pass t (strip_width p) (strip_height p) px

abbrev pub overfull : ℕ → List ℕ → List ℕ → Bool
overfull room a b = ltb room (added a b + removed a b)

abbrev pub uncrossed : Crossed
uncrossed = record { added = 0; removed = 0; parts = no_counts; end = ending.Full }

abbrev pub crossed_if : Bool → Strip → List ℕ → List ℕ → Crossed
crossed_if true p a b = uncrossed
crossed_if false p a b =
    record {
      added = added a b;
      removed = removed a b;
      parts = part_counts (strip_width p) (heights_of p) a b;
      end = cond (differs a b) ending.Limit ending.Stable;
    }

unfoldable pub crossed : Table → Strip → ℕ → List ℕ → ℕ → Result Crossed Refusal
crossed t p room px n = result_of (cross_verdict t p px n) (crossed_if (overfull room px (across t p px)) p px (across t p px))

abbrev pub crossed_area_as : Verdict → Table → Strip → ℕ → List ℕ → List ℕ → List ℕ
crossed_area_as (Ok _) t p room px area = cond (overfull room px (across t p px)) area (over (across t p px) area)
crossed_area_as (Err r) t p room px area = area

unfoldable pub crossed_area : Table → Strip → ℕ → List ℕ → List ℕ → List ℕ
crossed_area t p room px area = crossed_area_as (cross_verdict t p px (length area)) t p room px area
