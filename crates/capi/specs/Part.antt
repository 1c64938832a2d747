-- View for C (01: a part of one of the two areas; a refused view shows an empty part). C is told the area and how many bytes.
--     part_of s       the refusal by 14 and 16; area 1 or 2 by the parity of passes, and width × height; 0 and 0 where it is refused
--     part_as v s     the same by the verdict
--     area_of n s     the area of a number: 1 the first, 2 the second, else none
--     shown p s      the bytes that an answer names: the first of its area
--     Shows p s      they are the view, and the area has that many
-- Assumes nothing.
use Rattle.std.specs.Prelude.{cond, List, [], ◌≡◌, ℕ, ◌≤◌, eqb, take, Ok, Err}
use Rattle.std.proofs.Math.ListN as list
use Rattle.capi.specs.declared.Part.{Part}
use Rattle.capi.specs.Answers.{of_verdict}
use Rattle.history.specs.State.{State, pixels, even, ready_verdict}
use Rattle.history.specs.View.{view_of}
use Rattle.verdict.specs.Rules.{Verdict}

abbrev pub part_as : Verdict → State → Part
part_as (Ok _) s = record { checked = of_verdict (Ok tt); area = cond (even s.job.passes) 1 2; length = pixels s.job }
part_as (Err r) s = record { checked = of_verdict (Err r); area = 0; length = 0 }

unfoldable pub part_of : State → Part
part_of s = part_as (ready_verdict s) s

abbrev pub area_of : ℕ → State → List ℕ
area_of n s = cond (eqb n 1) s.first (cond (eqb n 2) s.second [])

abbrev pub shown : Part → State → List ℕ
shown p s = take p.length (area_of p.area s)

pub record Shows (p : Part) (s : State) : Type 0 where
  pub bytes : shown p s ≡ view_of s
  pub inside : p.length ≤ list.length (area_of p.area s)
