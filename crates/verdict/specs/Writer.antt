-- What a writer answers and leaves in the memory that it was lent.
--     Written             the length of the file, or the refusal
--     over file out       the file at the front of out, and out's own bytes past it
--     written_of v file    the file's length, or the refusal
--     output_of v file out     the memory afterwards: a refusal alters nothing
-- Assumes nothing.
use Rattle.std.specs.Prelude.{List, ◌++◌, ℕ, length, drop, Ok, Err, Result}
use Rattle.verdict.specs.Rules.{Verdict, result_of, Refusal}

abbrev pub Written : Type 0
Written = Result ℕ Refusal

unfoldable pub over : List ℕ → List ℕ → List ℕ
over file out = file ++ drop (length file) out

abbrev pub written_of : Verdict → List ℕ → Written
written_of v file = result_of v (length file)

abbrev pub output_of : Verdict → List ℕ → List ℕ → List ℕ
output_of (Ok _) file out = over file out
output_of (Err r) file out = out
