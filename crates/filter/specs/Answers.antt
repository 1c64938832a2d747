-- What a pass over slices answers, in 01's terms; a refused answer has no counts.
--     Filtered                                  the counts, or the refusal
--     filtered_added a, filtered_removed a       the pixels that went from 0 to 1, and from 1 to 0
-- Assumes nothing.
use Rattle.std.specs.Prelude.{ℕ, Ok, Err, Result}
use Rattle.filter.specs.declared.Changes.{Changes}
use Rattle.verdict.specs.Rules.{Refusal}

abbrev pub Filtered : Type 0
Filtered = Result Changes Refusal

abbrev pub filtered_added : Filtered → ℕ
filtered_added (Ok x) = x.added
filtered_added (Err r) = 0

abbrev pub filtered_removed : Filtered → ℕ
filtered_removed (Ok x) = x.removed
filtered_removed (Err r) = 0
