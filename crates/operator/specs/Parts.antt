-- What a step changes in the parts of a strip (02, T-08).
--     added_in w hs a b i, removed_in w hs a b i    the pixels of part i that go from 0 in a to 1 in b, and from 1 to 0
--     part_counts w hs a b                         both for each part, zeros past them
--     summed c d                                  the numbers of c and of d, part by part
-- Assumes nothing.
use Rattle.std.specs.Prelude.{List, ℕ, ◌+◌, get_or}
use Rattle.image.specs.declared.strip.PartCounts.{PartCounts}
use Rattle.image.specs.Parts.{part_of}
use Rattle.image.specs.Strip.{max_parts}
use Rattle.operator.specs.Image.{added, removed}
use Rattle.seq.specs.Tab.{tab}

abbrev pub added_in : ℕ → List ℕ → List ℕ → List ℕ → ℕ → ℕ
added_in w hs a b i = added (part_of w hs i a) (part_of w hs i b)

abbrev pub removed_in : ℕ → List ℕ → List ℕ → List ℕ → ℕ → ℕ
removed_in w hs a b i = removed (part_of w hs i a) (part_of w hs i b)

-- a place past the parts stands for no row
unfoldable pub part_counts : ℕ → List ℕ → List ℕ → List ℕ → PartCounts
part_counts w hs a b = record { added = tab (added_in w hs a b) max_parts; removed = tab (removed_in w hs a b) max_parts }

unfoldable pub summed : PartCounts → PartCounts → PartCounts
summed c d =
    record {
      added = tab (λ i. get_or c.added i 0 + get_or d.added i 0) max_parts;
      removed = tab (λ i. get_or c.removed i 0 + get_or d.removed i 0) max_parts;
    }
