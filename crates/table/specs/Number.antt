-- Numbers in groups of seven bits, lowest first (01, The table).
--     run bytes           how many bytes, from the first on, have bit 7 set
--     more bytes          the same of the first four bytes
--     size bytes          the bytes that the number takes
--     groups bytes        what the bytes make as groups
--     value bytes         the number
--     ends bytes          rule 1: the bytes end within or before the number
--     too_long bytes       rule 2: the fourth group has bit 7 set; not_fewest bytes: the last of several groups is 0
--     number_rules p bytes the rules 1 and 2 on the number that the bytes start with, at place p
--     group_count n        how many groups the number needs
--     group n j           group j of n, with bit 7 where more follow
--     number_bytes n       the number in the fewest groups
-- Assumes nothing.
use Rattle.std.specs.Prelude.{Bool, cond, ◌&&◌, List, [], ◌∷◌, ℕ, suc, ◌+◌, ◌*◌, ◌/◌, ◌%◌, ◌^◌, leb, ltb, eqb, length, get_or, take}
use Rattle.seq.specs.Lists.{one}
use Rattle.seq.specs.Tab.{tab}
use Rattle.verdict.specs.Rules.{refuse_if, Verdict}
use Rattle.verdict.specs.declared.Rule.TheVariants as why

abbrev pub run : List ℕ → ℕ
run [] = 0
run (b ∷ bs) = cond (leb 128 b) (suc (run bs)) 0

unfoldable pub more : List ℕ → ℕ
more bytes = run (take 4 bytes)

unfoldable pub size : List ℕ → ℕ
size bytes = more bytes + 1

abbrev pub groups : List ℕ → ℕ
groups [] = 0
groups (b ∷ bs) = b % 128 + 128 * groups bs

unfoldable pub value : List ℕ → ℕ
value bytes = groups (take (size bytes) bytes)

unfoldable pub ends : List ℕ → Bool
ends bytes = ltb (more bytes) 4 && leb (length bytes) (more bytes)

unfoldable pub too_long : List ℕ → Bool
too_long bytes = leb 4 (more bytes)

unfoldable pub not_fewest : List ℕ → Bool
not_fewest bytes = leb 1 (more bytes) && eqb (get_or bytes (more bytes) 0) 0

abbrev pub number_rules : ℕ → List ℕ → List Verdict
number_rules place bytes =
    refuse_if (ends bytes) why.NumberEnds place
    ∷ refuse_if (too_long bytes) why.NumberForm place
    ∷ refuse_if (not_fewest bytes) why.NumberForm place
    ∷ []

unfoldable pub group_count : ℕ → ℕ
group_count n = 1 + (one (leb (2 ^ 7) n) + (one (leb (2 ^ 14) n) + one (leb (2 ^ 21) n)))

unfoldable pub group : ℕ → ℕ → ℕ
group n j = n / 128 ^ j % 128 + 128 * one (ltb (j + 1) (group_count n))

unfoldable pub number_bytes : ℕ → List ℕ
number_bytes n = tab (group n) (group_count n)
