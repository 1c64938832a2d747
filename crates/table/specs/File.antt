-- The table file (01 and 02, T-01: 1, 2, then the range rule, number by number; then 8, 5, 7).
--     rest h i          the bytes h without their first i numbers
--     number h i        number i of them
--     skip_if b h        without the first number where b holds
--     several f         the file starts with the number 0: it has several persistent elements
--     body f            the bytes from the element count on; element_count f: that number
--     element_bytes f, rank_bytes f    the bytes behind the element count, and behind the elements
--     rank_count f       the number of persistent elements
--     persistent_bytes f, left_bytes f    the bytes from the first persistent element on, and behind the last
--     first_place f      the place of the first persistent element
--     numbers h n m     the first n numbers of h, in m places, of which the others are 0
--     table_of f         the record that the file's numbers make
--     bytes_left f       rule 8
--     masks_rules h p n bad x    the rules on n masks, number by number from place p on: 1, 2, and x where `bad` holds
--     count_rules f, elements_rules f, ranks_rules f, persistents_rules f, last_rules f    the rules on the numbers of a file, part by part; 8, 5, 7
--     file_parts f       all of them, in their order
--     file_verdict f     accepted, or number and place
--     read_table f       the reader's answer
--     record_of a        its record, zero where the file is refused
--     if_several t n     the number n, in a file of several persistent elements
--     masks_bytes ms     masks, one after the other
--     table_bytes t      the file of a record
--     table_verdict t n, written_table t n, table_output t out    the writer on n bytes of output
-- Assumes nothing.
use Rattle.std.specs.Prelude.{Bool, not, cond, List, [], ◌∷◌, ◌++◌, map, ℕ, zero, suc, ◌+◌, ltb, eqb, length, drop, Result, Ok, Err}
use Rattle.seq.specs.Lists.{one, join}
use Rattle.seq.specs.Tab.{tab, up_to}
use Rattle.table.specs.declared.Table.{Table}
use Rattle.table.specs.Number.{size, value, number_rules, number_bytes}
use Rattle.table.specs.Record.{max_elements, max_ranks, masks, persistents, bad_ranks, bad_element, bad_persistent, count_rule, meet_rule, persist_rule, record_verdict, zero_table}
use Rattle.verdict.specs.declared.Rule.{Rule}
use Rattle.verdict.specs.Rules.{refuse_if, or_else, judge, Verdict, result_of, Refusal}
use Rattle.verdict.specs.Writer.{written_of, output_of, Written}
use Rattle.verdict.specs.declared.Rule.TheVariants as why

abbrev pub rest : List ℕ → ℕ → List ℕ
rest h zero = h
rest h (suc i) = drop (size (rest h i)) (rest h i)

abbrev pub number : List ℕ → ℕ → ℕ
number h i = value (rest h i)

abbrev pub skip_if : Bool → List ℕ → List ℕ
skip_if b h = cond b (rest h 1) h

unfoldable pub several : List ℕ → Bool
several f = eqb (number f 0) 0

unfoldable pub body : List ℕ → List ℕ
body f = skip_if (several f) f

abbrev pub element_count : List ℕ → ℕ
element_count f = number (body f) 0

abbrev pub element_bytes : List ℕ → List ℕ
element_bytes f = rest (body f) 1

unfoldable pub rank_bytes : List ℕ → List ℕ
rank_bytes f = rest (element_bytes f) (element_count f)

unfoldable pub rank_count : List ℕ → ℕ
rank_count f = cond (several f) (number (rank_bytes f) 0) 1

unfoldable pub persistent_bytes : List ℕ → List ℕ
persistent_bytes f = skip_if (several f) (rank_bytes f)

abbrev pub left_bytes : List ℕ → List ℕ
left_bytes f = rest (persistent_bytes f) (rank_count f)

unfoldable pub first_place : List ℕ → ℕ
first_place f = element_count f + 1 + one (several f)

unfoldable pub numbers : List ℕ → ℕ → ℕ → List ℕ
numbers h n m = tab (λ k. cond (ltb k n) (number h k) 0) m

unfoldable pub table_of : List ℕ → Table
table_of f =
    record {
      count = element_count f;
      elements = numbers (element_bytes f) (element_count f) max_elements;
      ranks = rank_count f;
      persistents = numbers (persistent_bytes f) (rank_count f) max_ranks;
    }

unfoldable pub bytes_left : List ℕ → Bool
bytes_left f = not (eqb (length (left_bytes f)) 0)

abbrev pub masks_rules : List ℕ → ℕ → ℕ → (ℕ → Bool) → Rule → List Verdict
masks_rules h p n bad x = join (map (λ k. number_rules (p + k) (rest h k) ++ refuse_if (bad k) x (p + k) ∷ []) (up_to n))

abbrev pub count_rules : List ℕ → List Verdict
count_rules f = number_rules 0 (body f) ++ count_rule (table_of f) ∷ []

abbrev pub elements_rules : List ℕ → List Verdict
elements_rules f = masks_rules (element_bytes f) 1 (element_count f) (bad_element (table_of f)) why.ElementRange

abbrev pub ranks_rules : List ℕ → List Verdict
ranks_rules f =
    cond (several f)
    (number_rules (element_count f + 1) (rank_bytes f) ++ refuse_if (bad_ranks 2 (rank_count f)) why.RankCount (element_count f + 1) ∷ [])
    []

abbrev pub persistents_rules : List ℕ → List Verdict
persistents_rules f = masks_rules (persistent_bytes f) (first_place f) (rank_count f) (bad_persistent (table_of f)) why.PersistentRange

abbrev pub last_rules : List ℕ → List Verdict
last_rules f =
    refuse_if (bytes_left f) why.BytesLeft (first_place f + rank_count f)
    ∷ meet_rule (table_of f)
    ∷ persist_rule (table_of f)
    ∷ []

-- without a leading 0 the body is the file, and the first two parts judge the same number
abbrev pub file_parts : List ℕ → List (List Verdict)
file_parts f =
    number_rules 0 f
    ∷ count_rules f
    ∷ elements_rules f
    ∷ ranks_rules f
    ∷ persistents_rules f
    ∷ last_rules f
    ∷ []

unfoldable pub file_verdict : List ℕ → Verdict
file_verdict f = judge (join (file_parts f))

unfoldable pub read_table : List ℕ → Result Table Refusal
read_table f = result_of (file_verdict f) (table_of f)

abbrev pub record_of : Result Table Refusal → Table
record_of (Ok t) = t
record_of (Err r) = zero_table

abbrev pub if_several : Table → ℕ → List ℕ
if_several t n = cond (eqb t.ranks 1) [] (number_bytes n)

abbrev pub masks_bytes : List ℕ → List ℕ
masks_bytes ms = join (map number_bytes ms)

unfoldable pub table_bytes : Table → List ℕ
table_bytes t = if_several t 0 ++ number_bytes t.count ++ masks_bytes (masks t) ++ if_several t t.ranks ++ masks_bytes (persistents t)

unfoldable pub table_verdict : Table → ℕ → Verdict
table_verdict t n = or_else (record_verdict t) (refuse_if (ltb n (length (table_bytes t))) why.AreaShort 0)

unfoldable pub written_table : Table → ℕ → Written
written_table t n = written_of (table_verdict t n) (table_bytes t)

unfoldable pub table_output : Table → List ℕ → List ℕ
table_output t out = output_of (table_verdict t (length out)) (table_bytes t) out
