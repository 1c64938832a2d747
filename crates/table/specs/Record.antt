-- The verdict on a table record (01: 3, 4, 6, 5, 7; 02, T-01: 18 before 6; T-07: the witnesses of 5 and 7).
--     max_elements         the most elements of a table, and the element places of a record
--     max_ranks            the most persistent elements of a table, and their places in a record
--     element t k         element place k, from 0; persistent_at t r: the place of a persistent element (02: keeper), from 0
--     masks t             the elements
--     persistents t       the persistent elements
--     zero_table           every field zero
--     bad_count n          rule 3: n is no number of elements
--     bad_ranks least n    rule 18: n is no number of persistent elements, where there are `least` or more
--     not_rising ms k      mask k of the list ms is not above the one before
--     bad_mask ms k        mask k has no position, a bit that is none, or does not rise
--     bad_element t k      rule 4 on an element; bad_persistent t r: rule 6 on a persistent element
--     bad_place ms n bad k    on any place k of a record, of which n are in use: `bad k` on those, and the others are zero
--     disjoint_from t k    rule 5: the lowest earlier element that shares no position with element k
--     missed_by t k        rule 7: the lowest of the persistent elements that is not persistent for element k
--     from_one o           what a search found, counted from 1; 0 where it found nothing
--     missed_at t k        the lowest position of that persistent element that has no partner in element k
--     apart_refusal t k    5 at element k, with that earlier element; missed_refusal t k: 7 at element k, with that persistent element's rank and the position
--     persistent_place t r    the place of a persistent element: count + 1 and its rank from 1, but count + 1 where it is the only one
--     count_rule t, places_rule t, ranks_rule t, persistent_rule t, meet_rule t, persist_rule t     3, 4, 18, 6, 5, 7 with their places
--     record_rules t       the rules, in their order
--     record_verdict t     accepted, or number and place
-- Assumes nothing.
use Rattle.std.specs.Prelude.{Bool, not, cond, ◌&&◌, ◌||◌, List, [], ◌∷◌, ℕ, suc, ◌+◌, ◌-◌, leb, ltb, eqb, get_or, take, replicate, Option, option_map, is_some, unwrap_or}
use Rattle.seq.specs.Bits.{bit}
use Rattle.seq.specs.Tab.{first}
use Rattle.table.specs.declared.Table.{Table}
use Rattle.table.specs.Mask.{centre, valid_mask, meets, unpartnered, persistent_for}
use Rattle.verdict.specs.Rules.{witnessed, refuse_if, refuse_by, refuse_at, judge, Verdict, Refusal}
use Rattle.verdict.specs.declared.Rule.TheVariants as why

abbrev pub max_elements : ℕ
max_elements = 64

abbrev pub max_ranks : ℕ
max_ranks = 4

abbrev pub element : Table → ℕ → ℕ
element t k = get_or t.elements k 0

abbrev pub persistent_at : Table → ℕ → ℕ
persistent_at t r = get_or t.persistents r 0

unfoldable pub masks : Table → List ℕ
masks t = take t.count t.elements

unfoldable pub persistents : Table → List ℕ
persistents t = take t.ranks t.persistents

abbrev pub zero_table : Table
zero_table = record { count = 0; elements = replicate max_elements 0; ranks = 0; persistents = replicate max_ranks 0 }

unfoldable pub bad_count : ℕ → Bool
bad_count n = not (leb 1 n && leb n max_elements)

unfoldable pub bad_ranks : ℕ → ℕ → Bool
bad_ranks least n = not (leb least n && leb n max_ranks)

unfoldable pub not_rising : List ℕ → ℕ → Bool
not_rising ms k = leb 1 k && leb (get_or ms k 0) (get_or ms (k - 1) 0)

unfoldable pub bad_mask : List ℕ → ℕ → Bool
bad_mask ms k = not (valid_mask (get_or ms k 0)) || not_rising ms k

unfoldable pub bad_element : Table → ℕ → Bool
bad_element t k = bit (element t k) centre || bad_mask t.elements k

unfoldable pub bad_persistent : Table → ℕ → Bool
bad_persistent t r = bad_mask t.persistents r

unfoldable pub bad_place : List ℕ → ℕ → (ℕ → Bool) → ℕ → Bool
bad_place ms n bad k = cond (ltb k n) (bad k) (not (eqb (get_or ms k 0) 0))

unfoldable pub disjoint_from : Table → ℕ → Option ℕ
disjoint_from t k = first (λ j. not (meets (element t k) (element t j))) k

unfoldable pub missed_by : Table → ℕ → Option ℕ
missed_by t k = first (λ r. not (persistent_for (persistent_at t r) (element t k))) t.ranks

abbrev pub from_one : Option ℕ → ℕ
from_one o = unwrap_or (option_map suc o) 0

unfoldable pub missed_at : Table → ℕ → ℕ
missed_at t k = unwrap_or (unpartnered (persistent_at t (unwrap_or (missed_by t k) 0)) (element t k)) 0

abbrev pub apart_refusal : Table → ℕ → Refusal
apart_refusal t k = witnessed why.ElementsDisjoint (suc k) (from_one (disjoint_from t k)) 0

abbrev pub missed_refusal : Table → ℕ → Refusal
missed_refusal t k = witnessed why.NotPersistent (suc k) (from_one (missed_by t k)) (missed_at t k)

unfoldable pub persistent_place : Table → ℕ → ℕ
persistent_place t r = cond (eqb t.ranks 1 && eqb r 0) (t.count + 1) (t.count + 2 + r)

abbrev pub count_rule : Table → Verdict
count_rule t = refuse_if (bad_count t.count) why.ElementCount 0

abbrev pub places_rule : Table → Verdict
places_rule t = refuse_at (first (bad_place t.elements t.count (bad_element t)) max_elements) why.ElementRange suc

abbrev pub ranks_rule : Table → Verdict
ranks_rule t = refuse_if (bad_ranks 1 t.ranks) why.RankCount (t.count + 1)

abbrev pub persistent_rule : Table → Verdict
persistent_rule t = refuse_at (first (bad_place t.persistents t.ranks (bad_persistent t)) max_ranks) why.PersistentRange (persistent_place t)

abbrev pub meet_rule : Table → Verdict
meet_rule t = refuse_by (first (λ k. is_some (disjoint_from t k)) t.count) (apart_refusal t)

abbrev pub persist_rule : Table → Verdict
persist_rule t = refuse_by (first (λ k. is_some (missed_by t k)) t.count) (missed_refusal t)

abbrev pub record_rules : Table → List Verdict
record_rules t =
    count_rule t
    ∷ places_rule t
    ∷ ranks_rule t
    ∷ persistent_rule t
    ∷ meet_rule t
    ∷ persist_rule t
    ∷ []

unfoldable pub record_verdict : Table → Verdict
record_verdict t = judge (record_rules t)
