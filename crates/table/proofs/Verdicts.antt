-- The record's verdict, rule by rule.
--     count_le, ranks_le                the rules 3 and 18 bound the counts
--     lowest_bad_element t, lowest_persistent t, lowest_apart t, lowest_missed t      what the rules 4, 6, 5 and 7 find
--     places_search, ranks_search    as the code searches for it; element_found, persistent_found: it is a place
--     apart_lt, missed_lt            the witnesses of the rules 5 and 7;
--         meets_each, persistent_each: an element that has none
--     meet_refused, persist_refused     these rules, where something is found
--     record_count, record_place, record_persistents       the first rule that fails speaks
--     persistent_refused, persistents_accepted     the first of the rules behind those on the elements
--     Sound t, record_sound, sound_record    what an accepted record has passed, both ways
--     record_says, record_numbers    what a record is refused by, and by which numbers
-- Assumes nothing.
use Rattle.std.specs.Prelude.{Option, None, Some, is_some, Ok, Err}
use mathlib.Core.Bool.{true, false, not}
use mathlib.Core.List.{[], ◌∷◌}
use mathlib.Core.Path.{◌≡◌, refl, sym, ap, ◌∙◌}
use Prim.Native.Nat.{ℕ, suc, ◌+◌, ◌≤◌, ◌<◌}
use native.Mathlib.Numerals.{add-one}
use borrow.Author.Tests.{not-false}
use lib.ListN.{length}
use Rattle.seq.specs.Tab.{first}
use Rattle.verdict.specs.declared.Rule.TheVariants as why
use Rattle.seq.proofs.Members.{not_some}
use Rattle.seq.proofs.Tab.{first_found, first_nothing}
use Rattle.seq.proofs.Tests.{between}
use Rattle.table.specs.declared.Table.{Table}
use Rattle.table.specs.declared.mask.Kind.TheVariants.{Element, Persistent}
use Rattle.table.specs.Code.Search.{bad_of, lowest_bad, behind_elements}
use Rattle.table.specs.Record.{max_elements, max_ranks, element, persistent_at, bad_count, bad_ranks, bad_element, bad_persistent, bad_place, disjoint_from, missed_by, missed_at, apart_refusal, missed_refusal, persistent_place, count_rule, places_rule, ranks_rule, persistent_rule, meet_rule, persist_rule, record_verdict}
use Rattle.table.specs.Mask.{meets, unpartnered, persistent_for}
use Rattle.table.proofs.Judging.{four_accepted}
use Rattle.verdict.specs.Numbers.{Says, accepts, by, OneOf}
use Rattle.verdict.specs.Rules.{witnessed, refusal, or_else, judge, Refusal}
use Rattle.verdict.proofs.Numbers.{says_if, says_by, says_at, says_or}
use Rattle.verdict.proofs.Rules.{refuse_if_accepted, refuse_at_accepted, or_else_accepted, or_else_left, or_else_right}

-- what the rules 4, 6, 5 and 7 find
abbrev pub lowest_bad_element : Table → Option ℕ
lowest_bad_element t = first (bad_place t.elements t.count (bad_element t)) max_elements

abbrev pub lowest_persistent : Table → Option ℕ
lowest_persistent t = first (bad_place t.persistents t.ranks (bad_persistent t)) max_ranks

abbrev pub lowest_apart : Table → Option ℕ
lowest_apart t = first (λ k. is_some (disjoint_from t k)) t.count

abbrev pub lowest_missed : Table → Option ℕ
lowest_missed t = first (λ k. is_some (missed_by t k)) t.count

pub ranks_le : (least n : ℕ) → bad_ranks least n ≡ false → (least ≤ n) × (n ≤ max_ranks)
unfolding bad_ranks
ranks_le least n e = between least n max_ranks (not-false _ e)

pub count_le : (n : ℕ) → bad_count n ≡ false → n ≤ max_elements
unfolding bad_count
count_le n e = (between 1 n max_elements (not-false _ e)).1

-- the rule on the places, as the code's search over a list of all of them answers it
pub places_search : (t : Table) → length t.elements ≡ max_elements → lowest_bad Element t.elements t.count ≡ lowest_bad_element t
unfolding lowest_bad bad_of bad_element
places_search t e = ap (first (bad_place t.elements t.count (bad_element t))) e

pub ranks_search : (t : Table) → length t.persistents ≡ max_ranks → lowest_bad Persistent t.persistents t.ranks ≡ lowest_persistent t
unfolding lowest_bad bad_of bad_persistent
ranks_search t e = ap (first (bad_place t.persistents t.ranks (bad_persistent t))) e

-- what they find is a place
pub element_found : (t : Table) {k : ℕ} → lowest_bad_element t ≡ Some k → k < max_elements
element_found t {k} e = (first_found (bad_place t.elements t.count (bad_element t)) max_elements k e).below

pub persistent_found : (t : Table) {r : ℕ} → lowest_persistent t ≡ Some r → r < max_ranks
persistent_found t {r} e = (first_found (bad_place t.persistents t.ranks (bad_persistent t)) max_ranks r e).below

module _ (t : Table) where
  pub record_count : bad_count t.count ≡ true → record_verdict t ≡ Err (refusal why.ElementCount 0)
  unfolding record_verdict bad_count
  record_count e = simp e

  module _ (counted : bad_count t.count ≡ false) where
    pub record_place : (k : ℕ) → lowest_bad_element t ≡ Some k → record_verdict t ≡ Err (refusal why.ElementRange (k + 1))
    unfolding record_verdict bad_count
    record_place k e = simp (counted, e, add-one)

    pub record_persistents : lowest_bad_element t ≡ None → record_verdict t ≡ judge (behind_elements t)
    unfolding record_verdict bad_count
    record_persistents e = simp (counted, e)

  module _ (ranked : bad_ranks 1 t.ranks ≡ false) where
    pub persistent_refused : (r : ℕ) → lowest_persistent t ≡ Some r → judge (behind_elements t) ≡ Err (refusal why.PersistentRange (persistent_place t r))
    persistent_refused r e = simp (ranked, e)

    pub persistents_accepted : lowest_persistent t ≡ None → judge (behind_elements t) ≡ or_else (meet_rule t) (persist_rule t)
    persistents_accepted e = simp (ranked, e, or_else_accepted)

  -- the witnesses: an earlier element, a persistent element of the table
  pub apart_lt : (k : ℕ) {j : ℕ} → disjoint_from t k ≡ Some j → j < k
  unfolding disjoint_from
  apart_lt k {j} e = (first_found (λ i. not (meets (element t k) (element t i))) k j e).below

  pub missed_lt : (k : ℕ) {r : ℕ} → missed_by t k ≡ Some r → r < t.ranks
  unfolding missed_by
  missed_lt k {r} e = (first_found (λ i. not (persistent_for (persistent_at t i) (element t k))) t.ranks r e).below

  -- an element that has none
  pub meets_each : (k : ℕ) → is_some (disjoint_from t k) ≡ false → (j : ℕ) → j < k → meets (element t k) (element t j) ≡ true
  unfolding disjoint_from
  meets_each k e j l = not-false _ (first_nothing (λ i. not (meets (element t k) (element t i))) k (not_some _ e) j l)

  pub persistent_each : (k : ℕ) → is_some (missed_by t k) ≡ false → (r : ℕ) → r < t.ranks → persistent_for (persistent_at t r) (element t k) ≡ true
  unfolding missed_by
  persistent_each k e r l = not-false _ (first_nothing (λ i. not (persistent_for (persistent_at t i) (element t k))) t.ranks (not_some _ e) r l)

  pub meet_refused : {k j : ℕ} → lowest_apart t ≡ Some k → disjoint_from t k ≡ Some j → meet_rule t ≡ Err (witnessed why.ElementsDisjoint (k + 1) (j + 1) 0)
  meet_refused {k} {j} e q = simp (e, q, add-one)

  pub persist_refused : {k r b : ℕ} → lowest_missed t ≡ Some k → (missed_by t k ≡ Some r) × (unpartnered (persistent_at t r) (element t k) ≡ Some b)
      → persist_rule t ≡ Err (witnessed why.NotPersistent (k + 1) (r + 1) b)
  unfolding missed_at
  persist_refused {k} {r} {b} e q = simp (e, q.0, q.1, add-one)

-- what an accepted record has passed
pub record Sound (t : Table) : Type 0 where
  pub counted : bad_count t.count ≡ false
  pub placed : lowest_bad_element t ≡ None
  pub ranked : bad_ranks 1 t.ranks ≡ false
  pub ordered : lowest_persistent t ≡ None
  pub related : or_else (meet_rule t) (persist_rule t) ≡ Ok tt

pub record_sound : (t : Table) → record_verdict t ≡ Ok tt → Sound t
unfolding record_verdict bad_count
record_sound t q =
    let w = four_accepted (count_rule t) (places_rule t) (ranks_rule t) (or_else (persistent_rule t) (or_else (meet_rule t) (or_else (persist_rule t) (Ok tt)))) q in
    record {
      counted = refuse_if_accepted (bad_count t.count) why.ElementCount 0 w.0;
      placed = refuse_at_accepted (lowest_bad_element t) why.ElementRange suc w.1;
      ranked = refuse_if_accepted (bad_ranks 1 t.ranks) why.RankCount (t.count + 1) w.2;
      ordered = refuse_at_accepted (lowest_persistent t) why.PersistentRange (persistent_place t) (or_else_left (persistent_rule t) _ w.3);
      related = ap (or_else (meet_rule t)) (sym (or_else_accepted (persist_rule t))) ∙ or_else_right (persistent_rule t) _ w.3;
    }

pub sound_record : (t : Table) → Sound t → record_verdict t ≡ Ok tt
sound_record t s = record_persistents t s.counted s.placed ∙ persistents_accepted t s.ranked s.ordered ∙ s.related

module _ {P : Refusal → Type 0} (t : Table) where
  pub record_says : P (refusal why.ElementCount 0) → ((p : ℕ) → P (refusal why.ElementRange p)) → ((p : ℕ) → P (refusal why.RankCount p)) → ((p : ℕ) → P (refusal why.PersistentRange p))
      → Says P (meet_rule t) → Says P (persist_rule t) → Says P (record_verdict t)
  unfolding record_verdict
  record_says a b c d x y =
      says_or (says_if (bad_count t.count) why.ElementCount 0 a)
      (says_or (says_at (lowest_bad_element t) why.ElementRange suc b)
      (says_or (says_if (bad_ranks 1 t.ranks) why.RankCount (t.count + 1) (c (t.count + 1)))
      (says_or (says_at (lowest_persistent t) why.PersistentRange (persistent_place t) d) (says_or x (says_or y accepts)))))

pub record_numbers : (t : Table) → OneOf (3 ∷ 4 ∷ 18 ∷ 6 ∷ 5 ∷ 7 ∷ []) (record_verdict t)
record_numbers t =
    record_says t (by refl) (λ p. by refl) (λ p. by refl) (λ p. by refl)
    (says_by (lowest_apart t) (apart_refusal t) (λ k e. by refl)) (says_by (lowest_missed t) (missed_refusal t) (λ k e. by refl))
