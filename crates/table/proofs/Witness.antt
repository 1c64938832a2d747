-- What 5 and 7 say of a table, proved (specs/Witness).
-- Assumes nothing.
use Rattle.std.specs.Prelude.{Option, None, Some, unwrap_or, is_some}
use mathlib.Core.Bool.{Bool, true, false, not, cond, ◌&&◌}
use mathlib.Core.List.{List, [], ◌∷◌, ◌++◌}
use mathlib.Core.Path.{◌≡◌, refl, sym, ap, ◌∙◌}
use Prim.Native.Nat.{ℕ, suc, ◌+◌, ◌-◌, ◌<◌}
use native.Mathlib.Omega.{arith}
use borrow.Author.Tests.{not-false, not-true}
use lib.ListN.{drop}
use Rattle.seq.specs.Bits.{bit}
use Rattle.seq.specs.Lists.{join}
use Rattle.seq.specs.Tab.{up_to}
use Rattle.verdict.specs.declared.Rule.TheVariants as why
use Rattle.seq.proofs.Lists.{clash, and_left, and_right}
use Rattle.seq.proofs.Tab.{Found, first_found}
use Rattle.table.specs.declared.Table.{Table}
use Rattle.table.specs.File.{several, body, rest, element_count, element_bytes, rank_bytes, rank_count, persistent_bytes, first_place, table_of, bytes_left, masks_rules, count_rules, elements_rules, ranks_rules, persistents_rules, last_rules, file_parts, file_verdict}
use Rattle.table.specs.Mask.{position_count, meets, partner, unpartnered, persistent_for}
use Rattle.table.specs.Number.{ends, too_long, not_fewest, number_rules}
use Rattle.table.specs.Record.{element, persistent_at, bad_count, bad_ranks, bad_element, bad_persistent, disjoint_from, missed_by, from_one, missed_at, apart_refusal, missed_refusal, meet_rule, persist_rule, record_verdict}
use Rattle.table.specs.Witness.{element_no, persistent_no, Apart, Missed, zeros, Witness, apart, missed, neither, Witnesses}
use Rattle.table.proofs.Judging.{says_each}
use Rattle.table.proofs.Places.{missed_is}
use Rattle.table.proofs.Verdicts.{lowest_apart, lowest_missed, meets_each, persistent_each, record_says}
use Rattle.verdict.specs.declared.Rule.{Rule}
use Rattle.verdict.specs.Numbers.{Says, accepts, among}
use Rattle.verdict.specs.Rules.{witnessed, refusal, refuse_if, judge, Verdict, number_of, number, Refusal}
use Rattle.verdict.proofs.Numbers.{says_if, says_by, says_or, says_append}

-- places count from 1
element_no_lem : (t : Table) (k : ℕ) → element_no t (suc k) ≡ element t k
element_no_lem t k = ap (element t) (omega arith)

persistent_no_lem : (t : Table) (r : ℕ) → persistent_no t (suc r) ≡ persistent_at t r
persistent_no_lem t r = ap (persistent_at t) (omega arith)

module _ (t : Table) (k : ℕ) where
  -- 5: what the search over the elements found, and what the search over the earlier ones did
  apart_of : lowest_apart t ≡ Some k → (j : ℕ) → disjoint_from t k ≡ Some j → Apart t (suc k) (suc j)
  unfolding disjoint_from
  apart_of e j q =
      record {
        earlier = (omega arith, omega (arith, s.below), omega (arith, f.below));
        disjoint = rw (element_no_lem t k, element_no_lem t j) (not-true _ s.passes);
        lowest = λ h g l. rw (element_no_lem t k) (not-false _ (s.lowest (h - 1) (omega arith)));
        lowest_element = λ i h g l m. meets_each t (i - 1) (f.lowest (i - 1) (omega arith)) (h - 1) (omega arith);
      }
    where
      f : Found (λ i. is_some (disjoint_from t i)) t.count k
      f = first_found (λ i. is_some (disjoint_from t i)) t.count k e

      s : Found (λ i. not (meets (element t k) (element t i))) k j
      s = first_found (λ i. not (meets (element t k) (element t i))) k j q

  -- 7: what the searches over the elements, the persistent elements and the positions found
  missed_of : lowest_missed t ≡ Some k → (r : ℕ) → missed_by t k ≡ Some r → (n : ℕ) → unpartnered (persistent_at t r) (element t k) ≡ Some n
      → Missed t (suc k) (suc r) n
  unfolding missed_by unpartnered
  missed_of e r q n p =
      record {
        named = (omega arith, omega (arith, f.below), omega arith, omega (arith, s.below));
        position = (b.below, rw (persistent_no_lem t r) (and_left has (not paired) b.passes));
        no_partner = rw (persistent_no_lem t r, element_no_lem t k) (not-true paired (and_right has (not paired) b.passes));
        lowest_position = λ m l i. rw (persistent_no_lem t r, element_no_lem t k) (has_partner m l (rw (persistent_no_lem t r) at i));
        lowest_rank = λ i g l. rw (element_no_lem t k) (not-false _ (s.lowest (i - 1) (omega arith)));
        lowest_element = λ i h g l a z. persistent_each t (i - 1) (f.lowest (i - 1) (omega arith)) (h - 1) (omega arith);
      }
    where
      has : Bool
      has = bit (persistent_at t r) n

      paired : Bool
      paired = partner (persistent_at t r) (element t k) n

      f : Found (λ i. is_some (missed_by t i)) t.count k
      f = first_found (λ i. is_some (missed_by t i)) t.count k e

      s : Found (λ i. not (persistent_for (persistent_at t i) (element t k))) t.ranks r
      s = first_found (λ i. not (persistent_for (persistent_at t i) (element t k))) t.ranks r q

      b : Found (λ i. bit (persistent_at t r) i && not (partner (persistent_at t r) (element t k) i)) position_count n
      b = first_found (λ i. bit (persistent_at t r) i && not (partner (persistent_at t r) (element t k) i)) position_count n p

      has_partner : (m : ℕ) → m < n → bit (persistent_at t r) m ≡ true → partner (persistent_at t r) (element t k) m ≡ true
      has_partner m l i = not-false _ (ap (λ (x : Bool). x && not (partner (persistent_at t r) (element t k) m)) (sym i) ∙ b.lowest m l)

  -- the searches' answers, as the refusals have them
  apart_witness : lowest_apart t ≡ Some k → Witness t (apart_refusal t k)
  apart_witness e = step (disjoint_from t k) refl
    where
      step : (o : Option ℕ) → disjoint_from t k ≡ o → Witness t (witnessed why.ElementsDisjoint (suc k) (from_one o) 0)
      step None q = clash (first_found (λ i. is_some (disjoint_from t i)) t.count k e).passes (ap is_some q)
      step (Some j) q = apart (apart_of e j q)

  missed_some : (r : ℕ) → missed_by t k ≡ Some r → is_some (unpartnered (persistent_at t r) (element t k)) ≡ true
  unfolding missed_by
  missed_some r q =
      sym (missed_is (persistent_at t r) (element t k))
      ∙ (first_found (λ i. not (persistent_for (persistent_at t i) (element t k))) t.ranks r q).passes

  missed_witness : lowest_missed t ≡ Some k → Witness t (missed_refusal t k)
  unfolding missed_at
  missed_witness e = step (missed_by t k) refl
    where
      at : (r : ℕ) → missed_by t k ≡ Some r → (o : Option ℕ) → unpartnered (persistent_at t r) (element t k) ≡ o → Witness t (witnessed why.NotPersistent (suc k) (suc r) (unwrap_or o 0))
      at r q None p = clash (missed_some r q) (ap is_some p)
      at r q (Some n) p = missed (missed_of e r q n p)

      step : (o : Option ℕ) → missed_by t k ≡ o → Witness t (witnessed why.NotPersistent (suc k) (from_one o) (unwrap_or (unpartnered (persistent_at t (unwrap_or o 0)) (element t k)) 0))
      step None q = clash (first_found (λ i. is_some (missed_by t i)) t.count k e).passes (ap is_some q)
      step (Some r) q = at r q (unpartnered (persistent_at t r) (element t k)) refl

-- another number than 5 and 7
other : {t : Table} {n : Rule} {p : ℕ} → among (5 ∷ 7 ∷ []) (number n) ≡ false → Witness t (refusal n p)
other m = neither (zeros m)

-- the rules 5 and 7
module _ (t : Table) where
  meet_says : Says (Witness t) (meet_rule t)
  meet_says = says_by (lowest_apart t) (apart_refusal t) (apart_witness t)

  persist_says : Says (Witness t) (persist_rule t)
  persist_says = says_by (lowest_missed t) (missed_refusal t) (missed_witness t)

  record_witness : Says (Witness t) (record_verdict t)
  record_witness = record_says t (other refl) (λ p. other refl) (λ p. other refl) (λ p. other refl) meet_says persist_says

-- a file's other rules refuse with zeros
module _ {t : Table} where
  number_says : (p : ℕ) (l : List ℕ) → Says (Witness t) (judge (number_rules p l))
  number_says p l =
      says_or (says_if (ends l) why.NumberEnds p (other refl))
      (says_or (says_if (too_long l) why.NumberForm p (other refl)) (says_or (says_if (not_fewest l) why.NumberForm p (other refl)) accepts))

  then_says : (p : ℕ) (l : List ℕ) (bad : Bool) (i : Rule) (q : ℕ) → among (5 ∷ 7 ∷ []) (number i) ≡ false → Says (Witness t) (judge (number_rules p l ++ refuse_if bad i q ∷ []))
  then_says p l bad i q m = says_append (number_rules p l) (refuse_if bad i q ∷ []) (number_says p l) (says_or (says_if bad i q (other m)) accepts)

  masks_says : (h : List ℕ) (p n : ℕ) (bad : ℕ → Bool) (i : Rule) → among (5 ∷ 7 ∷ []) (number i) ≡ false → Says (Witness t) (judge (masks_rules h p n bad i))
  masks_says h p n bad i m =
      says_each (λ k. number_rules (p + k) (rest h k) ++ refuse_if (bad k) i (p + k) ∷ []) (λ k. then_says (p + k) (rest h k) (bad k) i (p + k) m) (up_to n)

  if_says : (b : Bool) (vs : List Verdict) → Says (Witness t) (judge vs) → Says (Witness t) (judge (cond b vs []))
  if_says true vs h = h
  if_says false vs h = accepts

file_witness : (f : List ℕ) → Says (Witness (table_of f)) (file_verdict f)
unfolding file_verdict
file_witness f =
    says_append (number_rules 0 f) (behind 1) (number_says 0 f)
    (says_append (count_rules f) (behind 2) (then_says 0 (body f) (bad_count (table_of f).count) why.ElementCount 0 refl)
    (says_append (elements_rules f) (behind 3) (masks_says (element_bytes f) 1 (element_count f) (bad_element (table_of f)) why.ElementRange refl)
    (says_append (ranks_rules f) (behind 4) (if_says (several f) ranked (then_says place (rank_bytes f) (bad_ranks 2 (rank_count f)) why.RankCount place refl))
    (says_append (persistents_rules f) (behind 5) (masks_says (persistent_bytes f) (first_place f) (rank_count f) (bad_persistent (table_of f)) why.PersistentRange refl)
    (says_append (last_rules f) [] last accepts)))))
  where
    -- the parts from part i on
    behind : ℕ → List Verdict
    behind i = join (drop i (file_parts f))

    place : ℕ
    place = element_count f + 1

    ranked : List Verdict
    ranked = number_rules place (rank_bytes f) ++ refuse_if (bad_ranks 2 (rank_count f)) why.RankCount place ∷ []

    last : Says (Witness (table_of f)) (judge (last_rules f))
    last =
        says_or (says_if (bytes_left f) why.BytesLeft (first_place f + rank_count f) (other refl))
        (says_or (meet_says (table_of f)) (says_or (persist_says (table_of f)) accepts))

-- the fields, by the number
module _ {t : Table} where
  by_5 : {x : Refusal} → Witness t x → number_of x ≡ 5 → Apart t x.place x.witness × (x.position ≡ 0)
  by_5 (apart w) e = (w, refl)
  by_5 (missed w) e = absurd (omega (arith, e))
  by_5 (neither (zeros m)) e = clash (ap (among (5 ∷ 7 ∷ [])) e) m

  by_7 : {x : Refusal} → Witness t x → number_of x ≡ 7 → Missed t x.place x.witness x.position
  by_7 (apart w) e = absurd (omega (arith, e))
  by_7 (missed w) e = w
  by_7 (neither (zeros m)) e = clash (ap (among (5 ∷ 7 ∷ [])) e) m

  by_others : {x : Refusal} → Witness t x → among (5 ∷ 7 ∷ []) (number_of x) ≡ false → (x.witness ≡ 0) × (x.position ≡ 0)
  by_others (apart w) m = clash refl m
  by_others (missed w) m = clash refl m
  by_others (neither (zeros n)) m = (refl, refl)

pub witnesses : Witnesses
witnesses = record { of_record = record_witness; of_file = file_witness; by_5 = by_5; by_7 = by_7; by_others = by_others }
