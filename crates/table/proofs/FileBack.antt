-- An accepted file, read and written: the record is accepted, and its bytes are the file's.
-- Assumes nothing.
use Rattle.std.specs.Prelude.{Ok}
use mathlib.Core.Bool.{Bool, true, false, not, cond, not-not}
use mathlib.Core.List.{List, [], ◌++◌, append-nil, append_assoc}
use mathlib.Core.Logic.{⊎_elim}
use mathlib.Core.Path.{◌≡◌, refl, sym, ap, ◌∙◌}
use Prim.Native.Nat.{ℕ, ◌+◌, ◌≤◌, ◌<◌}
use native.Mathlib.Omega.{arith}
use borrow.Author.Tests.{lt-ltb, eqb-true, eq-eqb, ne_eqb, not-false}
use lib.Dec.{ltb, eqb}
use lib.ListN.{length, take, drop, drop_of_length-le}
use lib.Pow.{are_bytes}
use Rattle.verdict.specs.declared.Rule.TheVariants as why
use Rattle.seq.proofs.Joins.{take_tab}
use Rattle.seq.proofs.Lists.{either}
use Rattle.seq.proofs.Tests.{in_range}
use Rattle.seq.proofs.Tab.{tab_ext}
use Rattle.table.specs.declared.mask.Kind.{Kind}
use Rattle.table.specs.declared.mask.Kind.TheVariants.{Element, Persistent}
use Rattle.table.specs.Code.Reading.{before, masks_judged}
use Rattle.table.specs.Code.Search.{range_rule, bad_after, bad_of}
use Rattle.table.specs.File.{rest, number, skip_if, several, body, element_count, element_bytes, rank_bytes, rank_count, persistent_bytes, left_bytes, first_place, numbers, table_of, bytes_left, count_rules, elements_rules, ranks_rules, persistents_rules, last_rules, file_parts, file_verdict, masks_bytes, table_bytes}
use Rattle.table.specs.Number.{number_rules, number_bytes}
use Rattle.table.specs.Record.{max_elements, max_ranks, masks, persistents, bad_count, bad_ranks, bad_element, bad_persistent, count_rule, meet_rule, persist_rule}
use Rattle.table.proofs.Chains.{rest_bytes, one_back, chain_back}
use Rattle.table.proofs.Files.{several_rules, elements_judged, persistents_judged}
use Rattle.table.proofs.Judging.{part_split, judge_each}
use Rattle.table.proofs.Tables.{numbers_good}
use Rattle.table.proofs.Verdicts.{count_le, ranks_le, Sound}
use Rattle.verdict.specs.Rules.{refuse_if, or_else, judge}
use Rattle.verdict.proofs.Rules.{judge_last, or_else_left, or_else_right, or_else_accepted, refuse_if_accepted}

-- ---- the rules that an accepted file has passed

pub record Passed (f : List ℕ) : Type 0 where
  pub first : judge (number_rules 0 f) ≡ Ok tt
  pub count_number : judge (number_rules 0 (body f)) ≡ Ok tt
  pub counted : bad_count (element_count f) ≡ false
  pub elements : judge (elements_rules f) ≡ Ok tt
  pub ranks : judge (ranks_rules f) ≡ Ok tt
  pub persistents : judge (persistents_rules f) ≡ Ok tt
  pub no_bytes : bytes_left f ≡ false
  pub related : or_else (meet_rule (table_of f)) (persist_rule (table_of f)) ≡ Ok tt

pub file_passed : (f : List ℕ) → file_verdict f ≡ Ok tt → Passed f
unfolding file_verdict table_of bad_count
file_passed f e =
    let (first, e₁) = part_split (number_rules 0 f) (drop 1 (file_parts f)) e in
    let (count, e₂) = part_split (count_rules f) (drop 2 (file_parts f)) e₁ in
    let (elements, e₃) = part_split (elements_rules f) (drop 3 (file_parts f)) e₂ in
    let (ranks, e₄) = part_split (ranks_rules f) (drop 4 (file_parts f)) e₃ in
    let (persistents, e₅) = part_split (persistents_rules f) (drop 5 (file_parts f)) e₄ in
    let last = (part_split (last_rules f) [] e₅).0 in
    let count-parts = sym (judge_last (number_rules 0 (body f)) (count_rule (table_of f))) ∙ count in
    let relations = or_else (meet_rule (table_of f)) (or_else (persist_rule (table_of f)) (Ok tt)) in
    let bytes = refuse_if (bytes_left f) why.BytesLeft (first_place f + rank_count f) in
    record {
      first = first;
      count_number = or_else_left (judge (number_rules 0 (body f))) (count_rule (table_of f)) count-parts;
      counted = refuse_if_accepted (bad_count (element_count f)) why.ElementCount 0 (or_else_right (judge (number_rules 0 (body f))) (count_rule (table_of f)) count-parts);
      elements = elements;
      ranks = ranks;
      persistents = persistents;
      no_bytes = refuse_if_accepted (bytes_left f) why.BytesLeft (first_place f + rank_count f) (or_else_left bytes relations last);
      related = ap (or_else (meet_rule (table_of f))) (sym (or_else_accepted (persist_rule (table_of f)))) ∙ or_else_right bytes relations last;
    }

module _ (f : List ℕ) (p : Passed f) where
  few : element_count f ≤ max_elements
  few = count_le (element_count f) p.counted

  -- ---- the two forms

  -- the rules on the number of persistent elements, where there are several
  ranks_parts : several f ≡ true → or_else (judge (number_rules (element_count f + 1) (rank_bytes f))) (refuse_if (bad_ranks 2 (rank_count f)) why.RankCount (element_count f + 1)) ≡ Ok tt
  ranks_parts e =
      sym (judge_last (number_rules (element_count f + 1) (rank_bytes f)) (refuse_if (bad_ranks 2 (rank_count f)) why.RankCount (element_count f + 1)))
      ∙ ap (λ (b : Bool). judge (cond b (several_rules f) [])) (sym e) ∙ p.ranks

  ranks_number : several f ≡ true → judge (number_rules (element_count f + 1) (rank_bytes f)) ≡ Ok tt
  ranks_number e = or_else_left (judge (number_rules (element_count f + 1) (rank_bytes f))) _ (ranks_parts e)

  two_or_more : several f ≡ true → (2 ≤ rank_count f) × (rank_count f ≤ max_ranks)
  two_or_more e =
      ranks_le 2 (rank_count f)
      (refuse_if_accepted (bad_ranks 2 (rank_count f)) why.RankCount (element_count f + 1) (or_else_right (judge (number_rules (element_count f + 1) (rank_bytes f))) _ (ranks_parts e)))

  only_one : several f ≡ false → rank_count f ≡ 1
  unfolding rank_count
  only_one e = ap (λ (b : Bool). cond b (number (rank_bytes f) 0) 1) e

  ranks_within : (1 ≤ rank_count f) × (rank_count f ≤ max_ranks)
  ranks_within = ⊎_elim (λ e. let (l, m) = two_or_more e in (omega arith, m)) (λ e. let q = only_one e in (omega arith, omega arith)) (either (several f))

  pub form_back : several f ≡ not (eqb (rank_count f) 1)
  form_back = ⊎_elim more single (either (several f))
    where
      more : several f ≡ true → several f ≡ not (eqb (rank_count f) 1)
      more e = let l = (two_or_more e).0 in e ∙ ap not (sym (ne_eqb (rank_count f) 1 (λ q. omega arith)))

      single : several f ≡ false → several f ≡ not (eqb (rank_count f) 1)
      single e = e ∙ ap not (sym (eq-eqb (rank_count f) 1 (only_one e)))

  -- ---- the record is accepted

  elements_passed : masks_judged Element (element_bytes f) 1 (element_count f) ≡ Ok tt
  elements_passed = sym (elements_judged f few) ∙ p.elements

  persistents_passed : masks_judged Persistent (persistent_bytes f) (first_place f) (rank_count f) ≡ Ok tt
  persistents_passed = sym (persistents_judged f ranks_within.1) ∙ p.persistents

  pub read_sound : Sound (table_of f)
  unfolding table_of bad_element bad_persistent bad_of bad_ranks
  read_sound =
      record {
        counted = p.counted;
        placed = numbers_good Element (element_bytes f) 1 (element_count f) max_elements few elements_passed;
        ranked = ap not (in_range 1 (rank_count f) max_ranks ranks_within.0 ranks_within.1);
        ordered = numbers_good Persistent (persistent_bytes f) (first_place f) (rank_count f) max_ranks ranks_within.1 persistents_passed;
        related = p.related;
      }

-- ---- its bytes, part by part

-- masks that their rules accept, written again
masks_back : (kind : Kind) (h : List ℕ) (q n m : ℕ) → are_bytes h ≡ true → n ≤ m → masks_judged kind h q n ≡ Ok tt → h ≡ masks_bytes (take n (numbers h n m)) ++ rest h n
unfolding numbers
masks_back kind h q n m b l e =
    chain_back h b (λ k. q + k) n each
    ∙ ap (λ (ms : List ℕ). masks_bytes ms ++ rest h n)
    (sym (take_tab (λ k. cond (ltb k n) (number h k) 0) n m l ∙ tab_ext (λ k. cond (ltb k n) (number h k) 0) (number h) n (λ k i. simp (lt-ltb k n i))))
  where
    each : (k : ℕ) → k < n → judge (number_rules (q + k) (rest h k)) ≡ Ok tt
    each k i =
        or_else_left (judge (number_rules (q + k) (rest h k))) (refuse_if (bad_after kind (before h k) (number h k)) (range_rule kind) (q + k))
        (sym (judge_last (number_rules (q + k) (rest h k)) (refuse_if (bad_after kind (before h k) (number h k)) (range_rule kind) (q + k))) ∙ judge_each _ n k i e)

-- a number that stands where b holds, written again
skip_back : (b : Bool) (h : List ℕ) (place n : ℕ) → are_bytes h ≡ true → (b ≡ true → (judge (number_rules place h) ≡ Ok tt) × (number h 0 ≡ n))
    → h ≡ cond (not b) [] (number_bytes n) ++ skip_if b h
skip_back false h place n b e = refl
skip_back true h place n b e = one_back h b 0 place (e refl).0 ∙ ap (λ (m : ℕ). number_bytes m ++ rest h 1) (e refl).1

skip_bytes : (b : Bool) (h : List ℕ) → are_bytes h ≡ true → are_bytes (skip_if b h) ≡ true
skip_bytes true h b = rest_bytes h 1 b
skip_bytes false h b = b

-- five parts, one after the other
five : (a b c d e : List ℕ) → a ++ b ++ c ++ d ++ e ≡ a ++ (b ++ (c ++ (d ++ e)))
five a b c d e = simp append_assoc

module _ (f : List ℕ) (b : are_bytes f ≡ true) (p : Passed f) where
  body_bytes : are_bytes (body f) ≡ true
  unfolding body
  body_bytes = skip_bytes (several f) f b

  element_bytes_lem : are_bytes (element_bytes f) ≡ true
  element_bytes_lem = rest_bytes (body f) 1 body_bytes

  rank_bytes_lem : are_bytes (rank_bytes f) ≡ true
  unfolding rank_bytes
  rank_bytes_lem = rest_bytes (element_bytes f) (element_count f) element_bytes_lem

  persistent_bytes_lem : are_bytes (persistent_bytes f) ≡ true
  unfolding persistent_bytes
  persistent_bytes_lem = skip_bytes (several f) (rank_bytes f) rank_bytes_lem

  -- a number in a file of several persistent elements
  abbrev if_more : ℕ → List ℕ
  if_more n = cond (not (several f)) [] (number_bytes n)

  leading_back : f ≡ if_more 0 ++ body f
  unfolding several body
  leading_back = skip_back (several f) f 0 0 b (λ e. (p.first, eqb-true (number f 0) 0 e))

  count_back : body f ≡ number_bytes (element_count f) ++ element_bytes f
  count_back = one_back (body f) body_bytes 0 0 p.count_number

  elements_back : element_bytes f ≡ masks_bytes (masks (table_of f)) ++ rank_bytes f
  unfolding masks table_of rank_bytes
  elements_back = masks_back Element (element_bytes f) 1 (element_count f) max_elements element_bytes_lem (few f p) (elements_passed f p)

  ranks_back : rank_bytes f ≡ if_more (rank_count f) ++ persistent_bytes f
  unfolding persistent_bytes rank_count
  ranks_back = skip_back (several f) (rank_bytes f) (element_count f + 1) (rank_count f) rank_bytes_lem (λ e. (ranks_number f p e, sym (ap (λ (t : Bool). cond t (number (rank_bytes f) 0) 1) e)))

  persistents_back : persistent_bytes f ≡ masks_bytes (persistents (table_of f))
  unfolding persistents table_of bytes_left
  persistents_back =
      masks_back Persistent (persistent_bytes f) (first_place f) (rank_count f) max_ranks persistent_bytes_lem (ranks_within f p).1 (persistents_passed f p)
      ∙ ap (λ (l : List ℕ). masks_bytes (persistents (table_of f)) ++ l) (drop_of_length-le (left_bytes f) {i = 0} none_left)
      ∙ append-nil (masks_bytes (persistents (table_of f)))
    where
      none_left : length (left_bytes f) ≤ 0
      none_left = let e = eqb-true (length (left_bytes f)) 0 (not-false _ p.no_bytes) in omega arith

  abbrev count : List ℕ
  count = number_bytes (element_count f)

  abbrev elements : List ℕ
  elements = masks_bytes (masks (table_of f))

  abbrev last : List ℕ
  last = masks_bytes (persistents (table_of f))

  pub bytes_back : table_bytes (table_of f) ≡ f
  unfolding table_bytes table_of
  bytes_back =
      ap (λ (s : Bool). cond s [] (number_bytes 0) ++ count ++ elements ++ cond s [] (number_bytes (rank_count f)) ++ last) form
      ∙ five (if_more 0) count elements (if_more (rank_count f)) last
      ∙ sym (leading_back ∙ ap (λ (l : List ℕ). if_more 0 ++ l)
      (count_back ∙ ap (λ (l : List ℕ). count ++ l)
      (elements_back ∙ ap (λ (l : List ℕ). elements ++ l) (ranks_back ∙ ap (λ (l : List ℕ). if_more (rank_count f) ++ l) persistents_back))))
    where
      form : eqb (rank_count f) 1 ≡ not (several f)
      form = sym (ap not (form_back f p) ∙ not-not (eqb (rank_count f) 1))
