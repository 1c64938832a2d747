-- A record that the check accepts, written and read: the same numbers, the same record, and an accepted file.
-- Assumes nothing.
use Rattle.std.specs.Prelude.{Ok}
use mathlib.Core.Bool.{Bool, true, false, not, cond}
use mathlib.Core.List.{List, [], ◌∷◌, ◌++◌, append-nil, append_assoc}
use mathlib.Core.Path.{◌≡◌, refl, sym, ap, ap₂, ◌∙◌}
use Prim.Native.Nat.{ℕ, zero, suc, ◌+◌, ◌^◌, ◌≤◌, ◌<◌}
use native.Mathlib.Nat.{le_refl, le_of_lt}
use native.Mathlib.Omega.{arith}
use borrow.Author.Tests.{eqb-true, eqb-false, ne_eqb}
use lib.Dec.{eqb}
use lib.ListN.{length, get_or, take, drop}
use lib.Seq.{length-take-le, get_or-take}
use Rattle.seq.specs.Tab.{up_to}
use Rattle.verdict.specs.declared.Rule.TheVariants as why
use Rattle.seq.proofs.Tests.{in_range}
use Rattle.table.specs.declared.Table.{Table}
use Rattle.table.specs.File.{rest, number, skip_if, several, body, element_count, element_bytes, rank_bytes, rank_count, persistent_bytes, left_bytes, first_place, numbers, table_of, bytes_left, masks_rules, count_rules, elements_rules, ranks_rules, persistents_rules, last_rules, file_parts, file_verdict, if_several, masks_bytes, table_bytes}
use Rattle.table.specs.Mask.{position_count}
use Rattle.table.specs.Number.{size, value, number_rules, number_bytes}
use Rattle.table.specs.Record.{max_elements, max_ranks, element, persistent_at, masks, persistents, bad_count, bad_ranks, bad_element, bad_persistent, count_rule, meet_rule, persist_rule}
use Rattle.table.proofs.Chains.{read_front, chain_number, chain_accepted, chain_end}
use Rattle.table.proofs.Front.{ReadAs}
use Rattle.table.proofs.Facts.{least, most, few_ranks, good_element, good_persistent, valid, valid_persistent, past, past_ranks}
use Rattle.table.proofs.Files.{several_rules, table_eq}
use Rattle.table.proofs.Judging.{judge_more, part_accepts}
use Rattle.table.proofs.Positions.{mask_lt}
use Rattle.table.proofs.Tables.{numbers_are}
use Rattle.table.proofs.Verdicts.{Sound}
use Rattle.verdict.specs.declared.Rule.{Rule}
use Rattle.verdict.specs.Rules.{refuse_if, or_else, judge}
use Rattle.verdict.proofs.Rules.{judge_last, or_else_accepted}

-- masks in the first n places of a list, written, and what follows them
module _ (ms : List ℕ) (n : ℕ) (l : n ≤ length ms) (small : (k : ℕ) → k < n → get_or ms k 0 < 2 ^ position_count) (r : List ℕ) where
  -- the bytes
  abbrev these : List ℕ
  these = masks_bytes (take n ms) ++ r

  size_of_lem : length (take n ms) ≡ n
  size_of_lem = length-take-le n ms l

  small_front : (k : ℕ) → k < length (take n ms) → get_or (take n ms) k 0 < 2 ^ 28
  small_front k h = let i : k < n = omega (arith, size_of_lem) in omega (arith, small k i, get_or-take n ms k 0 i)

  front_number : (k : ℕ) → k < n → number these k ≡ get_or ms k 0
  front_number k h = chain_number (take n ms) r small_front k (omega (arith, size_of_lem)) ∙ get_or-take n ms k 0 h

  front_end : rest these n ≡ r
  front_end = ap (rest these) (sym size_of_lem) ∙ chain_end (take n ms) r small_front

  -- the rules on them accept, where none is bad
  front_accepted : (p : ℕ) (bad : ℕ → Bool) (i : Rule) → ((k : ℕ) → k < n → bad k ≡ false) → (k : ℕ) → k ≤ n → judge (masks_rules these p k bad i) ≡ Ok tt
  unfolding up_to
  front_accepted p bad i good zero h = refl
  front_accepted p bad i good (suc k) h =
      judge_more (λ j. number_rules (p + j) (rest these j) ++ refuse_if (bad j) i (p + j) ∷ []) k (front_accepted p bad i good k (le_of_lt h))
      (judge_last (number_rules (p + k) (rest these k)) (refuse_if (bad k) i (p + k))
      ∙ ap₂ or_else (chain_accepted (take n ms) r small_front k (p + k) (omega (arith, size_of_lem))) (ap (λ (b : Bool). refuse_if b i (p + k)) (good k h)))

-- a number that stands where b does not hold, and what follows it
skip_front : (b : Bool) (n : ℕ) (r : List ℕ) → n < 2 ^ 28 → skip_if (not b) (cond b [] (number_bytes n) ++ r) ≡ r
skip_front true n r h = refl
skip_front false n r h = (read_front n r h).behind

module _ (t : Table) (whole : length t.elements ≡ max_elements) (all-ranks : length t.persistents ≡ max_ranks) (s : Sound t) where
  abbrev f : List ℕ
  f = table_bytes t

  -- what stands in it from the persistent elements on, and before them
  abbrev from_persistents : List ℕ
  from_persistents = masks_bytes (persistents t) ++ []

  abbrev from_ranks : List ℕ
  from_ranks = if_several t t.ranks ++ from_persistents

  abbrev from_elements : List ℕ
  from_elements = masks_bytes (masks t) ++ from_ranks

  abbrev from_count : List ℕ
  from_count = number_bytes t.count ++ from_elements

  -- the two forms: the file of one persistent element has no leading 0
  abbrev single : Bool
  single = eqb t.ranks 1

  few : t.count ≤ max_elements
  few = most t s

  ranks_within : (1 ≤ t.ranks) × (t.ranks ≤ max_ranks)
  ranks_within = few_ranks t s

  parts : f ≡ if_several t 0 ++ from_count
  unfolding table_bytes
  parts = simp (append_assoc, append-nil)

  small_element : (k : ℕ) → k < t.count → element t k < 2 ^ position_count
  small_element k h = mask_lt (element t k) (valid t s k h)

  small_persistent : (r : ℕ) → r < t.ranks → persistent_at t r < 2 ^ position_count
  small_persistent r h = mask_lt (persistent_at t r) (valid_persistent t s r h)

  read_count : ReadAs from_count t.count from_elements
  read_count = read_front t.count from_elements (omega (arith, few))

  -- ---- what is read

  is_several : several f ≡ not single
  unfolding several
  is_several = ap (λ (l : List ℕ). eqb (value l) 0) parts ∙ step single
    where
      step : (b : Bool) → eqb (value (cond b [] (number_bytes 0) ++ from_count)) 0 ≡ not b
      step true = ap (λ (n : ℕ). eqb n 0) read_count.is ∙ ne_eqb t.count 0 (λ z. omega (arith, least t s))
      step false = ap (λ (n : ℕ). eqb n 0) (read_front 0 from_count (omega arith)).is

  is_body : body f ≡ from_count
  unfolding body
  is_body = ap₂ skip_if is_several parts ∙ skip_front single 0 from_count (omega arith)

  is_count : element_count f ≡ t.count
  is_count = ap value is_body ∙ read_count.is

  is_elements : element_bytes f ≡ from_elements
  is_elements = ap (λ (l : List ℕ). drop (size l) l) is_body ∙ read_count.behind

  is_ranks : rank_bytes f ≡ from_ranks
  unfolding rank_bytes masks
  is_ranks = ap₂ rest is_elements is_count ∙ front_end t.elements t.count (omega (arith, few)) small_element from_ranks

  is_persistents : persistent_bytes f ≡ from_persistents
  unfolding persistent_bytes
  is_persistents = ap₂ skip_if is_several is_ranks ∙ skip_front single t.ranks from_persistents (omega (arith, ranks_within))

  is_rank_count : rank_count f ≡ t.ranks
  unfolding rank_count
  is_rank_count = ap₂ (λ (b : Bool) (l : List ℕ). cond b (value l) 1) is_several is_ranks ∙ step single refl
    where
      step : (b : Bool) → single ≡ b → cond (not b) (value (cond b [] (number_bytes t.ranks) ++ from_persistents)) 1 ≡ t.ranks
      step true e = sym (eqb-true t.ranks 1 e)
      step false e = (read_front t.ranks from_persistents (omega (arith, ranks_within))).is

  is_left : left_bytes f ≡ []
  unfolding persistents
  is_left = ap₂ rest is_persistents is_rank_count ∙ front_end t.persistents t.ranks (omega (arith, ranks_within)) small_persistent []

  element_places : t.elements ≡ numbers from_elements t.count max_elements
  unfolding masks
  element_places =
      numbers_are from_elements t.elements t.count max_elements whole
      (λ k h. sym (front_number t.elements t.count (omega (arith, few)) small_element from_ranks k h)) (past t s)

  persistent_places : t.persistents ≡ numbers from_persistents t.ranks max_ranks
  unfolding persistents
  persistent_places =
      numbers_are from_persistents t.persistents t.ranks max_ranks all-ranks
      (λ r h. sym (front_number t.persistents t.ranks (omega (arith, ranks_within)) small_persistent [] r h)) (past_ranks t s)

  pub table_back : table_of f ≡ t
  unfolding table_of
  table_back =
      sym (table_eq (table_of f) (sym is_count)
      (element_places ∙ ap₂ (λ (l : List ℕ) (n : ℕ). numbers l n max_elements) (sym is_elements) (sym is_count)) (sym is_rank_count)
      (persistent_places ∙ ap₂ (λ (l : List ℕ) (n : ℕ). numbers l n max_ranks) (sym is_persistents) (sym is_rank_count)))

  -- ---- and accepted

  first_accepted : judge (number_rules 0 f) ≡ Ok tt
  first_accepted = ap (λ (l : List ℕ). judge (number_rules 0 l)) parts ∙ step single
    where
      step : (b : Bool) → judge (number_rules 0 (cond b [] (number_bytes 0) ++ from_count)) ≡ Ok tt
      step true = read_count.accepted 0
      step false = (read_front 0 from_count (omega arith)).accepted 0

  count_accepted : judge (count_rules f) ≡ Ok tt
  unfolding bad_count
  count_accepted =
      judge_last (number_rules 0 (body f)) (count_rule (table_of f))
      ∙ ap₂ or_else (ap (λ (l : List ℕ). judge (number_rules 0 l)) is_body ∙ read_count.accepted 0)
      (ap count_rule table_back ∙ ap (λ (b : Bool). refuse_if b why.ElementCount 0) s.counted)

  elements_accepted : judge (elements_rules f) ≡ Ok tt
  unfolding masks
  elements_accepted =
      ap (λ (u : Table). judge (masks_rules (element_bytes f) 1 (element_count f) (bad_element u) why.ElementRange)) table_back
      ∙ ap₂ (λ (l : List ℕ) (n : ℕ). judge (masks_rules l 1 n (bad_element t) why.ElementRange)) is_elements is_count
      ∙ front_accepted t.elements t.count (omega (arith, few)) small_element from_ranks 1 (bad_element t) why.ElementRange (good_element t s) t.count (le_refl t.count)

  ranks_accepted : judge (ranks_rules f) ≡ Ok tt
  unfolding bad_ranks
  ranks_accepted = ap (λ (b : Bool). judge (cond b (several_rules f) [])) is_several ∙ step single refl
    where
      several_accepted : single ≡ false → judge (several_rules f) ≡ Ok tt
      several_accepted e =
          judge_last (number_rules (element_count f + 1) (rank_bytes f)) (refuse_if (bad_ranks 2 (rank_count f)) why.RankCount (element_count f + 1))
          ∙ ap₂ or_else
          (ap (λ (l : List ℕ). judge (number_rules (element_count f + 1) l)) (is_ranks ∙ ap (λ (b : Bool). cond b [] (number_bytes t.ranks) ++ from_persistents) e)
          ∙ (read_front t.ranks from_persistents (omega (arith, ranks_within))).accepted (element_count f + 1))
          (ap (λ (b : Bool). refuse_if (not b) why.RankCount (element_count f + 1)) (in_range 2 (rank_count f) max_ranks two (omega (arith, is_rank_count, ranks_within))))
        where
          two : 2 ≤ rank_count f
          two = let other = eqb-false t.ranks 1 e in omega (arith, is_rank_count, ranks_within)

      step : (b : Bool) → single ≡ b → judge (cond (not b) (several_rules f) []) ≡ Ok tt
      step true e = refl
      step false e = several_accepted e

  persistents_accepted : judge (persistents_rules f) ≡ Ok tt
  unfolding persistents
  persistents_accepted =
      ap (λ (u : Table). judge (masks_rules (persistent_bytes f) (first_place f) (rank_count f) (bad_persistent u) why.PersistentRange)) table_back
      ∙ ap₂ (λ (l : List ℕ) (n : ℕ). judge (masks_rules l (first_place f) n (bad_persistent t) why.PersistentRange)) is_persistents is_rank_count
      ∙ front_accepted t.persistents t.ranks (omega (arith, ranks_within)) small_persistent [] (first_place f) (bad_persistent t) why.PersistentRange (good_persistent t s) t.ranks (le_refl t.ranks)

  last_accepted : judge (last_rules f) ≡ Ok tt
  unfolding bytes_left
  last_accepted =
      ap₂ (λ (l : List ℕ) (u : Table). or_else (refuse_if (not (eqb (length l) 0)) why.BytesLeft (first_place f + rank_count f)) (or_else (meet_rule u) (or_else (persist_rule u) (Ok tt)))) is_left table_back
      ∙ ap (or_else (meet_rule t)) (or_else_accepted (persist_rule t)) ∙ s.related

  pub file_accepted : file_verdict f ≡ Ok tt
  unfolding file_verdict
  file_accepted =
      part_accepts (number_rules 0 f) (drop 1 (file_parts f)) first_accepted
      ∙ part_accepts (count_rules f) (drop 2 (file_parts f)) count_accepted
      ∙ part_accepts (elements_rules f) (drop 3 (file_parts f)) elements_accepted
      ∙ part_accepts (ranks_rules f) (drop 4 (file_parts f)) ranks_accepted
      ∙ part_accepts (persistents_rules f) (drop 5 (file_parts f)) persistents_accepted
      ∙ part_accepts (last_rules f) [] last_accepted
