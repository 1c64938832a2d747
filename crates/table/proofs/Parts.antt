-- What the parts of the file reader hand on to one another.
--     form_zero, form_other                           the form of a file, by its first number
--     count_judges, count_read                        the element count: what its rules say, what is handed on
--     elements_judged, elements_past, elements_stored the elements, from the masks that are read there
--     ranks_single, ranks_judges, ranks_read            the number of persistent elements, in each form
--     place_le                                        the place of the first of them is small
--     persistents_judged, persistents_past, persistents_stored    the persistent elements, from the masks that are read there
--     behind_form, behind_count, behind_elements, behind_ranks, behind_persistents     the parts that are left, behind each that accepts
--     last_table, masks_in_range                      the record that is read, and that masks are in range
-- Assumes nothing.
use Rattle.std.specs.Prelude.{Ok}
use mathlib.Core.Bool.{Bool, true, false}
use mathlib.Core.List.{List}
use mathlib.Core.Path.{◌≡◌, sym, ap, ap₂, ◌∙◌}
use Prim.Native.Nat.{ℕ, ◌+◌, ◌^◌, ◌≤◌, ◌<◌}
use native.Mathlib.Nat.{lt_of_lt_of_le}
use native.Mathlib.Omega.{arith}
use borrow.Author.Tests.{eq-eqb, ne_eqb}
use lib.ListN.{get_or, drop}
use Rattle.verdict.specs.declared.Rule.TheVariants as why
use Rattle.seq.proofs.Lists.{one_le}
use Rattle.table.specs.declared.Table.{Table}
use Rattle.table.specs.declared.mask.Kind.{Kind}
use Rattle.table.specs.declared.mask.Kind.TheVariants.{Element, Persistent}
use Rattle.table.specs.declared.number.Number.{Number}
use Rattle.table.specs.declared.reading.Ranks.{Ranks}
use Rattle.table.specs.Code.Reading.{NumberRead, FormRead, CountRead, masks_of, MasksRead, RanksRead}
use Rattle.table.specs.File.{rest, several, body, element_count, element_bytes, rank_bytes, rank_count, persistent_bytes, left_bytes, first_place, numbers, table_of, count_rules, elements_rules, ranks_rules, persistents_rules, file_parts}
use Rattle.table.specs.Mask.{position_count}
use Rattle.table.specs.Number.{size, value, number_rules}
use Rattle.table.specs.Record.{max_elements, max_ranks, bad_count, bad_ranks}
use Rattle.table.proofs.Files as files
use Rattle.table.proofs.Files.{Left, left_all, left_next, file_form, body_by, count_judged, ranks_judged, single_judged, persistents_by, ranks_by, place_by, table_eq}
use Rattle.table.proofs.Tables.{numbers_at, mask_in_range}
use Rattle.table.proofs.Verdicts.{count_le, ranks_le}
use Rattle.verdict.specs.Rules.{refuse_if, judge, Verdict}

module _ {f : List ℕ} {n : Number} (q : NumberRead f f n) where
  pub form_zero : n.value ≡ 0 → FormRead f record { has_several = true; at = n.past }
  form_zero z =
      let form = file_form f q.is (eq-eqb _ _ z) in
      record { form = form; reached = q.reached ∙ body_by f form }

  pub form_other : (n.value ≡ 0 → ⊥) → FormRead f record { has_several = false; at = 0 }
  form_other z =
      let form = file_form f q.is (ne_eqb _ _ z) in
      record { form = form; reached = body_by f form }

module _ (f : List ℕ) (at : ℕ) (reached : drop at f ≡ body f) where
  module _ {n : Number} (accepted : judge (number_rules 0 (drop at f)) ≡ Ok tt) (q : NumberRead f (drop at f) n) where
    is_count : n.value ≡ element_count f
    is_count = q.is ∙ ap value reached

    pub count_judges : {b : Bool} → bad_count n.value ≡ b → judge (count_rules f) ≡ refuse_if b why.ElementCount 0
    count_judges h = count_judged f (rw reached at accepted) is_count h

    pub count_read : bad_count n.value ≡ false → CountRead f n
    count_read h =
        record {
          is = is_count;
          within = count_le n.value h;
          reached = q.reached ∙ ap (λ (l : List ℕ). drop (size l) l) reached;
        }

module _ {f : List ℕ} {n : Number} (c : CountRead f n) where
  pub few_elements : element_count f ≤ max_elements
  few_elements = omega (arith, c.is, c.within)

  elements_as : judge (masks_of Element (drop n.past f) 1 n.value) ≡ judge (masks_of Element (element_bytes f) 1 (element_count f))
  elements_as = ap₂ (λ (h : List ℕ) (i : ℕ). judge (masks_of Element h 1 i)) c.reached c.is

  -- the masks are judged as the elements of the file
  pub elements_judged : judge (masks_of Element (drop n.past f) 1 n.value) ≡ judge (elements_rules f)
  elements_judged = elements_as ∙ sym (files.elements_judged f few_elements)

  module _ {masks : List ℕ} {past : ℕ} (w : MasksRead f (drop n.past f) n.value max_elements masks past) where
    pub elements_past : drop past f ≡ rank_bytes f
    unfolding rank_bytes
    elements_past = w.reached ∙ ap₂ rest c.reached c.is

    pub elements_stored : masks ≡ (table_of f).elements
    unfolding table_of
    elements_stored = w.stored ∙ ap₂ (λ (h : List ℕ) (i : ℕ). numbers h i max_elements) c.reached c.is

module _ (f : List ℕ) (at count : ℕ) (reached : drop at f ≡ rank_bytes f) (is : count ≡ element_count f) where
  pub ranks_single : false ≡ several f → (judge (ranks_rules f) ≡ Ok tt) × RanksRead f record { count = 1; at = at; place = count + 1 }
  ranks_single form = (
    single_judged f form,
    record {
      is = ranks_by f form;
      few = omega arith;
      reached = reached ∙ persistents_by f form;
      placed = omega (arith, is, place_by f form);
    },
  )

  module _ (form : true ≡ several f) where
    there : {v : Verdict} → judge (number_rules (count + 1) (drop at f)) ≡ v → judge (number_rules (element_count f + 1) (rank_bytes f)) ≡ v
    there e = sym (ap₂ (λ (i : ℕ) (l : List ℕ). judge (number_rules (i + 1) l)) is reached) ∙ e

    module _ {n : Number} (accepted : judge (number_rules (count + 1) (drop at f)) ≡ Ok tt) (q : NumberRead f (drop at f) n) where
      is_ranks : n.value ≡ rank_count f
      is_ranks = q.is ∙ ap value reached ∙ ranks_by f form

      pub ranks_judges : {b : Bool} → bad_ranks 2 n.value ≡ b → judge (ranks_rules f) ≡ refuse_if b why.RankCount (count + 1)
      ranks_judges {b} h = ranks_judged f form (there accepted) is_ranks h ∙ ap (λ (i : ℕ). refuse_if b why.RankCount (i + 1)) (sym is)

      pub ranks_read : bad_ranks 2 n.value ≡ false → RanksRead f record { count = n.value; at = n.past; place = count + 2 }
      ranks_read h =
          record {
            is = is_ranks;
            few = (ranks_le 2 n.value h).1;
            reached = q.reached ∙ ap (λ (l : List ℕ). drop (size l) l) reached ∙ persistents_by f form;
            placed = omega (arith, is, place_by f form);
          }

pub place_le : {f : List ℕ} {w : Ranks} → RanksRead f w → element_count f ≤ max_elements → w.place ≤ max_elements + 2
unfolding first_place
place_le {f} w few = omega (arith, w.placed, few, one_le (several f))

module _ {f : List ℕ} {w : Ranks} (c : RanksRead f w) where
  few_persistents : rank_count f ≤ max_ranks
  few_persistents = rw c.is at c.few

  persistents_as : judge (masks_of Persistent (drop w.at f) w.place w.count) ≡ judge (masks_of Persistent (persistent_bytes f) (first_place f) (rank_count f))
  persistents_as =
      ap₂ (λ (h : List ℕ) (i : ℕ). judge (masks_of Persistent h w.place i)) c.reached c.is
      ∙ ap (λ (p : ℕ). judge (masks_of Persistent (persistent_bytes f) p (rank_count f))) c.placed

  -- the masks are judged as the persistent elements of the file
  pub persistents_judged : judge (masks_of Persistent (drop w.at f) w.place w.count) ≡ judge (persistents_rules f)
  persistents_judged = persistents_as ∙ sym (files.persistents_judged f few_persistents)

  module _ {masks : List ℕ} {past : ℕ} (q : MasksRead f (drop w.at f) w.count max_ranks masks past) where
    pub persistents_past : drop past f ≡ left_bytes f
    persistents_past = q.reached ∙ ap₂ rest c.reached c.is

    pub persistents_stored : masks ≡ (table_of f).persistents
    unfolding table_of
    persistents_stored = q.stored ∙ ap₂ (λ (h : List ℕ) (i : ℕ). numbers h i max_ranks) c.reached c.is

  pub last_table : {count : ℕ} {elements persistents : List ℕ} → count ≡ element_count f → elements ≡ (table_of f).elements → persistents ≡ (table_of f).persistents
      → ◌≡◌ {A = Table} record { count = count; elements = elements; ranks = w.count; persistents = persistents } (table_of f)
  unfolding table_of
  last_table i e p = table_eq (table_of f) i e c.is p

-- masks that are accepted have no bit above position 24
pub masks_in_range : (kind : Kind) (f h : List ℕ) (p n m past : ℕ) {masks : List ℕ} → MasksRead f h n m masks past → judge (masks_of kind h p n) ≡ Ok tt → n ≤ m
    → (k : ℕ) → k < n → get_or masks k 0 < 2 ^ position_count
masks_in_range kind f h p n m past w e few k l = rw (w.stored, numbers_at h n m k (lt_of_lt_of_le l few) l) (mask_in_range kind h p n e k l)

-- the parts that are left
module _ (f : List ℕ) (first : judge (number_rules 0 f) ≡ Ok tt) where
  pub behind_form : Left f (drop 1 (file_parts f))
  behind_form = left_next (left_all f) first

  module _ (counted : judge (count_rules f) ≡ Ok tt) where
    pub behind_count : Left f (drop 2 (file_parts f))
    behind_count = left_next behind_form counted

    module _ {n : Number} (c : CountRead f n) (elements : judge (masks_of Element (drop n.past f) 1 n.value) ≡ Ok tt) where
      pub behind_elements : Left f (drop 3 (file_parts f))
      behind_elements = left_next behind_count (sym (elements_judged c) ∙ elements)

      module _ (ranked : judge (ranks_rules f) ≡ Ok tt) where
        pub behind_ranks : Left f (drop 4 (file_parts f))
        behind_ranks = left_next behind_elements ranked

        pub behind_persistents : {w : Ranks} → RanksRead f w → judge (masks_of Persistent (drop w.at f) w.place w.count) ≡ Ok tt → Left f (drop 5 (file_parts f))
        behind_persistents r e = left_next behind_ranks (sym (persistents_judged r) ∙ e)
