-- The reader's answer, part by part of a file's rules.
--     Left f parts             the rules of these parts are left: the file is judged by them
--     left_all, left_next, left_refused, left_last     all of them, behind a part that accepts, at one that refuses, and at the last
--     count_judged, elements_judged, persistents_judged     the rules on the counted parts
--     file_form                the form of a file by its first number
--     body_by, persistents_by, ranks_by, place_by     what depends on it
--     single_judged, ranks_judged     the rules on the number of persistent elements, in each form
--     last_bytes_lem, last_relations      the rules behind the last number
--     table_eq                 a record by its fields
-- Assumes nothing.
use Rattle.std.specs.Prelude.{Ok, Err}
use mathlib.Core.Bool.{Bool, true, false, not, cond}
use mathlib.Core.List.{List, [], ◌∷◌, ◌++◌}
use mathlib.Core.Path.{◌≡◌, refl, sym, ap, ap₂, ◌∙◌}
use Prim.Native.Nat.{ℕ, ◌+◌, ◌-◌, ◌≤◌, ◌<◌}
use native.Mathlib.Omega.{arith}
use borrow.Author.Tests.{eq-eqb, ne_eqb}
use lib.Dec.{eqb}
use lib.ListN.{length, drop, length-drop}
use Rattle.seq.specs.Lists.{one, join}
use Rattle.table.specs.declared.Table.{Table}
use Rattle.table.specs.declared.mask.Kind.TheVariants.{Element, Persistent}
use Rattle.table.specs.Code.Reading.{masks_judged}
use Rattle.table.specs.Code.Search.{bad_of}
use Rattle.table.specs.File.{number, skip_if, several, body, element_count, element_bytes, rank_bytes, rank_count, persistent_bytes, left_bytes, first_place, table_of, bytes_left, count_rules, elements_rules, ranks_rules, persistents_rules, last_rules, file_parts, file_verdict, read_table, record_of}
use Rattle.table.specs.Number.{number_rules}
use Rattle.table.specs.Record.{max_elements, max_ranks, bad_count, bad_ranks, bad_element, bad_persistent, count_rule, meet_rule, persist_rule, zero_table}
use Rattle.verdict.specs.declared.Rule.TheVariants as why
use Rattle.table.proofs.Judging.{part_refuses, part_accepts}
use Rattle.table.proofs.Tables.{masks_rules_lem}
use Rattle.verdict.specs.Rules.{refusal, refuse_if, or_else, judge, Verdict, result_of, Refusal}
use Rattle.verdict.proofs.Rules.{judge_append, judge_last, or_else_accepted}

pub record Left (f : List ℕ) (parts : List (List Verdict)) : Type 0 where
  pub left : judge (join parts) ≡ file_verdict f

pub left_all : (f : List ℕ) → Left f (file_parts f)
unfolding file_verdict
left_all f = record { left = refl }

module _ {f : List ℕ} {part : List Verdict} where
  pub left_next : {parts : List (List Verdict)} → Left f (part ∷ parts) → judge part ≡ Ok tt → Left f parts
  left_next {parts} w e = record { left = sym (part_accepts part parts e) ∙ w.left }

  pub left_refused : {parts : List (List Verdict)} {r : Refusal} → Left f (part ∷ parts) → judge part ≡ Err r → Err r ≡ read_table f
  unfolding read_table
  left_refused {parts} w e = ap (λ (v : Verdict). result_of v (table_of f)) (sym (part_refuses part parts e) ∙ w.left)

  pub left_last : {v : Verdict} → Left f (part ∷ []) → judge part ≡ v → result_of v (table_of f) ≡ read_table f
  unfolding read_table
  left_last w e =
      ap (λ (v : Verdict). result_of v (table_of f)) (sym (judge_append part [] ∙ or_else_accepted (judge part) ∙ e) ∙ w.left)

module _ (f : List ℕ) where
  pub count_judged : {v : Verdict} {count : ℕ} {b : Bool} → judge (number_rules 0 (body f)) ≡ v → count ≡ element_count f → bad_count count ≡ b
      → judge (count_rules f) ≡ or_else v (refuse_if b why.ElementCount 0)
  unfolding table_of bad_count
  count_judged e c q =
      judge_last (number_rules 0 (body f)) (count_rule (table_of f))
      ∙ ap₂ (λ (v : Verdict) (b : Bool). or_else v (refuse_if b why.ElementCount 0)) e (ap bad_count (sym c) ∙ q)

  pub elements_judged : element_count f ≤ max_elements → judge (elements_rules f) ≡ masks_judged Element (element_bytes f) 1 (element_count f)
  unfolding table_of bad_element bad_of
  elements_judged = masks_rules_lem Element (element_bytes f) 1 (element_count f) max_elements

  pub persistents_judged : rank_count f ≤ max_ranks → judge (persistents_rules f) ≡ masks_judged Persistent (persistent_bytes f) (first_place f) (rank_count f)
  unfolding table_of bad_persistent bad_of
  persistents_judged = masks_rules_lem Persistent (persistent_bytes f) (first_place f) (rank_count f) max_ranks

  -- ---- the two forms

  -- the rules on the number of several persistent elements
  abbrev pub several_rules : List Verdict
  several_rules = number_rules (element_count f + 1) (rank_bytes f) ++ refuse_if (bad_ranks 2 (rank_count f)) why.RankCount (element_count f + 1) ∷ []

  pub file_form : {n : ℕ} {b : Bool} → n ≡ number f 0 → eqb n 0 ≡ b → b ≡ several f
  unfolding several
  file_form e q = sym (ap (λ (m : ℕ). eqb m 0) (sym e) ∙ q)

  module _ {b : Bool} (form : b ≡ several f) where
    pub body_by : skip_if b f ≡ body f
    unfolding body
    body_by = ap (λ (t : Bool). skip_if t f) form

    pub persistents_by : skip_if b (rank_bytes f) ≡ persistent_bytes f
    unfolding persistent_bytes
    persistents_by = ap (λ (t : Bool). skip_if t (rank_bytes f)) form

    pub ranks_by : cond b (number (rank_bytes f) 0) 1 ≡ rank_count f
    unfolding rank_count
    ranks_by = ap (λ (t : Bool). cond t (number (rank_bytes f) 0) 1) form

    pub place_by : element_count f + 1 + one b ≡ first_place f
    unfolding first_place
    place_by = ap (λ (t : Bool). element_count f + 1 + one t) form

  pub single_judged : false ≡ several f → judge (ranks_rules f) ≡ Ok tt
  single_judged e = ap (λ (t : Bool). judge (cond t several_rules [])) (sym e)

  pub ranks_judged : {v : Verdict} {ranks : ℕ} {b : Bool} → true ≡ several f → judge (number_rules (element_count f + 1) (rank_bytes f)) ≡ v → ranks ≡ rank_count f → bad_ranks 2 ranks ≡ b
      → judge (ranks_rules f) ≡ or_else v (refuse_if b why.RankCount (element_count f + 1))
  ranks_judged e q r w =
      ap (λ (t : Bool). judge (cond t several_rules [])) (sym e)
      ∙ judge_last (number_rules (element_count f + 1) (rank_bytes f)) (refuse_if (bad_ranks 2 (rank_count f)) why.RankCount (element_count f + 1))
      ∙ ap₂ (λ (v : Verdict) (b : Bool). or_else v (refuse_if b why.RankCount (element_count f + 1))) q (ap (bad_ranks 2) (sym r) ∙ w)

  -- ---- behind the last number

  module _ (past : ℕ) (reached : drop past f ≡ left_bytes f) where
    behind : {b : Bool} → eqb (length f - past) 0 ≡ b
        → judge (last_rules f) ≡ or_else (refuse_if (not b) why.BytesLeft (first_place f + rank_count f)) (or_else (meet_rule (table_of f)) (persist_rule (table_of f)))
    unfolding bytes_left
    behind e =
        ap₂ (λ (b : Bool) (v : Verdict). or_else (refuse_if (not b) why.BytesLeft (first_place f + rank_count f)) (or_else (meet_rule (table_of f)) v))
        (ap (λ (t : List ℕ). eqb (length t) 0) (sym reached) ∙ ap (λ (n : ℕ). eqb n 0) (length-drop past f) ∙ e)
        (or_else_accepted (persist_rule (table_of f)))

    pub last_bytes_lem : past < length f → judge (last_rules f) ≡ Err (refusal why.BytesLeft (first_place f + rank_count f))
    last_bytes_lem h = behind (ne_eqb (length f - past) 0 (λ z. omega arith))

    pub last_relations : length f ≤ past → judge (last_rules f) ≡ or_else (meet_rule (table_of f)) (persist_rule (table_of f))
    last_relations h = behind (eq-eqb (length f - past) 0 (omega arith))

-- a record by its fields
pub table_eq : (t : Table) {count ranks : ℕ} {elements persistents : List ℕ} → count ≡ t.count → elements ≡ t.elements → ranks ≡ t.ranks → persistents ≡ t.persistents
    → ◌≡◌ {A = Table} record { count = count; elements = elements; ranks = ranks; persistents = persistents } t
table_eq t {count} {ranks} {elements} {persistents} p q r s =
    ap (λ (c : ℕ). made c elements ranks persistents) p ∙ ap (λ (e : List ℕ). made t.count e ranks persistents) q
    ∙ ap (λ (n : ℕ). made t.count t.elements n persistents) r ∙ ap (made t.count t.elements t.ranks) s
  where
    made : ℕ → List ℕ → ℕ → List ℕ → Table
    made c e n k = record { count = c; elements = e; ranks = n; persistents = k }

-- a refused file gives no record
pub refused_zero : (f : List ℕ) (r : Refusal) → file_verdict f ≡ Err r → record_of (read_table f) ≡ zero_table
unfolding read_table
refused_zero f r e = rw e
