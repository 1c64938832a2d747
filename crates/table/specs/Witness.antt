-- Where exactly a table is bad (02, T-07): the two fields that a refusal has beside number and place.
--     element_no t i          element i, from 1, as places count them
--     persistent_no t r       the persistent element of rank r, from 1
--     Apart t i j            element j is the lowest earlier one that shares no position with element i, and i is the lowest that has such a one
--     Missed t i r n         n is the lowest position without a partner in element i, of the persistent element of rank r; r is the lowest rank that
--                            misses element i, and i the lowest element that some persistent element misses
--     Neither x              a refusal by another number than 5 and 7: zeros
--     Witness t x            the refusal x: 5 with that element, 7 with that rank and position, or neither
--     Witnesses              so is every refusal of a record, and of a file; and what that says of the fields, by the number
-- Assumes nothing.
use Rattle.std.specs.Prelude.{true, false, List, [], ◌∷◌, ◌≡◌, ℕ, ◌-◌, ◌≤◌, ◌<◌}
use Rattle.seq.specs.Bits.{bit}
use Rattle.table.specs.declared.Table.{Table}
use Rattle.table.specs.File.{table_of, file_verdict}
use Rattle.table.specs.Mask.{position_count, meets, partner, persistent_for}
use Rattle.table.specs.Record.{element, persistent_at, record_verdict}
use Rattle.verdict.specs.declared.Rule.{Rule}
use Rattle.verdict.specs.Numbers.{Says, among}
use Rattle.verdict.specs.Rules.{witnessed, number, refusal, number_of, Refusal}
use Rattle.verdict.specs.declared.Rule.TheVariants as why

abbrev pub element_no : Table → ℕ → ℕ
element_no t i = element t (i - 1)

abbrev pub persistent_no : Table → ℕ → ℕ
persistent_no t r = persistent_at t (r - 1)

pub record Apart (t : Table) (i j : ℕ) : Type 0 where
  pub earlier : (1 ≤ j) × (j < i) × (i ≤ t.count)
  pub disjoint : meets (element_no t i) (element_no t j) ≡ false
  pub lowest : (h : ℕ) → 1 ≤ h → h < j → meets (element_no t i) (element_no t h) ≡ true
  pub lowest_element : (k h : ℕ) → 1 ≤ h → h < k → k < i → meets (element_no t k) (element_no t h) ≡ true

pub record Missed (t : Table) (i r n : ℕ) : Type 0 where
  pub named : (1 ≤ i) × (i ≤ t.count) × (1 ≤ r) × (r ≤ t.ranks)
  pub position : (n < position_count) × (bit (persistent_no t r) n ≡ true)
  pub no_partner : partner (persistent_no t r) (element_no t i) n ≡ false
  pub lowest_position : (m : ℕ) → m < n → bit (persistent_no t r) m ≡ true → partner (persistent_no t r) (element_no t i) m ≡ true
  pub lowest_rank : (s : ℕ) → 1 ≤ s → s < r → persistent_for (persistent_no t s) (element_no t i) ≡ true
  pub lowest_element : (k s : ℕ) → 1 ≤ k → k < i → 1 ≤ s → s ≤ t.ranks → persistent_for (persistent_no t s) (element_no t k) ≡ true

pub data Neither : Refusal → Type 0 where
  zeros : {n : Rule} {p : ℕ} → among (5 ∷ 7 ∷ []) (number n) ≡ false → Neither (refusal n p)

pub data Witness (t : Table) : Refusal → Type 0 where
  apart : {i j : ℕ} → Apart t i j → Witness t (witnessed why.ElementsDisjoint i j 0)
  missed : {i r n : ℕ} → Missed t i r n → Witness t (witnessed why.NotPersistent i r n)
  neither : {x : Refusal} → Neither x → Witness t x

pub record Witnesses : Type 0 where
  pub of_record : (t : Table) → Says (Witness t) (record_verdict t)
  pub of_file : (f : List ℕ) → Says (Witness (table_of f)) (file_verdict f)
  pub by_5 : {t : Table} {x : Refusal} → Witness t x → number_of x ≡ 5 → Apart t x.place x.witness × (x.position ≡ 0)
  pub by_7 : {t : Table} {x : Refusal} → Witness t x → number_of x ≡ 7 → Missed t x.place x.witness x.position
  pub by_others : {t : Table} {x : Refusal} → Witness t x → among (5 ∷ 7 ∷ []) (number_of x) ≡ false → (x.witness ≡ 0) × (x.position ≡ 0)
