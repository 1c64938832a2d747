-- 02, T-07: where exactly the table is bad.
--     record_witness, file_witness     every refusal of a record, of a file: 5 with the lowest earlier element that shares nothing, 7 with the lowest
--         rank that misses the element and its lowest position without a partner, any other with zeros
--     fields_of_5, fields_of_7, fields_of_others     what the two fields are, by the number
--     call_witness     every call that answers 5 or 7 passes them on, whatever the record holds
--     bad_tables_loaded, bad_tables_held     so a load does with these tables; held in a record, each is 14 at 0 with zeros
-- Assumes nothing.
use Rattle.std.specs.Prelude.{false, List, [], ◌∷◌, map, ◌≡◌, ℕ, Err}
use Rattle.verdict.specs.Answers.{refused, said}
use Rattle.history.proofs.Witness.{passed_on}
use Rattle.history.specs.Call.{Call, load, pass, answer_of, refusal_of}
use Rattle.history.specs.Cases.{dot_file, empty_with, held_with, bad_tables, loads_met, held_met}
use Rattle.history.specs.Source.{from_file}
use Rattle.history.specs.State.{State}
use Rattle.history.specs.Witness.{Told}
use Rattle.table.proofs.Witness.{witnesses}
use Rattle.table.specs.declared.Table.{Table}
use Rattle.table.specs.File.{table_of, file_verdict}
use Rattle.table.specs.Record.{zero_table, record_verdict}
use Rattle.table.specs.Witness.{Apart, Missed, Witness}
use Rattle.verdict.proofs.Numbers.{says_of}
use Rattle.verdict.specs.Numbers.{among}
use Rattle.verdict.specs.Rules.{number_of, Refusal}

pub record_witness : (t : Table) (x : Refusal) → record_verdict t ≡ Err x → Witness t x
record_witness t x q = says_of (witnesses.of_record t) q

pub file_witness : (f : List ℕ) (x : Refusal) → file_verdict f ≡ Err x → Witness (table_of f) x
file_witness f x q = says_of (witnesses.of_file f) q

module _ {t : Table} {x : Refusal} (w : Witness t x) where
  pub fields_of_5 : number_of x ≡ 5 → Apart t x.place x.witness × (x.position ≡ 0)
  fields_of_5 = witnesses.by_5 w

  pub fields_of_7 : number_of x ≡ 7 → Missed t x.place x.witness x.position
  fields_of_7 = witnesses.by_7 w

  pub fields_of_others : among (5 ∷ 7 ∷ []) (number_of x) ≡ false → (x.witness ≡ 0) × (x.position ≡ 0)
  fields_of_others = witnesses.by_others w

pub call_witness : (c : Call) (s : State) (x : Refusal) → refusal_of (answer_of c s) ≡ Err x → Told c x
call_witness c s x q = says_of (passed_on c s) q

pub bad_tables_loaded : map (λ c. said (refusal_of (answer_of (load c.0 (from_file dot_file)) (empty_with zero_table)))) bad_tables ≡ map (λ c. c.1) bad_tables
bad_tables_loaded = loads_met

pub bad_tables_held : map (λ c. said (refusal_of (answer_of pass (held_with c.0)))) bad_tables ≡ map (λ c. refused 14 0) bad_tables
bad_tables_held = held_met
