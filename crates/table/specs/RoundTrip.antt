-- Tables there and back (01, demand 2: files round-trip to the byte).
--     TableRoundTrip    a record written and read, a file read and written
-- Assumes nothing.
use Rattle.std.specs.Prelude.{true, not, List, ◌≡◌, ℕ, eqb, length, Ok}
use Rattle.std.proofs.Math.Pow.{are_bytes}
use Rattle.table.specs.declared.Table.{Table}
use Rattle.table.specs.File.{several, table_of, file_verdict, table_bytes}
use Rattle.table.specs.Record.{max_elements, max_ranks, record_verdict}

pub record TableRoundTrip : Type 0 where
  -- a record that the check accepts, written and read, is accepted and is the same record
  pub record_back : (t : Table) → length t.elements ≡ max_elements → length t.persistents ≡ max_ranks → record_verdict t ≡ Ok tt
      → (file_verdict (table_bytes t) ≡ Ok tt) × (table_of (table_bytes t) ≡ t)
  -- an accepted file, read and written, has the same bytes
  pub file_back : (f : List ℕ) → are_bytes f ≡ true → file_verdict f ≡ Ok tt → table_bytes (table_of f) ≡ f
  -- what the reader accepts, the record check accepts
  pub read_checked : (f : List ℕ) → file_verdict f ≡ Ok tt → record_verdict (table_of f) ≡ Ok tt
  -- a table of one persistent element has only the form without the leading 0, and one of several only the other
  pub one_form : (f : List ℕ) → file_verdict f ≡ Ok tt → several f ≡ not (eqb (table_of f).ranks 1)
