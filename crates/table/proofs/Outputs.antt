-- What the writer answers and leaves, by the record's verdict and the output's length.
--     refused_output, short_output, whole_output      a refused record, an output too short, and the file
-- Assumes nothing.
use Rattle.std.specs.Prelude.{Ok, Err}
use mathlib.Core.Bool.{Bool}
use mathlib.Core.List.{List}
use mathlib.Core.Path.{◌≡◌, sym, ap, ◌∙◌}
use Prim.Native.Nat.{ℕ, ◌≤◌, ◌<◌}
use borrow.Author.Tests.{lt-ltb, le-ltb}
use lib.Dec.{ltb}
use lib.ListN.{length}
use Rattle.table.specs.declared.Table.{Table}
use Rattle.table.specs.File.{table_bytes, table_verdict, written_table, table_output}
use Rattle.table.specs.Record.{record_verdict}
use Rattle.verdict.specs.Rules.{refusal, refuse_if, or_else, Verdict, Refusal}
use Rattle.verdict.specs.Writer.{over, written_of, output_of}
use Rattle.verdict.specs.declared.Rule.TheVariants as why

module _ (t : Table) (out : List ℕ) where
  -- answer and memory by the verdict
  by : {v : Verdict} → table_verdict t (length out) ≡ v
      → (written_of v (table_bytes t) ≡ written_table t (length out)) × (output_of v (table_bytes t) out ≡ table_output t out)
  unfolding written_table table_output
  by e = (ap (λ (v : Verdict). written_of v (table_bytes t)) (sym e), ap (λ (v : Verdict). output_of v (table_bytes t) out) (sym e))

  pub refused_output : {r : Refusal} → record_verdict t ≡ Err r → (Err r ≡ written_table t (length out)) × (out ≡ table_output t out)
  unfolding table_verdict
  refused_output e = by (ap (λ (v : Verdict). or_else v (refuse_if (ltb (length out) (length (table_bytes t))) why.AreaShort 0)) e)

  module _ (e : record_verdict t ≡ Ok tt) where
    checked : {b : Bool} → ltb (length out) (length (table_bytes t)) ≡ b → table_verdict t (length out) ≡ refuse_if b why.AreaShort 0
    unfolding table_verdict
    checked q = ap (λ (v : Verdict). or_else v (refuse_if (ltb (length out) (length (table_bytes t))) why.AreaShort 0)) e ∙ ap (λ (b : Bool). refuse_if b why.AreaShort 0) q

    pub short_output : length out < length (table_bytes t) → (Err (refusal why.AreaShort 0) ≡ written_table t (length out)) × (out ≡ table_output t out)
    short_output h = by (checked (lt-ltb (length out) (length (table_bytes t)) h))

    pub whole_output : length (table_bytes t) ≤ length out
        → (Ok (length (table_bytes t)) ≡ written_table t (length out)) × (over (table_bytes t) out ≡ table_output t out)
    whole_output h = by (checked (le-ltb (length out) (length (table_bytes t)) h))
