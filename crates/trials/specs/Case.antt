-- What a case of 01's "Trial sheets and tables", or one that a request of 02 adds, asks of the definitions.
--     Case                a case with what is expected
--     same_table t u       the two records are equal
--     refused_with v n p a b   the verdict refuses by number n at place p, with the witness a and the position b
--     inner w h i         pixel i lies in the inside of the image
--     counts_are j s p a r     the record has stage s, p passes, a added and r removed
--     ran t f             record and areas after a file is loaded with a table, and run
--     meets c             the definitions give what is expected
-- Assumes nothing.
use Rattle.std.specs.Prelude.{Bool, false, not, ◌&&◌, List, [], ◌∷◌, ℕ, ◌-◌, ◌*◌, ◌/◌, ◌%◌, eqb, leb, ltb, length, replicate, Ok, Err}
use Rattle.operator.specs.Image.{differs_at}
use Rattle.operator.specs.Pass.{opened}
use Rattle.operator.specs.Plain.{plain}
use Rattle.history.specs.declared.Job.{Job}
use Rattle.history.specs.Call.{load, run}
use Rattle.history.specs.Collect.{collect_output}
use Rattle.history.specs.Source.{from_file}
use Rattle.history.specs.Demand3.{played}
use Rattle.history.specs.State.{State}
use Rattle.history.specs.View.{view_of}
use Rattle.image.specs.Header.{width_of, height_of}
use Rattle.seq.specs.Lists.{all, count, same, same_list}
use Rattle.seq.specs.Tab.{up_to}
use Rattle.table.specs.declared.Table.{Table}
use Rattle.table.specs.File.{table_of, file_verdict, table_bytes}
use Rattle.table.specs.Record.{record_verdict}
use Rattle.verdict.specs.Rules.{is_accepted, Verdict, number_of}

pub data Case : Type 0 where
  -- the table's file, both ways
  table_file : Table → List ℕ → Case
  -- number, place, witness and position of a file, of a record
  file_refused : List ℕ → ℕ → ℕ → ℕ → ℕ → Case
  record_refused : Table → ℕ → ℕ → ℕ → ℕ → Case
  -- table, image file: loaded and run, it rests as this image with these passes, added, removed
  rests : Table → List ℕ → List ℕ → ℕ → ℕ → ℕ → Case
  -- table, image file: loaded, run and collected, it is this file
  collects : Table → List ℕ → List ℕ → Case
  -- a pixel that is not opened for a value: table, width, height, image, value, row, column
  not_opened : Table → ℕ → ℕ → List ℕ → ℕ → ℕ → ℕ → Case
  -- the plain rule changes exactly the pixels that do not touch the border, and they are so many
  plain_inner : Table → ℕ → ℕ → List ℕ → ℕ → Case

abbrev pub same_table : Table → Table → Bool
same_table t u =
    (eqb t.count u.count && same_list t.elements u.elements)
    && (eqb t.ranks u.ranks && same_list t.persistents u.persistents)

abbrev pub refused_with : Verdict → ℕ → ℕ → ℕ → ℕ → Bool
refused_with (Ok _) n p a b = false
refused_with (Err r) n p a b = (eqb (number_of r) n && eqb r.place p) && (eqb r.witness a && eqb r.position b)

abbrev pub inner : ℕ → ℕ → ℕ → Bool
inner w h i = (leb 1 (i / w) && ltb (i / w) (h - 1)) && (leb 1 (i % w) && ltb (i % w) (w - 1))

abbrev pub counts_are : Job → ℕ → ℕ → ℕ → ℕ → Bool
counts_are j stage passes added removed =
    eqb j.stage stage && (eqb j.passes passes && (eqb j.added added && eqb j.removed removed))

abbrev pub ran : Table → List ℕ → State
ran t f =
    let n = width_of f * height_of f in
    (played (load t (from_file f) ∷ run ∷ []) (replicate n 0) (replicate n 0)).state

unfoldable pub meets : Case → Bool
meets (table_file t f) = (is_accepted (record_verdict t) && is_accepted (file_verdict f)) && (same_list (table_bytes t) f && same_table (table_of f) t)
meets (file_refused f n p a b) = refused_with (file_verdict f) n p a b
meets (record_refused t n p a b) = refused_with (record_verdict t) n p a b
meets (rests t f end passes added removed) = counts_are (ran t f).job 2 passes added removed && same_list (view_of (ran t f)) end
meets (collects t f g) = same_list (collect_output (replicate (length g) 0xA5) (ran t f)) g
meets (not_opened t w h img v r c) = not (opened t w h img v r c)
meets (plain_inner t w h img n) =
    let new = plain t w h img in
    all (λ i. same (differs_at img new i) (inner w h i)) (up_to (w * h)) && eqb (count (differs_at img new) (up_to (w * h))) n
