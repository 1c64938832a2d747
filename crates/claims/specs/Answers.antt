-- 01: where an answer is an enum, a definition gives number and values for each case. What each answer refuses by is the verdict of its rules,
-- and in a refused answer every value is zero. (For the calls on a job: Demand1.)
--     table_read_refuses, table_read_zero         the table reader
--     table_write_refuses, image_write_refuses, written_zero     the writers
--     image_read_refuses, image_read_zero         the image reader
--     pass_refuses                                one pass over slices
-- Assumes nothing.
use Rattle.std.specs.Prelude.{List, ◌≡◌, refl, ℕ, Ok, Err, length}
use Rattle.filter.specs.Applied.{counts_as, pass_verdict, filtered}
use Rattle.image.specs.Answers.{read_width, read_height}
use Rattle.image.specs.File as image
use Rattle.image.specs.Header.{width_of, height_of}
use Rattle.image.specs.Size.{extent}
use Rattle.operator.specs.Pass.{pass}
use Rattle.table.specs.declared.Table.{Table}
use Rattle.table.specs.File as table
use Rattle.table.specs.Record.{zero_table}
use Rattle.verdict.specs.Answers.{written_length, verdict_of}
use Rattle.verdict.specs.Rules.{Verdict, result_of, Refusal}
use Rattle.verdict.specs.Writer.{written_of}
use Rattle.table.proofs.Files.{refused_zero}

-- an answer by a verdict
by_verdict : {A : Type 0} (v : Verdict) (a : A) → verdict_of (result_of v a) ≡ v
by_verdict (Ok _) a = refl
by_verdict (Err r) a = refl

pub table_read_refuses : (f : List ℕ) → verdict_of (table.read_table f) ≡ table.file_verdict f
unfolding table.read_table
table_read_refuses f = by_verdict (table.file_verdict f) (table.table_of f)

pub table_read_zero : (f : List ℕ) (r : Refusal) → table.file_verdict f ≡ Err r → table.record_of (table.read_table f) ≡ zero_table
table_read_zero = refused_zero

pub table_write_refuses : (t : Table) (n : ℕ) → verdict_of (table.written_table t n) ≡ table.table_verdict t n
unfolding table.written_table
table_write_refuses t n = by_verdict (table.table_verdict t n) (length (table.table_bytes t))

pub image_write_refuses : (w h : ℕ) (px : List ℕ) (n : ℕ) → verdict_of (image.image_written w h px n) ≡ image.write_verdict w h px n
unfolding image.image_written
image_write_refuses w h px n = by_verdict (image.write_verdict w h px n) (length (image.image_bytes w h px))

pub written_zero : (file : List ℕ) (r : Refusal) → written_length (written_of (Err r) file) ≡ 0
written_zero file r = refl

pub image_read_refuses : (f : List ℕ) (n : ℕ) → verdict_of (image.image_read f n) ≡ image.image_verdict f n
unfolding image.image_read
image_read_refuses f n = by_verdict (image.image_verdict f n) (extent (width_of f) (height_of f))

pub image_read_zero : (f : List ℕ) (n : ℕ) (r : Refusal) → image.image_verdict f n ≡ Err r
    → (read_width (image.image_read f n) ≡ 0) × (read_height (image.image_read f n) ≡ 0)
unfolding image.image_read
image_read_zero f n r e = rw e (refl, refl)

pub pass_refuses : (t : Table) (w h : ℕ) (px : List ℕ) (n : ℕ) → verdict_of (filtered t w h px n) ≡ pass_verdict t w h px n
unfolding filtered
pass_refuses t w h px n = by (pass_verdict t w h px n)
  where
    by : (v : Verdict) → verdict_of (counts_as v px (pass t w h px)) ≡ v
    by (Ok _) = refl
    by (Err r) = refl
