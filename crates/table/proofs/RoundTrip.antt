-- Tables there and back, proved (specs/RoundTrip).
-- Assumes nothing.
use Rattle.table.specs.File.{table_of}
use Rattle.table.specs.RoundTrip.{TableRoundTrip}
use Rattle.table.proofs.FileBack.{file_passed, form_back, read_sound, bytes_back}
use Rattle.table.proofs.RecordBack.{table_back, file_accepted}
use Rattle.table.proofs.Verdicts.{record_sound, sound_record}

pub table_round_trip : TableRoundTrip
unfolding table_of
table_round_trip =
    record {
      record_back = λ t whole ranked e. let s = record_sound t e in (file_accepted t whole ranked s, table_back t whole ranked s);
      file_back = λ f b e. bytes_back f b (file_passed f e);
      read_checked = λ f e. sound_record (table_of f) (read_sound f (file_passed f e));
      one_form = λ f e. form_back f (file_passed f e);
    }
