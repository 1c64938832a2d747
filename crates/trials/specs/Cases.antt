-- 01's cases marked (P) and those of 02, as one list, and one theorem that the checker computes over the list.
--     cases            the cases
--     cases_met        the definitions give what each expects
-- Assumes nothing.
use Rattle.std.specs.Prelude.{true, List, [], ◌∷◌, ◌++◌, ◌≡◌, refl, replicate}
use Rattle.history.specs.Computing.{computing}
use Rattle.image.specs.File.{image_bytes}
use Rattle.image.specs.Header.{header}
use Rattle.operator.specs.Samples.{one_element, ring, cross, cobbles, dot, chessboard}
use Rattle.seq.specs.Lists.{all}
use Rattle.table.specs.Sample.{listed}
use Rattle.trials.specs.Case.{Case, table_file, file_refused, record_refused, rests, collects, not_opened, plain_inner, meets}

abbrev pub cases : List Case
cases =
    table_file ring (0x01 ∷ 0xC0 ∷ 0xD3 ∷ 0x1C ∷ 0x80 ∷ 0xE0 ∷ 0x18 ∷ [])
    ∷ file_refused [] 1 0 0 0
    ∷ file_refused (0x00 ∷ []) 1 0 0 0
    ∷ file_refused (0x81 ∷ 0x00 ∷ []) 2 0 0 0
    ∷ record_refused (listed (2048 ∷ 8192 ∷ []) (12288 ∷ [])) 5 2 1 0
    ∷ file_refused (0x02 ∷ 0x80 ∷ 0x10 ∷ 0x80 ∷ 0x40 ∷ 0x80 ∷ 0x60 ∷ []) 5 2 1 0
    ∷ record_refused (one_element 469440 4096) 7 1 1 12
    ∷ file_refused (0x01 ∷ 0xC0 ∷ 0xD3 ∷ 0x1C ∷ 0x80 ∷ 0x20 ∷ []) 7 1 1 12
    ∷ rests ring (image_bytes 5 5 (dot 25 12)) (replicate 25 0) 1 0 1
    ∷ rests ring (image_bytes 4 4 (dot 16 5)) (dot 16 5) 0 0 0
    ∷ not_opened ring 4 4 (dot 16 5) 0 0 0
    ∷ rests ring (image_bytes 1 1 (0 ∷ [])) (0 ∷ []) 0 0 0
    ∷ rests ring (image_bytes 1 1 (1 ∷ [])) (1 ∷ []) 0 0 0
    ∷ rests cross (image_bytes 6 6 chessboard) chessboard 0 0 0
    ∷ plain_inner cross 6 6 chessboard 16
    -- T-02: ones in the unused bits
    ∷ rests ring (header 5 5 ++ 0x00 ∷ 0x00 ∷ 0x21 ∷ 0x00 ∷ 0x00 ∷ []) (replicate 25 0) 1 0 1
    ∷ collects ring (header 5 5 ++ 0x00 ∷ 0x00 ∷ 0x21 ∷ 0x00 ∷ 0x00 ∷ []) (header 5 5 ++ replicate 5 0x00)
    ∷ collects ring (header 4 4 ++ 0x0F ∷ 0x4F ∷ 0x0F ∷ 0x0F ∷ []) (header 4 4 ++ 0x00 ∷ 0x40 ∷ 0x00 ∷ 0x00 ∷ [])
    -- T-01: a leading 0 and several persistent elements; the 3 × 3 image that only both of them clean
    ∷ file_refused (0x00 ∷ 0x00 ∷ []) 3 0 0 0
    ∷ table_file cobbles (0x00 ∷ 0x01 ∷ 0x80 ∷ 0xD1 ∷ 0x08 ∷ 0x02 ∷ 0x80 ∷ 0x60 ∷ 0x80 ∷ 0xA0 ∷ 0x08 ∷ [])
    ∷ file_refused (0x00 ∷ 0x01 ∷ 0xC0 ∷ 0xD3 ∷ 0x1C ∷ 0x01 ∷ 0x80 ∷ 0xE0 ∷ 0x18 ∷ []) 18 2 0 0
    ∷ record_refused (listed (141440 ∷ []) (12288 ∷ 12288 ∷ [])) 6 4 0 0
    ∷ record_refused (listed (10368 ∷ 133248 ∷ []) (12288 ∷ 135168 ∷ [])) 7 1 2 12
    ∷ rests cross (image_bytes 3 3 (dot 9 4)) (dot 9 4) 0 0 0
    ∷ rests (one_element 141440 135168) (image_bytes 3 3 (dot 9 4)) (dot 9 4) 0 0 0
    ∷ rests cobbles (image_bytes 3 3 (dot 9 4)) (replicate 9 0) 1 0 1
    -- T-07: a fourth element that shares nothing with any; rank 1 misses element 2, rank 2 element 1; two positions without a partner
    ∷ record_refused (listed (192 ∷ 320 ∷ 384 ∷ 2560 ∷ []) (12288 ∷ [])) 5 4 1 0
    ∷ file_refused (0x00 ∷ 0x02 ∷ 0x84 ∷ 0x50 ∷ 0x84 ∷ 0x81 ∷ 0x08 ∷ 0x02 ∷ 0x80 ∷ 0x60 ∷ 0x80 ∷ 0xA0 ∷ 0x08 ∷ []) 7 1 2 12
    ∷ record_refused (one_element 469440 17) 7 1 1 0
    ∷ []

pub cases_met : all meets cases ≡ true
unfolding meets computing Rattle.table.specs.File.several Rattle.table.specs.File.body Rattle.table.specs.File.rank_bytes
    Rattle.table.specs.File.rank_count Rattle.table.specs.File.persistent_bytes Rattle.table.specs.File.first_place Rattle.table.specs.File.numbers
    Rattle.table.specs.File.table_of Rattle.table.specs.File.bytes_left Rattle.table.specs.File.file_verdict
    Rattle.table.specs.File.read_table Rattle.table.specs.File.table_bytes Rattle.table.specs.File.table_verdict Rattle.table.specs.File.written_table
    Rattle.table.specs.File.table_output Rattle.table.specs.Number.more Rattle.table.specs.Number.size Rattle.table.specs.Number.value
    Rattle.table.specs.Number.ends Rattle.table.specs.Number.too_long Rattle.table.specs.Number.not_fewest Rattle.table.specs.Number.group_count
    Rattle.table.specs.Number.group Rattle.table.specs.Number.number_bytes Rattle.operator.specs.Plain.opposed Rattle.operator.specs.Plain.plain_at
    Rattle.operator.specs.Plain.plain
cases_met = refl
