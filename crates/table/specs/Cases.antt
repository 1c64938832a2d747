-- Small cases that fix what the rules of 01 and of 02's T-01 and T-07 say where a definition could be read another way.
--     records, files     with the verdict expected of each
--     unrelated          tables that 5 or 7 refuses
--     whole              accepted files with their records
--     Cases              the definitions give what is expected
-- Assumes nothing.
use Rattle.std.specs.Prelude.{List, [], ◌∷◌, map, ◌≡◌, ℕ}
use Rattle.table.specs.declared.Table.{Table}
use Rattle.table.specs.File.{table_of, file_verdict, table_bytes}
use Rattle.table.specs.Record.{record_verdict}
use Rattle.table.specs.Sample.{filled, listed}
use Rattle.verdict.specs.Answers.{accepted, refused, refused_for, Said, said}

-- a record with these elements and one persistent element
abbrev of : List ℕ → ℕ → Table
of es K = listed es (K ∷ [])

abbrev pub records : List (Table × Said)
records =
    -- the four neighbours, two side by side
    (of (141440 ∷ []) 12288, accepted)
    -- elements rise strictly
    ∷ (of (141440 ∷ 141440 ∷ []) 12288, refused 4 2)
    -- a bad element speaks before a bad persistent element, and that before disjoint elements
    ∷ (of (4096 ∷ []) 0, refused 4 1)
    ∷ (of (2048 ∷ 8192 ∷ []) 0, refused 6 3)
    -- left and right: two side by side are persistent
    ∷ (of (10240 ∷ []) 12288, accepted)
    -- a place past the count is zero
    ∷ (filled 1 (141440 ∷ 0 ∷ 0 ∷ 9 ∷ []) 1 (12288 ∷ []), refused 4 4)
    -- one to four persistent elements; an element speaks before their number, and that before themselves
    ∷ (of (469440 ∷ []) 405504, accepted)
    ∷ (filled 1 (469440 ∷ []) 0 (405504 ∷ []), refused 18 2)
    ∷ (filled 1 (469440 ∷ []) 5 (1 ∷ 2 ∷ 3 ∷ 4 ∷ []), refused 18 2)
    ∷ (filled 1 (4096 ∷ []) 0 [], refused 4 1)
    ∷ (filled 1 (469440 ∷ 0 ∷ 9 ∷ []) 0 [], refused 4 3)
    -- a single one stands at count + 1; past it places are zero, and stand where they would among several
    ∷ (filled 1 (469440 ∷ []) 1 (0 ∷ 7 ∷ []), refused 6 2)
    ∷ (filled 1 (469440 ∷ []) 1 (405504 ∷ 7 ∷ []), refused 6 4)
    ∷ (filled 1 (469440 ∷ []) 1 (405504 ∷ 0 ∷ 0 ∷ 7 ∷ []), refused 6 6)
    -- of several, rank r stands at count + 1 + r; they rise strictly
    ∷ (filled 1 (141440 ∷ []) 2 (0 ∷ 12288 ∷ []), refused 6 3)
    ∷ (filled 1 (141440 ∷ []) 2 (12288 ∷ 12288 ∷ []), refused 6 4)
    ∷ (filled 1 (141440 ∷ []) 2 (12288 ∷ 135168 ∷ 135169 ∷ []), refused 6 5)
    ∷ (filled 1 (141440 ∷ []) 3 (12288 ∷ 135168 ∷ 33554432 ∷ []), refused 6 5)
    ∷ (filled 1 (141440 ∷ []) 4 (6144 ∷ 12288 ∷ 135168 ∷ 405504 ∷ []), accepted)
    -- their range speaks before disjoint elements
    ∷ (filled 2 (2048 ∷ 8192 ∷ []) 2 (12288 ∷ 12288 ∷ []), refused 6 5)
    ∷ []

abbrev pub files : List (List ℕ × Said)
files =
    -- a fourth group with bit 7 set, at the end of the bytes too; three groups are an end within the number
    (0x80 ∷ 0x80 ∷ 0x80 ∷ 0x80 ∷ [], refused 2 0)
    ∷ (0x80 ∷ 0x80 ∷ 0x80 ∷ 0x80 ∷ 0x01 ∷ [], refused 2 0)
    ∷ (0x80 ∷ 0x80 ∷ 0x80 ∷ [], refused 1 0)
    ∷ (0x80 ∷ 0x80 ∷ 0x80 ∷ 0x00 ∷ [], refused 2 0)
    -- a persistent element out of range speaks before bytes after it
    ∷ (0x01 ∷ 0xC0 ∷ 0xD3 ∷ 0x1C ∷ 0x00 ∷ 0x00 ∷ [], refused 6 2)
    -- bytes after the last number speak before disjoint elements
    ∷ (0x02 ∷ 0x80 ∷ 0x10 ∷ 0x80 ∷ 0x40 ∷ 0x80 ∷ 0x60 ∷ 0x00 ∷ [], refused 8 4)
    -- a range speaks before the next number's end
    ∷ (0x02 ∷ 0x00 ∷ [], refused 4 1)
    -- a leading 0 opens the form of several persistent elements; place 0 is its place and the element count's, and a second 0 is a count
    ∷ ([], refused 1 0)
    ∷ (0x00 ∷ [], refused 1 0)
    ∷ (0x00 ∷ 0x00 ∷ [], refused 3 0)
    ∷ (0x00 ∷ 0x41 ∷ [], refused 3 0)
    ∷ (0x41 ∷ [], refused 3 0)
    ∷ (0x80 ∷ 0x00 ∷ [], refused 2 0)
    ∷ (0x00 ∷ 0x81 ∷ 0x00 ∷ [], refused 2 0)
    ∷ (0x00 ∷ 0x01 ∷ [], refused 1 1)
    -- the number of persistent elements, at count + 1: 1, 2, then 18; in this form it is not 1
    ∷ (0x00 ∷ 0x01 ∷ 0xC0 ∷ 0xD3 ∷ 0x1C ∷ [], refused 1 2)
    ∷ (0x00 ∷ 0x01 ∷ 0xC0 ∷ 0xD3 ∷ 0x1C ∷ 0x82 ∷ 0x00 ∷ [], refused 2 2)
    ∷ (0x00 ∷ 0x01 ∷ 0xC0 ∷ 0xD3 ∷ 0x1C ∷ 0x00 ∷ [], refused 18 2)
    ∷ (0x00 ∷ 0x01 ∷ 0xC0 ∷ 0xD3 ∷ 0x1C ∷ 0x01 ∷ 0x80 ∷ 0xE0 ∷ 0x18 ∷ [], refused 18 2)
    ∷ (0x00 ∷ 0x01 ∷ 0xC0 ∷ 0xD3 ∷ 0x1C ∷ 0x05 ∷ [], refused 18 2)
    -- the persistent elements follow it, and rise
    ∷ (0x00 ∷ 0x01 ∷ 0xC0 ∷ 0xD3 ∷ 0x1C ∷ 0x02 ∷ [], refused 1 3)
    ∷ (0x00 ∷ 0x01 ∷ 0xC0 ∷ 0xD3 ∷ 0x1C ∷ 0x02 ∷ 0x00 ∷ 0x80 ∷ 0xE0 ∷ 0x18 ∷ [], refused 6 3)
    ∷ (0x00 ∷ 0x01 ∷ 0x80 ∷ 0xD1 ∷ 0x08 ∷ 0x02 ∷ 0x80 ∷ 0xA0 ∷ 0x08 ∷ 0x80 ∷ 0x60 ∷ [], refused 6 4)
    -- then 8, before 5 too
    ∷ (0x00 ∷ 0x01 ∷ 0x80 ∷ 0xD1 ∷ 0x08 ∷ 0x02 ∷ 0x80 ∷ 0x60 ∷ 0x80 ∷ 0xA0 ∷ 0x08 ∷ 0x00 ∷ [], refused 8 5)
    ∷ (0x00 ∷ 0x02 ∷ 0x80 ∷ 0x10 ∷ 0x80 ∷ 0x40 ∷ 0x02 ∷ 0x80 ∷ 0x60 ∷ 0x80 ∷ 0xA0 ∷ 0x08 ∷ 0x00 ∷ [], refused 8 6)
    ∷ (0x00 ∷ 0x01 ∷ 0x80 ∷ 0xD1 ∷ 0x08 ∷ 0x02 ∷ 0x80 ∷ 0x60 ∷ 0x80 ∷ 0xA0 ∷ 0x08 ∷ [], accepted)
    -- a file of the form with one has one
    ∷ (0x01 ∷ 0xC0 ∷ 0xD3 ∷ 0x1C ∷ 0x80 ∷ 0xE0 ∷ 0x18 ∷ [], accepted)
    ∷ []

-- tables that 5 or 7 refuses, as record and as file, with witness and position (02, T-07)
abbrev pub unrelated : List (Table × List ℕ × Said)
unrelated =
    -- disjoint elements speak before a persistent element that is none
    (listed (2048 ∷ 8192 ∷ []) (12288 ∷ []), 0x02 ∷ 0x80 ∷ 0x10 ∷ 0x80 ∷ 0x40 ∷ 0x80 ∷ 0x60 ∷ [], refused_for 5 2 1 0)
    ∷ (listed (2048 ∷ 8192 ∷ []) (4096 ∷ []), 0x02 ∷ 0x80 ∷ 0x10 ∷ 0x80 ∷ 0x40 ∷ 0x80 ∷ 0x20 ∷ [], refused_for 5 2 1 0)
    ∷ (
      listed (2048 ∷ 8192 ∷ []) (12288 ∷ 135168 ∷ []),
      0x00 ∷ 0x02 ∷ 0x80 ∷ 0x10 ∷ 0x80 ∷ 0x40 ∷ 0x02 ∷ 0x80 ∷ 0x60 ∷ 0x80 ∷ 0xA0 ∷ 0x08 ∷ [],
      refused_for 5 2 1 0,
    )
    -- the later element is named, and the lowest earlier one that shares nothing with it
    ∷ (listed (64 ∷ 128 ∷ 256 ∷ []) (12288 ∷ []), 0x03 ∷ 0x40 ∷ 0x80 ∷ 0x01 ∷ 0x80 ∷ 0x02 ∷ 0x80 ∷ 0x60 ∷ [], refused_for 5 2 1 0)
    ∷ (listed (192 ∷ 320 ∷ 768 ∷ []) (12288 ∷ []), 0x03 ∷ 0xC0 ∷ 0x01 ∷ 0xC0 ∷ 0x02 ∷ 0x80 ∷ 0x06 ∷ 0x80 ∷ 0x60 ∷ [], refused_for 5 3 1 0)
    ∷ (listed (192 ∷ 320 ∷ 384 ∷ 2560 ∷ []) (12288 ∷ []), 0x04 ∷ 0xC0 ∷ 0x01 ∷ 0xC0 ∷ 0x02 ∷ 0x80 ∷ 0x03 ∷ 0x80 ∷ 0x14 ∷ 0x80 ∷ 0x60 ∷ [], refused_for 5 4 1 0)
    ∷ (
      listed (65 ∷ 129 ∷ 192 ∷ 16777217 ∷ []) (12288 ∷ []),
      0x04 ∷ 0x41 ∷ 0x81 ∷ 0x01 ∷ 0xC0 ∷ 0x01 ∷ 0x81 ∷ 0x80 ∷ 0x80 ∷ 0x08 ∷ 0x80 ∷ 0x60 ∷ [],
      refused_for 5 4 3 0,
    )
    -- a single point is not persistent; position 0 is a position, and of a pair with a far point the far one has no partner
    ∷ (listed (469440 ∷ []) (4096 ∷ []), 0x01 ∷ 0xC0 ∷ 0xD3 ∷ 0x1C ∷ 0x80 ∷ 0x20 ∷ [], refused_for 7 1 1 12)
    ∷ (listed (469440 ∷ []) (1 ∷ []), 0x01 ∷ 0xC0 ∷ 0xD3 ∷ 0x1C ∷ 0x01 ∷ [], refused_for 7 1 1 0)
    ∷ (listed (141440 ∷ []) (12289 ∷ []), 0x01 ∷ 0x80 ∷ 0xD1 ∷ 0x08 ∷ 0x81 ∷ 0x60 ∷ [], refused_for 7 1 1 0)
    -- left and right: two in a column are not persistent, nor the end of a row with the start of the next
    ∷ (listed (10240 ∷ []) (135168 ∷ []), 0x01 ∷ 0x80 ∷ 0x50 ∷ 0x80 ∷ 0xA0 ∷ 0x08 ∷ [], refused_for 7 1 1 12)
    ∷ (listed (10240 ∷ []) (49152 ∷ []), 0x01 ∷ 0x80 ∷ 0x50 ∷ 0x80 ∷ 0x80 ∷ 0x03 ∷ [], refused_for 7 1 1 14)
    -- the first element is not missed, the second is: at the later position of the pair, and by rank 2
    ∷ (listed (10240 ∷ 139264 ∷ []) (12288 ∷ []), 0x02 ∷ 0x80 ∷ 0x50 ∷ 0x80 ∷ 0xC0 ∷ 0x08 ∷ 0x80 ∷ 0x60 ∷ [], refused_for 7 2 1 13)
    ∷ (
      listed (141440 ∷ 141568 ∷ []) (12288 ∷ 135168 ∷ []),
      0x00 ∷ 0x02 ∷ 0x80 ∷ 0xD1 ∷ 0x08 ∷ 0x80 ∷ 0xD2 ∷ 0x08 ∷ 0x02 ∷ 0x80 ∷ 0x60 ∷ 0x80 ∷ 0xA0 ∷ 0x08 ∷ [],
      refused_for 7 2 2 17,
    )
    -- each persistent element is so alone: the lowest element that some of them misses is named, then the lowest rank that misses it
    ∷ (listed (131200 ∷ 141440 ∷ []) (12288 ∷ []), 0x02 ∷ 0x80 ∷ 0x81 ∷ 0x08 ∷ 0x80 ∷ 0xD1 ∷ 0x08 ∷ 0x80 ∷ 0x60 ∷ [], refused_for 7 1 1 12)
    ∷ (listed (141440 ∷ []) (12288 ∷ 266240 ∷ []), 0x00 ∷ 0x01 ∷ 0x80 ∷ 0xD1 ∷ 0x08 ∷ 0x02 ∷ 0x80 ∷ 0x60 ∷ 0x80 ∷ 0xA0 ∷ 0x10 ∷ [], refused_for 7 1 2 12)
    ∷ (listed (469440 ∷ []) (4096 ∷ 405504 ∷ []), 0x00 ∷ 0x01 ∷ 0xC0 ∷ 0xD3 ∷ 0x1C ∷ 0x02 ∷ 0x80 ∷ 0x20 ∷ 0x80 ∷ 0xE0 ∷ 0x18 ∷ [], refused_for 7 1 1 12)
    ∷ (listed (469440 ∷ []) (1 ∷ 2 ∷ []), 0x00 ∷ 0x01 ∷ 0xC0 ∷ 0xD3 ∷ 0x1C ∷ 0x02 ∷ 0x01 ∷ 0x02 ∷ [], refused_for 7 1 1 0)
    ∷ (
      listed (10368 ∷ 133248 ∷ []) (12288 ∷ 135168 ∷ []),
      0x00 ∷ 0x02 ∷ 0x80 ∷ 0x51 ∷ 0x80 ∷ 0x91 ∷ 0x08 ∷ 0x02 ∷ 0x80 ∷ 0x60 ∷ 0x80 ∷ 0xA0 ∷ 0x08 ∷ [],
      refused_for 7 1 2 12,
    )
    ∷ (
      listed (10244 ∷ 131204 ∷ []) (12288 ∷ 135168 ∷ []),
      0x00 ∷ 0x02 ∷ 0x84 ∷ 0x50 ∷ 0x84 ∷ 0x81 ∷ 0x08 ∷ 0x02 ∷ 0x80 ∷ 0x60 ∷ 0x80 ∷ 0xA0 ∷ 0x08 ∷ [],
      refused_for 7 1 2 12,
    )
    ∷ (
      listed (141440 ∷ []) (6144 ∷ 12288 ∷ 266240 ∷ 405504 ∷ []),
      0x00 ∷ 0x01 ∷ 0x80 ∷ 0xD1 ∷ 0x08 ∷ 0x04 ∷ 0x80 ∷ 0x30 ∷ 0x80 ∷ 0x60 ∷ 0x80 ∷ 0xA0 ∷ 0x10 ∷ 0x80 ∷ 0xE0 ∷ 0x18 ∷ [],
      refused_for 7 1 3 12,
    )
    ∷ (
      listed (141440 ∷ []) (6144 ∷ 12288 ∷ 1052672 ∷ 16781312 ∷ []),
      0x00 ∷ 0x01 ∷ 0x80 ∷ 0xD1 ∷ 0x08 ∷ 0x04 ∷ 0x80 ∷ 0x30 ∷ 0x80 ∷ 0x60 ∷ 0x80 ∷ 0xA0 ∷ 0x40 ∷ 0x80 ∷ 0xA0 ∷ 0x80 ∷ 0x08 ∷ [],
      refused_for 7 1 3 12,
    )
    ∷ []

-- files that are accepted and come back, with the record that they make
abbrev pub whole : List (List ℕ × Table)
whole =
    (0x01 ∷ 0xC0 ∷ 0xD3 ∷ 0x1C ∷ 0x80 ∷ 0xE0 ∷ 0x18 ∷ [], of (469440 ∷ []) 405504)
    ∷ (0x00 ∷ 0x01 ∷ 0x80 ∷ 0xD1 ∷ 0x08 ∷ 0x02 ∷ 0x80 ∷ 0x60 ∷ 0x80 ∷ 0xA0 ∷ 0x08 ∷ [], filled 1 (141440 ∷ []) 2 (12288 ∷ 135168 ∷ []))
    ∷ []

pub record Cases : Type 0 where
  pub records_met : map (λ c. said (record_verdict c.0)) records ≡ map (λ c. c.1) records
  pub files_met : map (λ c. said (file_verdict c.0)) files ≡ map (λ c. c.1) files
  pub unrelated_met : (map (λ c. said (record_verdict c.0)) unrelated ≡ map (λ c. c.2) unrelated) × (map (λ c. said (file_verdict c.1)) unrelated ≡ map (λ c. c.2) unrelated)
  pub whole_met : (map (λ c. table_of c.0) whole ≡ map (λ c. c.1) whole) × (map (λ c. table_bytes c.1) whole ≡ map (λ c. c.0) whole)
