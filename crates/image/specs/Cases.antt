-- Small cases that fix the order of the rules, and what each looks at; the unused bits of 02, T-02; and the strips of 02, T-08.
--     files      a file, the length of the area, and the reader's verdict
--     pixels     width, height, pixel bytes, the length of the output, and the writer's verdict
--     returns    an accepted file, whether its unused bits are zero, its pixels, and the file that is written of them
--     strips     a strip, its pixel bytes, and the verdict on them
--     copied, written     a strip with white pixels, the length of the area or of the output, and the verdict of its reader, of its writer
--     Cases      the definitions give what is expected
-- Assumes nothing.
use Rattle.std.specs.Prelude.{Bool, true, false, List, [], ◌∷◌, ◌++◌, map, ◌≡◌, ℕ, ◌-◌, length, replicate}
use Rattle.image.specs.declared.strip.Strip.{Strip}
use Rattle.image.specs.File.{image_of, image_verdict, image_bytes, write_verdict}
use Rattle.image.specs.Header.{magic, width_of, height_of, header}
use Rattle.image.specs.Padding.{unused_zero, cleared}
use Rattle.image.specs.Strip.{max_parts, strip_verdict, strip_read_verdict, strip_write_verdict, strip_bytes, strip_of, kept}
use Rattle.verdict.specs.Answers.{accepted, refused, Said, said}

abbrev pub files : List (List ℕ × ℕ × Said)
files =
    -- one pixel: an area of one byte is long enough, an empty one is too short
    (header 1 1 ++ 0x80 ∷ [], 1, accepted)
    ∷ (header 1 1 ++ 0x80 ∷ [], 0, refused 13 0)
    -- a header that is none (a width of `00`) speaks before a size out of range, and that before a raster's length
    ∷ (magic ++ 0x30 ∷ 0x30 ∷ 0x20 ∷ 0x31 ∷ 0x0A ∷ 0x00 ∷ [], 0, refused 9 0)
    ∷ (header 0 1 ++ 0x00 ∷ [], 0, refused 10 0)
    ∷ (header 257 1 ++ replicate 33 0xFF, 257, refused 10 0)
    -- a raster's length speaks before an area too short; unused bits do not speak
    ∷ (header 1 1 ++ 0xFF ∷ 0xFF ∷ [], 0, refused 11 0)
    ∷ (header 5 5 ++ 0x07 ∷ 0x07 ∷ 0x27 ∷ 0x07 ∷ [], 25, refused 11 0)
    ∷ (header 1 2 ++ 0x80 ∷ 0xC0 ∷ [], 0, refused 13 0)
    ∷ []

-- 25 pixels, black only in the middle
abbrev dot : List ℕ
dot = replicate 12 0 ++ 1 ∷ replicate 12 0

abbrev pub returns : List (List ℕ × Bool × List ℕ × List ℕ)
returns =
    -- three unused bits in each row: all 0, one of them 1, all 1
    (header 5 5 ++ 0x00 ∷ 0x00 ∷ 0x20 ∷ 0x00 ∷ 0x00 ∷ [], true, dot, header 5 5 ++ 0x00 ∷ 0x00 ∷ 0x20 ∷ 0x00 ∷ 0x00 ∷ [])
    ∷ (header 5 5 ++ 0x00 ∷ 0x00 ∷ 0x21 ∷ 0x00 ∷ 0x00 ∷ [], false, dot, header 5 5 ++ 0x00 ∷ 0x00 ∷ 0x20 ∷ 0x00 ∷ 0x00 ∷ [])
    ∷ (header 5 5 ++ 0x07 ∷ 0x07 ∷ 0x27 ∷ 0x07 ∷ 0x07 ∷ [], false, dot, header 5 5 ++ 0x00 ∷ 0x00 ∷ 0x20 ∷ 0x00 ∷ 0x00 ∷ [])
    -- none; seven, in a row's second byte; seven in each of two rows
    ∷ (header 8 1 ++ 0xFF ∷ [], true, replicate 8 1, header 8 1 ++ 0xFF ∷ [])
    ∷ (header 9 1 ++ 0xFF ∷ 0xFF ∷ [], false, replicate 9 1, header 9 1 ++ 0xFF ∷ 0x80 ∷ [])
    ∷ (header 1 2 ++ 0xFF ∷ 0x7F ∷ [], false, 1 ∷ 0 ∷ [], header 1 2 ++ 0x80 ∷ 0x00 ∷ [])
    ∷ []

abbrev pub pixels : List (ℕ × ℕ × List ℕ × ℕ × Said)
pixels =
    -- one pixel has a file of eight bytes
    (1, 1, 1 ∷ [], 8, accepted)
    ∷ (1, 1, 1 ∷ [], 7, refused 13 0)
    -- a size speaks before the count of pixel bytes, that before a byte above 1, and that, by its row, before an output too short
    ∷ (0, 1, 2 ∷ [], 0, refused 10 0)
    ∷ (1, 1, 2 ∷ 2 ∷ [], 0, refused 11 0)
    ∷ (2, 2, 0 ∷ 1 ∷ 1 ∷ 2 ∷ [], 0, refused 12 1)
    ∷ (5, 5, 0 ∷ 0 ∷ 2 ∷ replicate 22 0, 12, refused 12 0)
    ∷ []

-- so many parts of these widths and heights; what stands past them is no size
abbrev parts : ℕ → List ℕ → List ℕ → Strip
parts n ws hs = record { parts = n; widths = ws ++ replicate (max_parts - length ws) 999; heights = hs ++ replicate (max_parts - length hs) 999 }

-- two parts, 5 × 3 and 5 × 2
abbrev two : Strip
two = parts 2 (5 ∷ 5 ∷ []) (3 ∷ 2 ∷ [])

abbrev white : List ℕ
white = replicate 25 0

abbrev pub strips : List (Strip × List ℕ × Said)
strips =
    -- places past the number are not looked at
    (two, white, accepted)
    ∷ (parts 1 (5 ∷ []) (5 ∷ []), dot, accepted)
    -- the number is 1 to 16
    ∷ (parts 0 [] [], white, refused 23 0)
    ∷ (parts 16 (replicate 16 1) (replicate 16 1), replicate 16 1, accepted)
    ∷ (parts 17 (replicate 16 1) (replicate 16 1), replicate 16 1, refused 23 0)
    -- sizes at the lowest part from 1, of all parts before the widths
    ∷ (parts 3 (5 ∷ 0 ∷ 5 ∷ []) (1 ∷ 2 ∷ 300 ∷ []), white, refused 10 2)
    ∷ (parts 3 (5 ∷ 4 ∷ 5 ∷ []) (1 ∷ 2 ∷ 257 ∷ []), white, refused 10 3)
    ∷ (parts 1 (257 ∷ []) (1 ∷ []), white, refused 10 1)
    -- then a width that is not the first's, before the count of pixel bytes
    ∷ (parts 3 (5 ∷ 4 ∷ 6 ∷ []) (1 ∷ 2 ∷ 2 ∷ []), white, refused 23 2)
    ∷ (parts 2 (5 ∷ 4 ∷ []) (3 ∷ 2 ∷ []), replicate 24 2, refused 23 2)
    -- that before a byte above 1, at its row of the strip
    ∷ (two, replicate 24 2, refused 11 0)
    ∷ (two, replicate 20 0 ++ 2 ∷ replicate 4 0, refused 12 4)
    ∷ []

abbrev pub copied : List (Strip × ℕ × Said)
copied = (two, 25, accepted) ∷ (two, 24, refused 13 0) ∷ []

abbrev pub written : List (Strip × ℕ × Said)
written = (two, 19, accepted) ∷ (two, 18, refused 13 0) ∷ []

pub record Cases : Type 0 where
  pub files_met : map (λ c. said (image_verdict c.0 c.1)) files ≡ map (λ c. c.2) files
  pub returns_accepted : map (λ c. said (image_verdict c.0 (length c.2))) returns ≡ map (λ c. accepted) returns
  pub returns_zero : map (λ c. unused_zero c.0) returns ≡ map (λ c. c.1) returns
  pub returns_read : map (λ c. image_of c.0) returns ≡ map (λ c. c.2) returns
  pub returns_written : map (λ c. image_bytes (width_of c.0) (height_of c.0) c.2) returns ≡ map (λ c. c.3) returns
  pub returns_cleared : map (λ c. cleared c.0) returns ≡ map (λ c. c.3) returns
  pub pixels_met : map (λ c. said (write_verdict c.0 c.1 c.2 c.3)) pixels ≡ map (λ c. c.4) pixels
  pub strips_met : map (λ c. said (strip_verdict c.0 c.1)) strips ≡ map (λ c. c.2) strips
  pub copied_met : map (λ c. said (strip_read_verdict c.0 white c.1)) copied ≡ map (λ c. c.2) copied
  pub written_met : map (λ c. said (strip_write_verdict c.0 white c.1)) written ≡ map (λ c. c.2) written
  -- the files of the two parts, one after the other
  pub two_files : strip_bytes 5 (3 ∷ 2 ∷ []) white
      ≡ 0x50 ∷ 0x34 ∷ 0x0A ∷ 0x35 ∷ 0x20 ∷ 0x33 ∷ 0x0A ∷ 0x00 ∷ 0x00 ∷ 0x00 ∷ 0x50 ∷ 0x34 ∷ 0x0A ∷ 0x35 ∷ 0x20 ∷ 0x32 ∷ 0x0A ∷ 0x00 ∷ 0x00 ∷ []
  -- what is kept of a strip has zeros past its number
  pub two_kept : kept two ≡ strip_of 5 (3 ∷ 2 ∷ [])
