-- Strips (02, T-08): parts of one width laid end to end, given with all pixel bytes in part order.
--     max_parts                        the most parts; max_rows, max_strip: the most rows and pixels of all together
--     heights_of p                     the parts' heights: places past the number are not looked at
--     strip_width p, strip_height p     the strip as one image
--     shape_rules p, shape_verdict p    23 (the number), 10 (the lowest part of a bad size), 23 (the lowest part of another width than the first)
--     strip_verdict p px               then 11, 12 on the pixel bytes, as the writer of an image
--     strip_read_verdict p px n, strip_read p px n, strip_area p px area     the reader on an area of n bytes, with 13: its answer, and the area afterwards
--     strip_bytes w hs px              the files of parts of the width w and the heights hs, one after another
--     strip_write_verdict p px n, strip_written p px n, strip_output p px out     the writer on n bytes of output, with 13
--     padded xs                       numbers of parts at the front of 16 places, zeros behind
--     strip_of w hs                    the record of such parts; kept p: of a strip, with zeros past its number
--     no_parts, no_counts               every number is zero
--     start_of w hs px i, file_of w hs px i     where the file of part i starts among the files, and that file
--     PartsBack w hs px               each file stands behind the earlier ones, and reads back as its part
-- Assumes nothing.
use Rattle.std.specs.Prelude.{not, List, [], ◌∷◌, ◌++◌, ◌≡◌, ℕ, suc, ◌*◌, ◌<◌, ltb, eqb, length, get_or, take, drop, replicate}
use Rattle.image.specs.declared.strip.PartCounts.{PartCounts}
use Rattle.image.specs.declared.strip.Strip.{Strip}
use Rattle.image.specs.File.{area_rule, read_as, bytes_verdict, image_bytes, ImageRead}
use Rattle.image.specs.Parts.{part_of}
use Rattle.image.specs.RoundTrip.{ReadBack}
use Rattle.image.specs.Size.{max_side, within, bad_size}
use Rattle.seq.specs.Lists.{sum_of}
use Rattle.seq.specs.Tab.{tab, first}
use Rattle.verdict.specs.Rules.{refuse_if, refuse_at, or_else, judge, Verdict}
use Rattle.verdict.specs.Writer.{written_of, output_of, Written}
use Rattle.verdict.specs.declared.Rule.TheVariants as why

abbrev pub max_parts : ℕ
max_parts = 16

abbrev pub max_rows : ℕ
max_rows = max_parts * max_side

abbrev pub max_strip : ℕ
max_strip = max_side * max_rows

abbrev pub heights_of : Strip → List ℕ
heights_of p = take p.parts p.heights

abbrev pub strip_width : Strip → ℕ
strip_width p = get_or p.widths 0 0

abbrev pub strip_height : Strip → ℕ
strip_height p = sum_of (heights_of p)

abbrev pub shape_rules : Strip → List Verdict
shape_rules p =
    refuse_if (not (within max_parts p.parts)) why.Parts 0
    ∷ refuse_at (first (λ i. bad_size (get_or p.widths i 0) (get_or p.heights i 0)) p.parts) why.SizeRange suc
    ∷ refuse_at (first (λ i. not (eqb (get_or p.widths i 0) (strip_width p))) p.parts) why.Parts suc
    ∷ []

unfoldable pub shape_verdict : Strip → Verdict
shape_verdict p = judge (shape_rules p)

unfoldable pub strip_verdict : Strip → List ℕ → Verdict
strip_verdict p px = or_else (shape_verdict p) (bytes_verdict (strip_width p) (strip_height p) px)

unfoldable pub strip_read_verdict : Strip → List ℕ → ℕ → Verdict
strip_read_verdict p px n = or_else (strip_verdict p px) (area_rule (strip_width p) (strip_height p) n)

unfoldable pub strip_read : Strip → List ℕ → ℕ → ImageRead
strip_read p px n = read_as (strip_read_verdict p px n) (strip_width p) (strip_height p)

unfoldable pub strip_area : Strip → List ℕ → List ℕ → List ℕ
strip_area p px area = output_of (strip_read_verdict p px (length area)) px area

-- the file of the first part, and behind it those of the rest
abbrev pub strip_bytes : ℕ → List ℕ → List ℕ → List ℕ
strip_bytes w [] px = []
strip_bytes w (h ∷ hs) px = image_bytes w h (take (w * h) px) ++ strip_bytes w hs (drop (w * h) px)

unfoldable pub strip_write_verdict : Strip → List ℕ → ℕ → Verdict
strip_write_verdict p px n = or_else (strip_verdict p px) (refuse_if (ltb n (length (strip_bytes (strip_width p) (heights_of p) px))) why.AreaShort 0)

unfoldable pub strip_written : Strip → List ℕ → ℕ → Written
strip_written p px n = written_of (strip_write_verdict p px n) (strip_bytes (strip_width p) (heights_of p) px)

unfoldable pub strip_output : Strip → List ℕ → List ℕ → List ℕ
strip_output p px out = output_of (strip_write_verdict p px (length out)) (strip_bytes (strip_width p) (heights_of p) px) out

-- zeros past the parts
abbrev pub padded : List ℕ → List ℕ
padded xs = tab (λ i. get_or xs i 0) max_parts

unfoldable pub strip_of : ℕ → List ℕ → Strip
strip_of w hs = record { parts = length hs; widths = padded (replicate (length hs) w); heights = padded hs }

unfoldable pub kept : Strip → Strip
kept p = record { parts = p.parts; widths = padded (take p.parts p.widths); heights = padded (heights_of p) }

abbrev pub no_parts : Strip
no_parts = record { parts = 0; widths = replicate max_parts 0; heights = replicate max_parts 0 }

abbrev pub no_counts : PartCounts
no_counts = record { added = replicate max_parts 0; removed = replicate max_parts 0 }

abbrev pub start_of : ℕ → List ℕ → List ℕ → ℕ → ℕ
start_of w hs px i = length (strip_bytes w (take i hs) px)

abbrev pub file_of : ℕ → List ℕ → List ℕ → ℕ → List ℕ
file_of w hs px i = image_bytes w (get_or hs i 0) (part_of w hs i px)

pub record PartsBack (w : ℕ) (hs px : List ℕ) : Type 0 where
  pub file : (i : ℕ) → i < length hs → take (length (file_of w hs px i)) (drop (start_of w hs px i) (strip_bytes w hs px)) ≡ file_of w hs px i
  pub back : (i : ℕ) → i < length hs → ReadBack w (get_or hs i 0) (part_of w hs i px)
