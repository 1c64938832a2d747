-- Image files (01: the reader 9, 10, 11, then 13; the writer 10, 11, 12, then 13). What unused bits are: Padding.
--     raster_pixel w r row col    the pixel at a row and a column of the raster r: the leftmost is the highest bit
--     pixels_of w h r        the pixels of the raster r, in row order
--     image_of f             the pixels of an accepted file
--     file_rules f, file_verdict f             the rules of a file in their order; accepted, or number and place
--     area_rule w h n        13: an area of n bytes is too short for the image
--     image_verdict f n, image_read f n, image_area f area    the reader on an area of n bytes: its answer, and the area afterwards
--     ImageRead              the size of the image read, or the refusal; read_as v w h: by the reader's verdict
--     bytes_rules w h px, bytes_verdict w h px     the rules on the bytes of so many pixels: 11, 12; their verdict
--     pixel_rules w h px, pixel_verdict w h px     the rules on an image's pixel bytes: 10, 11, 12; their verdict
--     in_row w px row col    the pixel at a row and a column, 0 past the row's end
--     packed v              eight values as the bits of a byte, the first the highest
--     row_byte w px row j    byte j of a row of the file
--     image_bytes w h px     the file of an image
--     write_verdict w h px n, image_written w h px n, image_output w h px out     the writer on n bytes of output
-- Assumes nothing.
use Rattle.std.specs.Prelude.{not, cond, List, [], ◌∷◌, ◌++◌, ℕ, ◌+◌, ◌-◌, ◌*◌, ◌/◌, ◌%◌, ◌^◌, ltb, eqb, length, get_or, Result}
use Rattle.image.specs.declared.size.Size.{Size}
use Rattle.image.specs.Header.{raster, header_form, width_of, height_of, header}
use Rattle.image.specs.Size.{bad_size, row_bytes, extent}
use Rattle.seq.specs.Tab.{tab, first}
use Rattle.verdict.specs.Rules.{refuse_if, refuse_at, or_else, judge, Verdict, result_of, Refusal}
use Rattle.verdict.specs.Writer.{written_of, output_of, Written}
use Rattle.verdict.specs.declared.Rule.TheVariants as why

unfoldable pub raster_pixel : ℕ → List ℕ → ℕ → ℕ → ℕ
raster_pixel w r row col = get_or r (row * row_bytes w + col / 8) 0 / 2 ^ (7 - col % 8) % 2

unfoldable pub pixels_of : ℕ → ℕ → List ℕ → List ℕ
pixels_of w h r = tab (λ i. raster_pixel w r (i / w) (i % w)) (w * h)

unfoldable pub image_of : List ℕ → List ℕ
image_of f = pixels_of (width_of f) (height_of f) (raster f)

abbrev pub file_rules : List ℕ → List Verdict
file_rules f =
    refuse_if (not (header_form f)) why.HeaderForm 0
    ∷ refuse_if (bad_size (width_of f) (height_of f)) why.SizeRange 0
    ∷ refuse_if (not (eqb (length (raster f)) (row_bytes (width_of f) * height_of f))) why.RasterLength 0
    ∷ []

unfoldable pub file_verdict : List ℕ → Verdict
file_verdict f = judge (file_rules f)

abbrev pub area_rule : ℕ → ℕ → ℕ → Verdict
area_rule w h n = refuse_if (ltb n (w * h)) why.AreaShort 0

unfoldable pub image_verdict : List ℕ → ℕ → Verdict
image_verdict f n = or_else (file_verdict f) (area_rule (width_of f) (height_of f) n)

abbrev pub ImageRead : Type 0
ImageRead = Result Size Refusal

abbrev pub read_as : Verdict → ℕ → ℕ → ImageRead
read_as v w h = result_of v (extent w h)

unfoldable pub image_read : List ℕ → ℕ → ImageRead
image_read f n = read_as (image_verdict f n) (width_of f) (height_of f)

unfoldable pub image_area : List ℕ → List ℕ → List ℕ
image_area f area = output_of (image_verdict f (length area)) (pixels_of (width_of f) (height_of f) (raster f)) area

abbrev pub bytes_rules : ℕ → ℕ → List ℕ → List Verdict
bytes_rules w h px =
    refuse_if (not (eqb (length px) (w * h))) why.RasterLength 0
    ∷ refuse_at (first (λ i. ltb 1 (get_or px i 0)) (w * h)) why.PixelValue (λ i. i / w)
    ∷ []

unfoldable pub bytes_verdict : ℕ → ℕ → List ℕ → Verdict
bytes_verdict w h px = judge (bytes_rules w h px)

abbrev pub pixel_rules : ℕ → ℕ → List ℕ → List Verdict
pixel_rules w h px = refuse_if (bad_size w h) why.SizeRange 0 ∷ bytes_rules w h px

unfoldable pub pixel_verdict : ℕ → ℕ → List ℕ → Verdict
pixel_verdict w h px = judge (pixel_rules w h px)

abbrev pub in_row : ℕ → List ℕ → ℕ → ℕ → ℕ
in_row w px row col = cond (ltb col w) (get_or px (row * w + col) 0) 0

abbrev pub packed : (ℕ → ℕ) → ℕ
packed v = 128 * v 0 + (64 * v 1 + (32 * v 2 + (16 * v 3 + (8 * v 4 + (4 * v 5 + (2 * v 6 + v 7))))))

unfoldable pub row_byte : ℕ → List ℕ → ℕ → ℕ → ℕ
row_byte w px row j = packed (λ k. in_row w px row (8 * j + k))

unfoldable pub image_bytes : ℕ → ℕ → List ℕ → List ℕ
image_bytes w h px = header w h ++ tab (λ i. row_byte w px (i / row_bytes w) (i % row_bytes w)) (row_bytes w * h)

unfoldable pub write_verdict : ℕ → ℕ → List ℕ → ℕ → Verdict
write_verdict w h px n = or_else (pixel_verdict w h px) (refuse_if (ltb n (length (image_bytes w h px))) why.AreaShort 0)

unfoldable pub image_written : ℕ → ℕ → List ℕ → ℕ → Written
image_written w h px n = written_of (write_verdict w h px n) (image_bytes w h px)

unfoldable pub image_output : ℕ → ℕ → List ℕ → List ℕ → List ℕ
image_output w h px out = output_of (write_verdict w h px (length out)) (image_bytes w h px) out
