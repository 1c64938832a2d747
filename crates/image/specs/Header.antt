-- The header of an image file: `P4`, line feed, width, one space, height, line feed (01, The sheet).
--     magic, space, line_feed, digit0     `P4` and line feed; the bytes of a space, a line feed and the digit 0
--     is_digit b           a byte is a decimal digit
--     digits bytes        how many decimal digits the bytes start with
--     decimal_value ds     the number that digits make; decimal_from n ds: after digits that make n
--     strict bytes        the bytes start with one to three digits, and with 0 only where it is the one digit
--     width_part f, height_part f, raster f    what follows `P4` and line feed; the width and one byte; the height and one byte
--     starts_magic f       the file starts with `P4` and line feed
--     after bytes         the byte that ends a number
--     header_form f        the file has the strict form
--     width_of f, height_of f    its width and height
--     digit_at u n         the digit of n at the place of the unit u
--     decimal n           the digits of n, for n below 1000
--     header w h          the header of a width and a height
-- Assumes nothing.
use Rattle.std.specs.Prelude.{Bool, cond, not, ◌&&◌, ◌||◌, List, [], ◌∷◌, ◌++◌, ℕ, suc, ◌+◌, ◌-◌, ◌*◌, ◌/◌, ◌%◌, leb, ltb, eqb, get_or, take, drop}

abbrev pub magic : List ℕ
magic = 0x50 ∷ 0x34 ∷ 0x0A ∷ []

abbrev pub space : ℕ
space = 0x20

abbrev pub line_feed : ℕ
line_feed = 0x0A

abbrev pub digit0 : ℕ
digit0 = 0x30

unfoldable pub is_digit : ℕ → Bool
is_digit b = leb digit0 b && ltb b (digit0 + 10)

abbrev pub digits : List ℕ → ℕ
digits [] = 0
digits (b ∷ bs) = cond (is_digit b) (suc (digits bs)) 0

abbrev pub decimal_from : ℕ → List ℕ → ℕ
decimal_from n [] = n
decimal_from n (d ∷ ds) = decimal_from (10 * n + (d - digit0)) ds

unfoldable pub decimal_value : List ℕ → ℕ
decimal_value ds = decimal_from 0 ds

unfoldable pub strict : List ℕ → Bool
strict bytes = (leb 1 (digits bytes) && leb (digits bytes) 3) && (eqb (digits bytes) 1 || not (eqb (get_or bytes 0 0) digit0))

unfoldable pub width_part : List ℕ → List ℕ
width_part f = drop 3 f

unfoldable pub height_part : List ℕ → List ℕ
height_part f = drop (digits (width_part f) + 1) (width_part f)

unfoldable pub raster : List ℕ → List ℕ
raster f = drop (digits (height_part f) + 1) (height_part f)

unfoldable pub starts_magic : List ℕ → Bool
starts_magic f = eqb (get_or f 0 0) 0x50 && (eqb (get_or f 1 0) 0x34 && eqb (get_or f 2 0) 0x0A)

abbrev pub after : List ℕ → ℕ
after bytes = get_or bytes (digits bytes) 0

unfoldable pub header_form : List ℕ → Bool
header_form f =
    starts_magic f
    && ((strict (width_part f) && eqb (after (width_part f)) space)
    && (strict (height_part f) && eqb (after (height_part f)) line_feed))

unfoldable pub width_of : List ℕ → ℕ
width_of f = decimal_value (take (digits (width_part f)) (width_part f))

unfoldable pub height_of : List ℕ → ℕ
height_of f = decimal_value (take (digits (height_part f)) (height_part f))

abbrev pub digit_at : ℕ → ℕ → ℕ
digit_at u n = digit0 + n / u % 10

unfoldable pub decimal : ℕ → List ℕ
decimal n =
    cond (ltb n 10) (digit_at 1 n ∷ [])
    (cond (ltb n 100) (digit_at 10 n ∷ digit_at 1 n ∷ [])
    (digit_at 100 n ∷ digit_at 10 n ∷ digit_at 1 n ∷ []))

unfoldable pub header : ℕ → ℕ → List ℕ
header w h = magic ++ decimal w ++ space ∷ decimal h ++ line_feed ∷ []
