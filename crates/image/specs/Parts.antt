-- Strips and their parts (02, T-09): the rows of an image, cut from the top into parts of the heights hs.
--     rows_of w top n img    the n rows of an image of width w from row top on
--     above hs i            the rows above part i
--     part_of w hs i img     part i
-- Assumes nothing.
use Rattle.std.specs.Prelude.{List, ℕ, ◌*◌, get_or, take, drop}
use Rattle.seq.specs.Lists.{sum_of}

unfoldable pub rows_of : ℕ → ℕ → ℕ → List ℕ → List ℕ
rows_of w top n img = take (w * n) (drop (w * top) img)

abbrev pub above : List ℕ → ℕ → ℕ
above hs i = sum_of (take i hs)

abbrev pub part_of : ℕ → List ℕ → ℕ → List ℕ → List ℕ
part_of w hs i img = rows_of w (above hs i) (get_or hs i 0) img
