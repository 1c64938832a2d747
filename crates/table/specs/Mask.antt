-- Masks of the 25 positions of a 5 × 5 window (01, The table).
--     position_count       the positions are the numbers below it
--     largest_mask         the mask of all positions
--     across n, down n    dx + 2 and dy + 2 of position n
--     centre              the position of the offset (0, 0)
--     positions m         the positions of the mask m, rising
--     valid_mask m         1 to the largest mask
--     meets e f           the masks share a position
--     sum_inside b a       the offset sum b + a lies in the window; sum b a: its position
--     partner K e b       some offset a of e has b + a in K
--     unpartnered K e     the lowest position of K that has no partner in e
--     persistent_for K e   K is persistent for the element e (000, Proposition 6.8)
-- Assumes nothing.
use Rattle.std.specs.Prelude.{Bool, not, ◌&&◌, List, ℕ, ◌+◌, ◌-◌, ◌*◌, ◌/◌, ◌%◌, leb, Option, is_some}
use Rattle.seq.specs.Bits.{bit, bits_of}
use Rattle.seq.specs.Lists.{any}
use Rattle.seq.specs.Tab.{first}

abbrev pub position_count : ℕ
position_count = 25

abbrev pub largest_mask : ℕ
largest_mask = 33554431

abbrev pub across : ℕ → ℕ
across n = n % 5

abbrev pub down : ℕ → ℕ
down n = n / 5

abbrev pub centre : ℕ
centre = 12

unfoldable pub positions : ℕ → List ℕ
positions m = bits_of position_count m

unfoldable pub valid_mask : ℕ → Bool
valid_mask m = leb 1 m && leb m largest_mask

unfoldable pub meets : ℕ → ℕ → Bool
meets e f = any (bit f) (positions e)

unfoldable pub sum_inside : ℕ → ℕ → Bool
sum_inside b a = (leb 2 (across b + across a) && leb (across b + across a) 6) && (leb 2 (down b + down a) && leb (down b + down a) 6)

unfoldable pub sum : ℕ → ℕ → ℕ
sum b a = 5 * (down b + down a - 2) + (across b + across a - 2)

unfoldable pub partner : ℕ → ℕ → ℕ → Bool
partner K e b = any (λ a. sum_inside b a && bit K (sum b a)) (positions e)

unfoldable pub unpartnered : ℕ → ℕ → Option ℕ
unpartnered K e = first (λ b. bit K b && not (partner K e b)) position_count

unfoldable pub persistent_for : ℕ → ℕ → Bool
persistent_for K e = not (is_some (unpartnered K e))
