-- The generator behind trial sheets (02, T-11): an additive lagged Fibonacci generator. Numbers count from 0, are 32 bits, and sums wrap.
--     long_lag, short_lag, increment     02's 55, 24 and 2,654,435,769
--     seeded seed k    number k of the first 55: the seed, then each the one before plus the increment
--     next_of l         the number that follows 55 in a row, l: the sum of those 24 and 55 places earlier
--     lagged seed n    the 55 numbers from number n on
--     drawn seed i     the number that pixel i takes: number 55 + i, since the first 55 are not used
-- Assumes nothing.
use Rattle.std.specs.Prelude.{ℕ, zero, suc, ◌+◌, ◌-◌, ◌%◌, ◌^◌, List, [], ◌∷◌, ◌++◌, drop, slice_index}
use Rattle.seq.specs.Tab.{tab}

abbrev pub long_lag : ℕ
long_lag = 55

abbrev pub short_lag : ℕ
short_lag = 24

abbrev pub increment : ℕ
increment = 2654435769

abbrev pub seeded : ℕ → ℕ → ℕ
seeded seed zero = seed
seeded seed (suc k) = (seeded seed k + increment) % 2 ^ 32

abbrev pub next_of : List ℕ → ℕ
next_of l = (slice_index l (long_lag - short_lag) + slice_index l 0) % 2 ^ 32

abbrev pub lagged : ℕ → ℕ → List ℕ
lagged seed zero = tab (seeded seed) long_lag
lagged seed (suc n) = drop 1 (lagged seed n) ++ next_of (lagged seed n) ∷ []

unfoldable pub drawn : ℕ → ℕ → ℕ
drawn seed i = next_of (lagged seed i)
