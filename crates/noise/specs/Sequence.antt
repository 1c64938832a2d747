-- The numbers by their places, as 02 says them (T-11): what ties the 55 in a row of Generator to its sentences.
--     number seed k      number k, from 0
--     Sequence seed s    s 0, s 1, .. are numbers as 02 says of this seed
--     Numbers seed       there is one such sequence and no other; its numbers are 32 bits, and the image is made of it
-- Assumes nothing.
use Rattle.std.specs.Prelude.{◌≡◌, ℕ, suc, ◌+◌, ◌-◌, ◌*◌, ◌%◌, ◌^◌, ◌<◌, ◌≤◌, false, cond, nat_lt, Ok}
use Rattle.image.specs.File.{pixel_verdict}
use Rattle.image.specs.Size.{bad_size}
use Rattle.noise.specs.Generator.{long_lag, short_lag, increment, seeded, drawn}
use Rattle.noise.specs.Noise.{blackness, noise}
use Rattle.seq.specs.Tab.{tab}

abbrev pub number : ℕ → ℕ → ℕ
number seed k = cond (nat_lt k long_lag) (seeded seed k) (drawn seed (k - long_lag))

pub record Sequence (seed : ℕ) (s : ℕ → ℕ) : Type 0 where
  pub starts : s 0 ≡ seed
  pub seeding : (k : ℕ) → suc k < long_lag → s (suc k) ≡ (s k + increment) % 2 ^ 32
  pub lagging : (k : ℕ) → long_lag ≤ k → s k ≡ (s (k - short_lag) + s (k - long_lag)) % 2 ^ 32

pub record Numbers (seed : ℕ) : Type 0 where
  pub sequence : Sequence seed (number seed)
  pub only : (s : ℕ → ℕ) → Sequence seed s → (k : ℕ) → s k ≡ number seed k
  pub bits : seed < 2 ^ 32 → (k : ℕ) → number seed k < 2 ^ 32
  -- the first 55 numbers are not used: pixel i takes the next
  pub pixels : (s : ℕ → ℕ) → Sequence seed s → (w h : ℕ) → noise seed w h ≡ tab (λ i. blackness (s (long_lag + i))) (w * h)
  pub writable : (w h : ℕ) → bad_size w h ≡ false → pixel_verdict w h (noise seed w h) ≡ Ok tt
