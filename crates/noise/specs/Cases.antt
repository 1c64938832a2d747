-- Small cases of trial sheets (02, T-11), and the order of their refusals.
--     numbers     a seed, a number's place, and the number
--     sheets      a seed, a width, a height, and the rows
--     areas       a width, a height, the length of an area, and the verdict
--     Cases       the definitions give what is expected
-- Assumes nothing.
use Rattle.std.specs.Prelude.{◌≡◌, ℕ, List, [], ◌∷◌, map, replicate}
use Rattle.noise.specs.Noise.{noise, noise_verdict, noise_area}
use Rattle.noise.specs.Sequence.{number}
use Rattle.seq.specs.Lists.{join}
use Rattle.verdict.specs.Answers.{accepted, refused, Said, said}

abbrev pub numbers : List (ℕ × ℕ × ℕ)
numbers =
    (0, 0, 0)
    ∷ (0, 1, 2654435769)
    ∷ (0, 54, 1605610758)
    ∷ (0, 55, 683130215)
    ∷ (0, 56, 1697034457)
    ∷ (0, 57, 2710938699)
    ∷ (2147483648, 1, 506952121)
    ∷ (2147483648, 54, 3753094406)
    ∷ (123456789, 55, 930043793)
    -- number 79 is the first that takes a drawn number
    ∷ (2147483648, 79, 2112562879)
    ∷ (123456789, 79, 335449598)
    ∷ []

abbrev pub sheets : List (ℕ × ℕ × ℕ × List (List ℕ))
sheets =
    (2147483648, 5, 5, (0 ∷ 0 ∷ 1 ∷ 1 ∷ 0 ∷ []) ∷ (0 ∷ 1 ∷ 1 ∷ 0 ∷ 0 ∷ []) ∷ (1 ∷ 1 ∷ 1 ∷ 0 ∷ 0 ∷ []) ∷ (1 ∷ 1 ∷ 0 ∷ 0 ∷ 1 ∷ []) ∷ (1 ∷ 0 ∷ 0 ∷ 1 ∷ 0 ∷ []) ∷ [])
    ∷ (123456789, 8, 3, (0 ∷ 0 ∷ 1 ∷ 1 ∷ 0 ∷ 0 ∷ 1 ∷ 1 ∷ []) ∷ (0 ∷ 0 ∷ 1 ∷ 1 ∷ 0 ∷ 0 ∷ 1 ∷ 1 ∷ []) ∷ (1 ∷ 0 ∷ 0 ∷ 1 ∷ 1 ∷ 0 ∷ 0 ∷ 1 ∷ []) ∷ [])
    ∷ []

abbrev pub areas : List (ℕ × ℕ × ℕ × Said)
areas =
    -- sizes, before the area
    (0, 1, 1, refused 10 0)
    ∷ (1, 0, 1, refused 10 0)
    ∷ (0, 0, 0, refused 10 0)
    ∷ (257, 1, 257, refused 10 0)
    ∷ (256, 257, 65792, refused 10 0)
    ∷ (257, 257, 0, refused 10 0)
    -- the area
    ∷ (1, 1, 0, refused 13 0)
    ∷ (4, 4, 15, refused 13 0)
    ∷ (4, 4, 16, accepted)
    ∷ (256, 256, 65535, refused 13 0)
    ∷ (256, 256, 65536, accepted)
    ∷ []

pub record Cases : Type 0 where
  pub numbers_met : map (λ c. number c.0 c.1) numbers ≡ map (λ c. c.2) numbers
  pub sheets_met : map (λ c. noise c.0 c.1 c.2) sheets ≡ map (λ c. join c.3) sheets
  pub areas_met : map (λ c. said (noise_verdict c.0 c.1 c.2)) areas ≡ map (λ c. c.3) areas
  -- a byte past the sheet stays, and a refused area
  pub past_met : noise_area 2147483648 2 2 (replicate 5 9) ≡ 0 ∷ 0 ∷ 1 ∷ 1 ∷ 9 ∷ []
  pub short_met : noise_area 2147483648 2 2 (replicate 3 9) ≡ replicate 3 9
