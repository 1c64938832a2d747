-- The majority of three images, and what it rests as (02, T-12: the pool and its rested sheet).
--     Majority w h         it is an image, black where at least two of the three are; colours exchanged in all three come out exchanged, and black
--                          added to any of them takes none away
--     AllMajority          for every size
--     MajorityRest t w h   the same two of what it rests as
--     AllMajorityRest      for every accepted table and size
-- Assumes nothing.
use Rattle.std.specs.Prelude.{List, ◌↔◌, ◌≡◌, ℕ, ◌+◌, ◌*◌, ◌≤◌, ◌<◌, get_or, Ok}
use Rattle.image.specs.Majority.{majority_of}
use Rattle.operator.specs.Image.{IsImage, exchange, Below}
use Rattle.operator.specs.Rest.{rested}
use Rattle.table.specs.declared.Table.{Table}
use Rattle.table.specs.Record.{record_verdict}

pub record Majority (w h : ℕ) : Type 0 where
  pub black : (a b c : List ℕ) → IsImage w h a → IsImage w h b → IsImage w h c → (i : ℕ) → i < w * h
      → (get_or (majority_of a b c) i 0 ≡ 1) ↔ (2 ≤ get_or a i 0 + get_or b i 0 + get_or c i 0)
  pub image : (a b c : List ℕ) → IsImage w h a → IsImage w h b → IsImage w h c → IsImage w h (majority_of a b c)
  pub exchanged : (a b c : List ℕ) → IsImage w h a → IsImage w h b → IsImage w h c
      → majority_of (exchange a) (exchange b) (exchange c) ≡ exchange (majority_of a b c)
  -- any of the three may have more black, one, two or all
  pub ordered : (a b c a' b' c' : List ℕ) → IsImage w h a → IsImage w h b → IsImage w h c → IsImage w h a' → IsImage w h b' → IsImage w h c'
      → Below a a' → Below b b' → Below c c' → Below (majority_of a b c) (majority_of a' b' c')

abbrev pub AllMajority : Type 0
AllMajority = (w h : ℕ) → Majority w h

pub record MajorityRest (t : Table) (w h : ℕ) : Type 0 where
  pub exchanged : (a b c : List ℕ) → IsImage w h a → IsImage w h b → IsImage w h c
      → rested t w h (majority_of (exchange a) (exchange b) (exchange c)) ≡ exchange (rested t w h (majority_of a b c))
  pub ordered : (a b c a' b' c' : List ℕ) → IsImage w h a → IsImage w h b → IsImage w h c → IsImage w h a' → IsImage w h b' → IsImage w h c'
      → Below a a' → Below b b' → Below c c' → Below (rested t w h (majority_of a b c)) (rested t w h (majority_of a' b' c'))

abbrev pub AllMajorityRest : Type 0
AllMajorityRest = (t : Table) (w h : ℕ) → record_verdict t ≡ Ok tt → MajorityRest t w h
