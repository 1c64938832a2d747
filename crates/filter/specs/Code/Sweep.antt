-- Erosion and dilation of lists of bytes by lists of shifts (the module `sweep`). Bits below 8 count.
--     Fours at                      shifts in fours, none above the farthest
--     Padded d l n m                l is d with the last of its first n numbers again, up to the index m, a multiple of four
--     Reach l at n                  n bytes of l stand behind each of the four places at
--     woven4 f l at to o j          what f makes of byte j of o and of the bytes j − to behind the four places of l
--     all_of, met, joined o a b c d     the last four by `and`; all five by `and`; all five by `or`
--     Eroded at start n l e         byte j < n of e has bit s where the bytes start + j + a of l have it for every shift a
--     Dilated at n e d f            byte j of f, 4 ≤ j < 4 + n, has bit s where d has it there, or byte j + 320 − a of e for some shift a
-- Assumes nothing.
use Rattle.std.specs.Prelude.{◌||◌, ◌≡◌, ℕ, ◌+◌, ◌-◌, ◌*◌, ◌%◌, ◌≤◌, ◌<◌, length, get_or}
use mathlib.Core.List.{List, Memᴰ}
use Rattle.std.specs.Int.Bits.{bit_and, bit_or}
use Rattle.filter.specs.Code.Opening.{farthest}
use Rattle.seq.specs.Bits.{bit}
use Rattle.seq.specs.Lists.{any, all}
use Rattle.seq.specs.Loops.{Swept}

pub record Fours (at : List ℕ) : Type 0 where
  pub fours : length at % 4 ≡ 0
  pub near : (a : ℕ) → Memᴰ a at → a ≤ farthest

-- of no number there is no last one: m is 0 where n is
pub record Padded (d l : List ℕ) (n m : ℕ) : Type 0 where
  pub fours : m % 4 ≡ 0
  pub more : n ≤ m
  pub room : m ≤ 28
  pub none : m ≤ 28 * n
  pub again : Swept (λ j. get_or d (n - 1) 0) d l n m

pub record Reach (l at : List ℕ) (n : ℕ) : Type 0 where
  pub room : (i : ℕ) → i < 4 → get_or at i 0 + n ≤ length l

abbrev pub woven4 : (ℕ → ℕ → ℕ → ℕ → ℕ → ℕ) → List ℕ → List ℕ → ℕ → List ℕ → ℕ → ℕ
woven4 f l at to o j =
    f (get_or o j 0) (get_or l (get_or at 0 0 + (j - to)) 0) (get_or l (get_or at 1 0 + (j - to)) 0) (get_or l (get_or at 2 0 + (j - to)) 0) (get_or l (get_or at 3 0 + (j - to)) 0)

abbrev pub all_of : ℕ → ℕ → ℕ → ℕ → ℕ → ℕ
all_of o a b c d = bit_and (bit_and a b) (bit_and c d)

abbrev pub met : ℕ → ℕ → ℕ → ℕ → ℕ → ℕ
met o a b c d = bit_and (bit_and o (bit_and a b)) (bit_and c d)

abbrev pub joined : ℕ → ℕ → ℕ → ℕ → ℕ → ℕ
joined o a b c d = bit_or (bit_or o (bit_or a b)) (bit_or c d)

pub record Eroded (at : List ℕ) (start n : ℕ) (l e : List ℕ) : Type 0 where
  pub coded : (j s : ℕ) → j < n → s < 8 → bit (get_or e j 0) s ≡ all (λ a. bit (get_or l (start + j + a) 0) s) at

pub record Dilated (at : List ℕ) (n : ℕ) (e d f : List ℕ) : Type 0 where
  pub long : length f ≡ length d
  pub coded : (j s : ℕ) → 4 ≤ j → j < 4 + n → s < 8 → bit (get_or f j 0) s ≡ (bit (get_or d j 0) s || any (λ a. bit (get_or e (j + 320 - a) 0) s) at)
