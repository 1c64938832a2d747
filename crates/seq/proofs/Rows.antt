-- A loop that fills a grid of h rows of w cells at the front of d, row by row.
--     Rowed w h g d l r      where it stands after r rows: l has them at its front and is d behind them
--     rowed_none, rowed_more, rowed_length, rowed_room, rowed_all     its start, one row, the length, room for a row, its end
-- Assumes nothing.
use mathlib.Core.List.{List, ◌++◌}
use mathlib.Core.Path.{◌≡◌, ap, ◌∙◌}
use Prim.Native.Nat.{ℕ, ◌+◌, ◌*◌, ◌≤◌, ◌<◌, zero-le}
use native.Mathlib.Nat.{zero-mul, mul_comm}
use native.Mathlib.Omega.{arith}
use lib.ListN.{length, drop}
use lib.Seq.{sets}
use Rattle.seq.specs.Tab.{tab, Filled}
use Rattle.seq.proofs.Grid.{grid, next_row, row_below, fill_row}
use Rattle.seq.proofs.Tab.{fill_none, fill_length}

pub record Rowed {ℓ} {A : Type ℓ} (w h : ℕ) (g : ℕ → ℕ → A) (d l : List A) (r : ℕ) : Type ℓ where
  pub within : r ≤ h
  pub room : w * h ≤ length d
  pub filled : Filled (grid w g) d l (r * w)

module _ {ℓ} {A : Type ℓ} {w h : ℕ} {g : ℕ → ℕ → A} {d : List A} where
  pub rowed_none : w * h ≤ length d → Rowed w h g d d 0
  rowed_none e = record { within = zero-le; room = e; filled = rw (zero-mul w) (fill_none (grid w g) d) }

  pub rowed_more : {l m : List A} {r : ℕ} → Rowed w h g d l r → r < h → m ≡ sets l (r * w) (tab (g r) w) → Rowed w h g d m (r + 1)
  rowed_more {l} {m} {r} s b e =
      record { within = omega arith; room = s.room; filled = fill_row w g r s.filled (omega (arith, row_below w b, s.room)) e }

  pub rowed_length : {l : List A} {r : ℕ} → Rowed w h g d l r → length l ≡ length d
  rowed_length s = fill_length s.filled

  pub rowed_room : {l : List A} {r : ℕ} → Rowed w h g d l r → r < h → r * w + w ≤ length l
  rowed_room {l} {r} s b = omega (arith, row_below w b, next_row r w, rowed_length s, s.room)

  pub rowed_all : {l : List A} {r : ℕ} → Rowed w h g d l r → h ≤ r → l ≡ tab (grid w g) (w * h) ++ drop (w * h) d
  rowed_all {l} {r} s b =
      let e : r ≡ h = omega (arith, s.within) in
      s.filled.filled ∙ ap (λ (k : ℕ). tab (grid w g) k ++ drop k d) (ap (λ (k : ℕ). k * w) e ∙ mul_comm h w)
