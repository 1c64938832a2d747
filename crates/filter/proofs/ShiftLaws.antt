-- The shifts of a mask's positions (the module `sweep`).
--     mem_get_d, mem_take                        an element of a list, and of its front, is a member
--     position_below                            a position is below their number
--     Gathered mask at n b                      the n shifts of the positions below b stand at the front of at
--     gather_none, gather_set, gather_clear     the loop over positions: at the start, after a position of the mask, after another one
--     gather_pad                                after both loops they are the mask's shifts
--     shifts_fours                              which come in fours, none above the farthest
-- Assumes nothing.
use mathlib.Core.Bool.{true, false}
use mathlib.Core.List.{List, [], ◌∷◌, map, map-append, Memᴰ}
use mathlib.Core.Logic.{⊎_elim}
use mathlib.Core.Path.{◌≡◌, refl, sym, ap, ◌∙◌}
use Prim.Native.Nat.{ℕ, zero, suc, ◌+◌, ◌-◌, ◌≤◌, ◌<◌}
use native.Mathlib.Nat.{not-suc-le-zero, le_of_suc-le-suc}
use native.Mathlib.Numerals.{add-one}
use native.Mathlib.Omega.{arith}
use lib.ListN.{length, get_or, set, take, length-set}
use lib.Seq.{get_or-take, length-take-le, take-suc-set}
use Rattle.seq.specs.Bits.{bit, bits_of}
use Rattle.seq.specs.Tab.{up_to}
use Rattle.seq.proofs.Bits.{bits_of_elim}
use Rattle.seq.proofs.Lists.{map_intro, map_elim}
use Rattle.seq.proofs.Loops.{bits_set, bits_clear}
use Rattle.seq.proofs.Members.{take_place}
use Rattle.seq.proofs.Tests.{lt_or_le}
use Rattle.table.specs.Mask.{position_count, positions}
use Rattle.filter.specs.Code.Opening.{shift, farthest, Shifts}
use Rattle.filter.specs.Code.Sweep.{Fours, Padded}

pub mem_get_d : (l : List ℕ) (i : ℕ) → i < length l → Memᴰ (get_or l i 0) l
mem_get_d [] i h = absurd (not-suc-le-zero h)
mem_get_d (x ∷ l) zero h = Memᴰ.head refl
mem_get_d (x ∷ l) (suc i) h = Memᴰ.tail (mem_get_d l i (le_of_suc-le-suc h))

pub mem_take : (n : ℕ) (l : List ℕ) (i : ℕ) → i < n → n ≤ length l → Memᴰ (get_or l i 0) (take n l)
mem_take n l i p q = rw (← get_or-take n l i 0 p) (mem_get_d (take n l) i (rw (length-take-le n l q) p))

pub position_below : (K : ℕ) {b : ℕ} → Memᴰ b (positions K) → b < position_count
unfolding positions
position_below K m = (bits_of_elim position_count K m).0

pub record Gathered (mask : ℕ) (at : List ℕ) (n b : ℕ) : Type 0 where
  pub long : length at ≡ 28
  pub fits : n ≤ b
  pub below : b ≤ position_count
  pub front : take n at ≡ map shift (bits_of b mask)

module _ (mask : ℕ) {at : List ℕ} where
  pub gather_none : length at ≡ 28 → Gathered mask at 0 0
  unfolding bits_of up_to
  gather_none h = record { long = h; fits = omega arith; below = omega arith; front = refl }

  pub gather_set : {n v : ℕ} (b : ℕ) → Gathered mask at n b → b < position_count → bit mask b ≡ true → v ≡ shift b
      → Gathered mask (set at n v) (n + 1) (b + 1)
  gather_set {n} {v} b g h t e =
      record {
        long = length-set at n v ∙ g.long;
        fits = omega arith;
        below = omega arith;
        front = rw (add-one n, take-suc-set at n v (omega arith), g.front, bits_set mask b t, e) (sym (map-append shift (bits_of b mask) (b ∷ [])));
      }

  pub gather_clear : {n : ℕ} (b : ℕ) → Gathered mask at n b → b < position_count → bit mask b ≡ false → Gathered mask at n (b + 1)
  gather_clear b g h t =
      record { long = g.long; fits = omega arith; below = omega arith; front = g.front ∙ ap (map shift) (sym (bits_clear mask b t)) }

pub gather_pad : (mask : ℕ) {d l : List ℕ} {n m b : ℕ} → Gathered mask d n b → position_count ≤ b → Padded d l n m → Shifts mask (take m l)
unfolding positions
gather_pad mask {d} {l} {n} {m} {b} g h p = record { whole = whole; only = only; fours = rw (length-take-le m l room) p.fours }
  where
    room : m ≤ length l
    room = omega (arith, p.again.long)

    front : take n d ≡ map shift (positions mask)
    front = g.front ∙ ap (λ (k : ℕ). map shift (bits_of k mask)) (omega arith)

    whole : (k : ℕ) → Memᴰ k (positions mask) → Memᴰ (shift k) (take m l)
    whole k i =
        let w = take_place n d 0 {a = shift k} (rw front (map_intro shift i)) in
        rw (w.2, ← p.again.before w.0 w.1) (mem_take m l w.0 (omega arith) room)

    found : (a k : ℕ) → k < n → a ≡ get_or d k 0 → (j : ℕ) × Memᴰ j (positions mask) × (a ≡ shift j)
    found a k q e = map_elim shift (positions mask) (rw (e, ← front) (mem_take n d k q (omega arith)))

    only : (a : ℕ) → Memᴰ a (take m l) → (j : ℕ) × Memᴰ j (positions mask) × (a ≡ shift j)
    only a i =
        let w = take_place m l 0 i in
        ⊎_elim
        (λ q. found a w.0 q (w.2 ∙ p.again.before w.0 q))
        (λ q. found a (n - 1) (omega arith) (w.2 ∙ p.again.inner w.0 q w.1))
        (lt_or_le w.0 n)

pub shifts_fours : (mask : ℕ) {at : List ℕ} → Shifts mask at → Fours at
shifts_fours mask {at} s = record { fours = s.fours; near = near }
  where
    near : (a : ℕ) → Memᴰ a at → a ≤ farthest
    near a m = let w = s.only a m in omega (arith, w.2, position_below mask w.1)
