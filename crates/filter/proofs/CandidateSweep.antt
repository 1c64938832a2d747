-- The candidates cover what is held.
--     hold_more    a sweep by pairs of shifts: by two pairs more
--     held_eroded, held_joined          what an element holds is a candidate: of the only element, and of several
-- Assumes nothing.
use mathlib.Core.Bool.{Bool, true, ◌&&◌, ◌||◌}
use mathlib.Core.List.{List, Memᴰ}
use mathlib.Core.Logic.{⊎_elim}
use mathlib.Core.Path.{◌≡◌, ap, ◌∙◌}
use Prim.Native.Nat.{ℕ, ◌+◌, ◌-◌, ◌*◌, ◌/◌, ◌%◌, ◌<◌}
use native.Mathlib.Nat.{eq-or-lt_of_le}
use native.Mathlib.Omega.{arith}
use lib.ListN.{length, get_or}
use lib.Seq.{take_all}
use Rattle.seq.specs.Bits.{bit}
use Rattle.seq.specs.Lists.{all}
use Rattle.seq.specs.Loops.{Swept}
use Rattle.seq.proofs.Bits.{bit_and_lem, bit_or_lem}
use Rattle.seq.proofs.Lists.{and_intro, or_left, or_right, any_elim, all_elim, all_intro}
use Rattle.seq.proofs.Members.{take_place}
use Rattle.seq.proofs.Tests.{lt_or_le}
use Rattle.table.specs.Mask.{positions}
use Rattle.filter.specs.Code.Candidate.{Parts, paired, Joined}
use Rattle.filter.specs.Code.Opening.{shift, held_within}
use Rattle.filter.specs.Code.Sweep.{Eroded, woven4}

module _ {at : List ℕ} {size : ℕ} {l : List ℕ} where
  pub hold_more : {f g : List ℕ} (p : List ℕ) (i : ℕ) → Joined at i size l f → i % 4 ≡ 0 → ((j : ℕ) → j < 4 → get_or p j 0 ≡ get_or at (i + j) 0)
      → Swept (woven4 paired l p 0 f) f g 0 (0 + size) → Joined at (i + 4) size l g
  hold_more {f} {g} p i r h q w = record { coded = coded }
    where
      has : ℕ → ℕ → ℕ → Bool
      has k j s = bit (get_or l (get_or at k 0 + j) 0) s

      bits : (j s : ℕ) → j < size → bit (get_or g j 0) s ≡ (bit (get_or f j 0) s || ((has i j s && has (i + 1) j s) || (has (i + 2) j s && has (i + 3) j s)))
      bits j s a =
          let z : j - 0 ≡ j = omega arith in
          let o : i + 0 ≡ i = omega arith in
          rw (w.inner j (omega arith) (omega arith), z, q 0 (omega arith), q 1 (omega arith), q 2 (omega arith), q 3 (omega arith), o) (simp (bit_or_lem, bit_and_lem))

      coded : (k j s : ℕ) → 2 * k + 1 < i + 4 → j < size → has (2 * k) j s ≡ true → has (2 * k + 1) j s ≡ true → bit (get_or g j 0) s ≡ true
      coded k j s a b t u = bits j s b ∙ ⊎_elim old (λ c. ⊎_elim first second (eq-or-lt_of_le c)) (lt_or_le k (2 * (i / 4)))
        where
          new : Bool
          new = (has i j s && has (i + 1) j s) || (has (i + 2) j s && has (i + 3) j s)

          old : k < 2 * (i / 4) → (bit (get_or f j 0) s || new) ≡ true
          old c = or_left new (r.coded k j s (omega arith) b t u)

          first : 2 * (i / 4) ≡ k → (bit (get_or f j 0) s || new) ≡ true
          first c =
              let e : 2 * k ≡ i = omega arith in
              or_right (bit (get_or f j 0) s) (or_left (has (i + 2) j s && has (i + 3) j s) (and_intro (rw e at t) (rw e at u)))

          second : 2 * (i / 4) < k → (bit (get_or f j 0) s || new) ≡ true
          second c =
              let e : 2 * k ≡ i + 2 = omega arith in
              let e' : 2 * k + 1 ≡ i + 3 = omega arith in
              or_right (bit (get_or f j 0) s) (or_right (has i j s && has (i + 1) j s) (and_intro (rw e at t) (rw e' at u)))

-- the only element of a table
mem_alone : (es : List ℕ) (e : ℕ) → length es ≡ 1 → Memᴰ e es → e ≡ get_or es 0 0
mem_alone es e h m =
    let (k, l, q) = take_place 1 es 0 {a = e} (rw (take_all 1 es (omega arith)) m) in
    q ∙ ap (λ (i : ℕ). get_or es i 0) (omega arith)

-- the byte of a position's shift has the bit, in the window at byte j
abbrev there : List ℕ → ℕ → ℕ → ℕ → Bool
there map j s n = bit (get_or map (j + shift n) 0) s

module _ (es at map : List ℕ) (parts : Parts es at) where
  pub held_eroded : {size : ℕ} {out : List ℕ} → length es ≡ 1 → Eroded at 0 size map out
      → (j s : ℕ) → j < size → s < 8 → held_within es map j s ≡ true → bit (get_or out j 0) s ≡ true
  unfolding held_within
  held_eroded h r j s a b t =
      let (e, m, u) = any_elim (λ e. all (there map j s) (positions e)) es t in
      r.coded j s a b ∙ all_intro (λ x. bit (get_or map (0 + j + x) 0) s) at (each (rw (mem_alone es e h m) at u))
    where
      each : all (there map j s) (positions (get_or es 0 0)) ≡ true → (x : ℕ) → Memᴰ x at → bit (get_or map (0 + j + x) 0) s ≡ true
      each u x o =
          let (n, k, q) = parts.alone h x o in
          ap (λ (i : ℕ). bit (get_or map i 0) s) (omega arith) ∙ all_elim (there map j s) {a = n} u k

  pub held_joined : {size : ℕ} {out : List ℕ} → (length es ≡ 1 → ⊥) → Joined at (length at) size map out
      → (j s : ℕ) → j < size → s < 8 → held_within es map j s ≡ true → bit (get_or out j 0) s ≡ true
  unfolding held_within
  held_joined h r j s a b t =
      let (e, m, u) = any_elim (λ e. all (there map j s) (positions e)) es t in
      let (i, p) = parts.each h e m in
      r.coded i j s p.room a (at_shift e u p.low) (at_shift e u p.high)
    where
      at_shift : (e : ℕ) {x : ℕ} → all (there map j s) (positions e) ≡ true → (n : ℕ) × Memᴰ n (positions e) × (x ≡ shift n)
          → bit (get_or map (x + j) 0) s ≡ true
      at_shift e u (n, k, q) = ap (λ (i : ℕ). bit (get_or map i 0) s) (omega arith) ∙ all_elim (there map j s) {a = n} u k
