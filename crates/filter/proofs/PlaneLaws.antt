-- The laws of packed codes: bytes whose bit 2 i + v belongs to lane i and value v.
--     other_bits         the codes of the other value
--     moved_up           the bits of a byte whose lanes are moved up by one
--     quad_bits          the bits of a byte that is put together of four codes
--     refreshed_row      where the bands of a row have the bits of a test, all its bytes have them once they are made anew
-- Assumes nothing.
use mathlib.Core.Bool.{Bool, true, false, ◌&&◌}
use mathlib.Core.List.{List}
use mathlib.Core.Logic.{⊎_elim}
use mathlib.Core.Path.{◌≡◌, refl, sym, ap, ◌∙◌}
use Prim.Native.Nat.{ℕ, zero, suc, ◌+◌, ◌-◌, ◌*◌, ◌/◌, ◌%◌, ◌^◌, ◌≤◌, ◌<◌}
use native.Mathlib.Omega.{arith}
use borrow.Author.Tests.{le-leb, lt-leb}
use lib.Bits.{bit_and, bit_or}
use lib.Dec.{leb, eqb}
use lib.ListN.{get_or}
use Rattle.image.specs.Size.{max_side}
use Rattle.seq.specs.Bits.{bit}
use Rattle.seq.specs.Lists.{all, same}
use Rattle.seq.specs.Tab.{up_to}
use Rattle.seq.proofs.Bits.{bit_shr, bit_above}
use Rattle.seq.proofs.Lists.{same_true}
use Rattle.seq.proofs.Tab.{up_to_test}
use Rattle.seq.proofs.Tests.{lt_or_le}
use Rattle.filter.specs.Code.Plane.{band, halo, step, quad, Refreshed}

-- two tests that agree on all bits of all bytes
byte_bits : (p q : ℕ → ℕ → Bool) → all (λ x. all (λ n. same (p x n) (q x n)) (up_to 8)) (up_to 256) ≡ true → (x n : ℕ) → x < 256 → n < 8 → p x n ≡ q x n
byte_bits p q e x n h l =
    same_true (p x n) (q x n)
    (up_to_test (λ m. same (p x m) (q x m)) 8 (up_to_test (λ y. all (λ m. same (p y m) (q y m)) (up_to 8)) 256 e x h) n l)

abbrev exchanged : ℕ → ℕ
exchanged x = bit_or (bit_and (x * 2 % 256) 170) (bit_and (x / 2) 85)

exchanged_test : all (λ y. all (λ n. same (bit (exchanged y) n) (bit y (n / 2 * 2 + (1 - n % 2)))) (up_to 8)) (up_to 256) ≡ true
unfolding bit up_to
exchanged_test = refl

pub other_bits : (x i v : ℕ) → x < 256 → i < 4 → v < 2 → bit (exchanged x) (2 * i + v) ≡ bit x (2 * i + (1 - v))
other_bits x i v h l q =
    byte_bits (λ y n. bit (exchanged y) n) (λ y n. bit y (n / 2 * 2 + (1 - n % 2))) exchanged_test x (2 * i + v) h (omega arith) ∙ ap (bit x) (omega arith)

moved_test : all (λ y. all (λ n. same (bit (y * 4 % 256) n) (leb 2 n && bit y (n - 2))) (up_to 8)) (up_to 256) ≡ true
unfolding bit up_to
moved_test = refl

pub moved_up : (x n : ℕ) → x < 256 → n < 8 → bit (x * 4 % 256) n ≡ (leb 2 n && bit x (n - 2))
moved_up x n h l = byte_bits (λ y m. bit (y * 4 % 256) m) (λ y m. leb 2 m && bit y (m - 2)) moved_test x n h l

pub quad_bits : (f : ℕ → ℕ) → ((i : ℕ) → i < 4 → f i < 4) → (i v : ℕ) → i < 4 → v < 2 → bit (quad (f 0) (f 1) (f 2) (f 3)) (2 * i + v) ≡ bit (f i) v
unfolding bit
quad_bits f h i v a b = ap (λ (d : ℕ). eqb d 1) (digit i v a b)
  where
    digit : (i v : ℕ) → i < 4 → v < 2 → quad (f 0) (f 1) (f 2) (f 3) / 2 ^ (2 * i + v) % 2 ≡ f i / 2 ^ v % 2
    digit zero zero p q = omega (arith, h 0 (omega arith), h 1 (omega arith), h 2 (omega arith), h 3 (omega arith))
    digit zero (suc zero) p q = omega (arith, h 0 (omega arith), h 1 (omega arith), h 2 (omega arith), h 3 (omega arith))
    digit zero (suc (suc v)) p q = absurd (omega arith)
    digit (suc zero) zero p q = omega (arith, h 0 (omega arith), h 1 (omega arith), h 2 (omega arith), h 3 (omega arith))
    digit (suc zero) (suc zero) p q = omega (arith, h 0 (omega arith), h 1 (omega arith), h 2 (omega arith), h 3 (omega arith))
    digit (suc zero) (suc (suc v)) p q = absurd (omega arith)
    digit (suc (suc zero)) zero p q = omega (arith, h 0 (omega arith), h 1 (omega arith), h 2 (omega arith), h 3 (omega arith))
    digit (suc (suc zero)) (suc zero) p q = omega (arith, h 0 (omega arith), h 1 (omega arith), h 2 (omega arith), h 3 (omega arith))
    digit (suc (suc zero)) (suc (suc v)) p q = absurd (omega arith)
    digit (suc (suc (suc zero))) zero p q = omega (arith, h 0 (omega arith), h 1 (omega arith), h 2 (omega arith), h 3 (omega arith))
    digit (suc (suc (suc zero))) (suc zero) p q = omega (arith, h 0 (omega arith), h 1 (omega arith), h 2 (omega arith), h 3 (omega arith))
    digit (suc (suc (suc zero))) (suc (suc v)) p q = absurd (omega arith)
    digit (suc (suc (suc (suc i)))) v p q = absurd (omega arith)

module _ {d l : List ℕ} (at : ℕ) where
  -- no column stands before the first band's or behind the last band's
  pub refreshed_row : (p : ℕ → ℕ → Bool) → Refreshed d l at → ((v C : ℕ) → C < halo → p v C ≡ false) → ((v C : ℕ) → max_side + halo ≤ C → p v C ≡ false)
      → ((k : ℕ) → k < band → get_or d (at + halo + k) 0 < 256)
      → ((k i v : ℕ) → k < band → i < 4 → v < 2 → bit (get_or d (at + halo + k) 0) (2 * i + v) ≡ p v (band * i + (halo + k)))
      → (k i v : ℕ) → k < step → i < 4 → v < 2 → bit (get_or l (at + k) 0) (2 * i + v) ≡ p v (band * i + k)
  refreshed_row p r low high small coded k i v h a b =
      ⊎_elim (λ q. left i a q) (λ q. ⊎_elim (inner q) right (lt_or_le k (halo + band))) (lt_or_le k halo)
    where
      -- what the band has, by the place in the row
      source : (j i : ℕ) → halo ≤ j → j < halo + band → i < 4 → bit (get_or d (at + j) 0) (2 * i + v) ≡ p v (band * i + j)
      source j i q s c =
          let e : halo + (j - halo) ≡ j = omega arith in
          let f : at + halo + (j - halo) ≡ at + j = omega arith in
          rw (e, f) at (coded (j - halo) i v (omega arith) c b)

      byte : (j : ℕ) → halo ≤ j → j < halo + band → get_or d (at + j) 0 < 256
      byte j q s =
          let f : at + halo + (j - halo) ≡ at + j = omega arith in
          rw f at (small (j - halo) (omega arith))

      left : (i : ℕ) → i < 4 → k < halo → bit (get_or l (at + k) 0) (2 * i + v) ≡ p v (band * i + k)
      left i c q =
          let e : at + (band + k) ≡ at + band + k = omega arith in
          ap (λ (x : ℕ). bit x (2 * i + v)) (r.left k q ∙ rw (sym e)) ∙ moved_up (get_or d (at + (band + k)) 0) (2 * i + v) (byte (band + k) (omega arith) (omega arith)) (omega arith)
          ∙ before i c
        where
          before : (i : ℕ) → i < 4 → (leb 2 (2 * i + v) && bit (get_or d (at + (band + k)) 0) (2 * i + v - 2)) ≡ p v (band * i + k)
          before zero c = rw (lt-leb 2 (2 * 0 + v) (omega arith)) (sym (low v (band * 0 + k) (omega arith)))
          before (suc i) c =
              rw (le-leb 2 (2 * suc i + v) (omega arith))
              (ap (bit (get_or d (at + (band + k)) 0)) (omega arith) ∙ source (band + k) i (omega arith) (omega arith) (omega arith) ∙ ap (p v) (omega arith))

      inner : halo ≤ k → k < halo + band → bit (get_or l (at + k) 0) (2 * i + v) ≡ p v (band * i + k)
      inner q s =
          let e : at + halo + (k - halo) ≡ at + k = omega arith in
          ap (λ (x : ℕ). bit x (2 * i + v)) (rw e at (r.bands (k - halo) (omega arith))) ∙ source k i q s a

      right : halo + band ≤ k → bit (get_or l (at + k) 0) (2 * i + v) ≡ p v (band * i + k)
      right q =
          let e : at + halo + band + (k - (halo + band)) ≡ at + k = omega arith in
          let f : at + halo + (k - (halo + band)) ≡ at + (k - band) = omega arith in
          ap (λ (x : ℕ). bit x (2 * i + v)) (rw (e, f) at (r.right (k - (halo + band)) (omega arith))) ∙ bit_shr (get_or d (at + (k - band)) 0) 2 (2 * i + v)
          ∙ ⊎_elim behind last (lt_or_le i 3)
        where
          behind : i < 3 → bit (get_or d (at + (k - band)) 0) (2 + (2 * i + v)) ≡ p v (band * i + k)
          behind c =
              ap (bit (get_or d (at + (k - band)) 0)) (omega arith) ∙ source (k - band) (i + 1) (omega arith) (omega arith) (omega arith) ∙ ap (p v) (omega arith)

          last : 3 ≤ i → bit (get_or d (at + (k - band)) 0) (2 + (2 * i + v)) ≡ p v (band * i + k)
          last c = bit_above (get_or d (at + (k - band)) 0) 8 (2 + (2 * i + v)) (byte (k - band) (omega arith) (omega arith)) (omega arith) ∙ sym (high v (band * i + k) (omega arith))
