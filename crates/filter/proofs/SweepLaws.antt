-- Erosion and dilation of lists of bytes by lists of shifts (the module `sweep`), four shifts at a time.
--     near_at                                 a shift of the list is at most the farthest
--     four_at l i                              the four elements from index i on
--     front_four                              four elements more at the front of a list
--     four_of, four_near                      the chunks of four of a list: their elements, and how far they are
--     erode_empty, erode_first                the erosion by no shift, and by the first four
--     erode_four, erode_all                   by four shifts more, by all
--     dilate_four                             a dilation by four shifts more
-- Assumes nothing.
use mathlib.Core.Bool.{Bool, true, false, ◌&&◌, ◌||◌, and_assoc, and-true, or_assoc, or-false}
use mathlib.Core.List.{List, [], ◌∷◌, ◌++◌}
use mathlib.Core.Path.{◌≡◌, refl, sym, ap, ◌∙◌}
use Prim.Native.Nat.{ℕ, zero, suc, ◌*◌, ◌+◌, ◌-◌, ◌/◌, ◌≤◌, ◌<◌}
use native.Mathlib.Omega.{arith}
use lib.Bits.{bit_and, bit_or}
use lib.ListN.{length, get_or, take, drop}
use lib.Seq.{take_all, take-add, drop-cons}
use Rattle.std.proofs.lemmas.List.{drop-drop, get_or-take, get_or-drop}
use Rattle.std.specs.Simd.{first_chunks}
use Rattle.seq.specs.Bits.{bit}
use Rattle.seq.specs.Lists.{any, all}
use Rattle.seq.specs.Loops.{Swept}
use Rattle.seq.specs.Tab.{up_to}
use Rattle.seq.proofs.Bits.{bit_and_lem, bit_or_lem}
use Rattle.seq.proofs.Fronts.{any_append, all_append}
use Rattle.seq.proofs.Tab.{up_to_test}
use Rattle.filter.specs.Code.Opening.{farthest}
use Rattle.filter.specs.Code.Sweep.{Fours, woven4, all_of, met, joined, Eroded, Dilated}
use Rattle.filter.proofs.ShiftLaws.{mem_get_d}

pub near_at : {at : List ℕ} → Fours at → (i : ℕ) → i < length at → get_or at i 0 ≤ farthest
near_at {at} f i h = f.near (get_or at i 0) (mem_get_d at i h)

abbrev pub four_at : List ℕ → ℕ → List ℕ
four_at l i = get_or l i 0 ∷ get_or l (i + 1) 0 ∷ get_or l (i + 2) 0 ∷ get_or l (i + 3) 0 ∷ []

pub front_four : (l : List ℕ) (i : ℕ) → i + 3 < length l → take (i + 4) l ≡ take i l ++ four_at l i
front_four l i h = take-add i 4 l ∙ ap (λ (t : List ℕ). take i l ++ t) four
  where
    four : take 4 (drop i l) ≡ four_at l i
    four =
        let a : i + 1 ≡ suc i = omega arith in
        let b : i + 2 ≡ suc (suc i) = omega arith in
        let c : i + 3 ≡ suc (suc (suc i)) = omega arith in
        rw (a, b, c, drop-cons l i 0 (omega arith), drop-cons l (suc i) 0 (omega arith), drop-cons l (suc (suc i)) 0 (omega arith), drop-cons l (suc (suc (suc i))) 0 (omega arith))

-- all bits of a byte are set in 255
full : (s : ℕ) → s < 8 → bit 255 s ≡ true
unfolding bit up_to
full s h = up_to_test (bit 255) 8 refl s h

-- a bit of five bytes by `and`, and by `or`
bit_met : (x a b c d s : ℕ)
    → bit (bit_and (bit_and x (bit_and a b)) (bit_and c d)) s ≡ (bit x s && (bit a s && (bit b s && (bit c s && (bit d s && true)))))
bit_met x a b c d s = simp (bit_and_lem, and_assoc, and-true)

bit_all : (a b c d s : ℕ) → bit (bit_and (bit_and a b) (bit_and c d)) s ≡ (bit a s && (bit b s && (bit c s && (bit d s && true))))
bit_all a b c d s = simp (bit_and_lem, and_assoc, and-true)

bit_joined : (x a b c d s : ℕ)
    → bit (bit_or (bit_or x (bit_or a b)) (bit_or c d)) s ≡ (bit x s || (bit a s || (bit b s || (bit c s || (bit d s || false)))))
bit_joined x a b c d s = simp (bit_or_lem, or_assoc, or-false)

erode_none : (start n : ℕ) (l : List ℕ) {d e : List ℕ} → Swept (λ j. 255) d e 0 (0 + n) → Eroded [] start n l e
erode_none start n l w = record { coded = λ j s p q. rw (w.inner j (omega arith) (omega arith)) (full s q) }

pub erode_empty : (at : List ℕ) (start n : ℕ) (l : List ℕ) {d e : List ℕ} → length at ≡ 0 → Swept (λ j. 255) d e 0 (0 + n) → Eroded at start n l e
erode_empty [] start n l h w = erode_none start n l w
erode_empty (a ∷ at) start n l h w = absurd (omega arith)

chunk_is : (n : ℕ) (l : List ℕ) (k : ℕ) (d : List ℕ) → k < n → get_or (first_chunks 4 n l) k d ≡ take 4 (drop (4 * k) l)
chunk_is zero l k d h = absurd (omega arith)
chunk_is (suc n) l zero d h = refl
chunk_is (suc n) l (suc k) d h =
    let e : 4 * suc k ≡ 4 + 4 * k = omega arith in
    chunk_is n (drop 4 l) k d (omega arith) ∙ rw e (ap (λ (t : List ℕ). take 4 t) (drop-drop (4 * k) 4 l))

chunk_at : (l : List ℕ) (k : ℕ) {c : List ℕ} → c ≡ take 4 (drop (4 * k) l) → (i : ℕ) → i < 4 → get_or c i 0 ≡ get_or l (4 * k + i) 0
chunk_at l k e i h = rw e (get_or-take 4 (drop (4 * k) l) i 0 h ∙ get_or-drop (4 * k) l i 0)

-- the k-th of a list's chunks of four
pub four_of : (at : List ℕ) {f : List (List ℕ)} {c : List ℕ} (k : ℕ) → f ≡ first_chunks 4 (length at / 4) at → k < length at / 4 → c ≡ get_or f k []
    → (i : ℕ) → i < 4 → get_or c i 0 ≡ get_or at (4 * k + i) 0
four_of at k e h q = chunk_at at k (q ∙ ap (λ (t : List (List ℕ)). get_or t k []) e ∙ chunk_is (length at / 4) at k [] h)

pub four_near : {at : List ℕ} {f : List (List ℕ)} {c : List ℕ} → Fours at → (k : ℕ) → f ≡ first_chunks 4 (length at / 4) at → k < length at / 4 → c ≡ get_or f k []
    → (i : ℕ) → i < 4 → get_or c i 0 ≤ farthest
four_near {at} m k e h q i b = rw (four_of at k e h q i b) (near_at m (4 * k + i) (omega arith))

-- four places more, from those of the shifts from 4 k on
module _ (at : List ℕ) (start n : ℕ) (l : List ℕ) where
  -- what byte j looks at by the shift a
  abbrev seen : ℕ → ℕ → ℕ → Bool
  seen j s a = bit (get_or l (start + j + a) 0) s

  module _ (k : ℕ) (h : 4 * k + 3 < length at) (p : List ℕ) (q : (i : ℕ) → i < 4 → get_or p i 0 ≡ start + get_or at (4 * k + i) 0) where
    place : (i j : ℕ) → i < 4 → get_or p i 0 + (j - 0) ≡ start + j + get_or at (4 * k + i) 0
    place i j b = omega (arith, q i b)

    fours : (f : ℕ → ℕ → ℕ → ℕ → ℕ → ℕ) (d : List ℕ) (j : ℕ)
        → woven4 f l p 0 d j ≡ f (get_or d j 0) (get_or l (start + j + get_or at (4 * k) 0) 0) (get_or l (start + j + get_or at (4 * k + 1) 0) 0) (get_or l (start + j + get_or at (4 * k + 2) 0) 0) (get_or l (start + j + get_or at (4 * k + 3) 0) 0)
    fours f d j =
        let z : 4 * k + 0 ≡ 4 * k = omega arith in
        rw (place 0 j (omega arith), place 1 j (omega arith), place 2 j (omega arith), place 3 j (omega arith), z) refl

    pub erode_first : {d f : List ℕ} → k ≡ 0 → Swept (woven4 all_of l p 0 d) d f 0 (0 + n) → Eroded (take 4 at) start n l f
    erode_first {d} {f} z w = record { coded = coded }
      where
        coded : (j s : ℕ) → j < n → s < 8 → bit (get_or f j 0) s ≡ all (seen j s) (take 4 at)
        coded j s b c =
            let e : 4 * k ≡ 0 = omega arith in
            rw (w.inner j (omega arith) (omega arith), fours all_of d j, front_four at 0 (omega arith), e) (bit_all _ _ _ _ s)

    pub erode_four : {e f : List ℕ} → Eroded (take (4 * k) at) start n l e → Swept (woven4 met l p 0 e) e f 0 (0 + n) → Eroded (take (4 * (k + 1)) at) start n l f
    erode_four {e} {f} c w = record { coded = coded }
      where
        more : (j s : ℕ) → j < n → bit (get_or f j 0) s ≡ (bit (get_or e j 0) s && all (seen j s) (four_at at (4 * k)))
        more j s b = rw (w.inner j (omega arith) (omega arith), fours met e j) (bit_met _ _ _ _ _ s)

        coded : (j s : ℕ) → j < n → s < 8 → bit (get_or f j 0) s ≡ all (seen j s) (take (4 * (k + 1)) at)
        coded j s b d =
            let e' : 4 * (k + 1) ≡ 4 * k + 4 = omega arith in
            more j s b ∙ rw (c.coded j s b d, e', front_four at (4 * k) h) (sym (all_append (seen j s) (take (4 * k) at) (four_at at (4 * k))))

pub erode_all : {at : List ℕ} {start n : ℕ} {l e : List ℕ} (i : ℕ) → Eroded (take i at) start n l e → length at ≤ i → Eroded at start n l e
erode_all {at} i c h = rw (take_all i at h) at c

module _ (at : List ℕ) (n : ℕ) (e d : List ℕ) where
  pub dilate_four : {f g : List ℕ} (k : ℕ) (p : List ℕ) → Dilated (take (4 * k) at) n e d f → Fours at → 4 * k + 3 < length at
      → ((i : ℕ) → i < 4 → get_or p i 0 ≡ farthest - get_or at (4 * k + i) 0)
      → Swept (woven4 joined e p 4 f) f g 4 (4 + n) → Dilated (take (4 * (k + 1)) at) n e d g
  dilate_four {f} {g} k p c m h q w = record { long = w.long ∙ c.long; coded = coded }
    where
      seen : ℕ → ℕ → ℕ → Bool
      seen j s a = bit (get_or e (j + 320 - a) 0) s

      place : (i j : ℕ) → i < 4 → 4 ≤ j → get_or p i 0 + (j - 4) ≡ j + 320 - get_or at (4 * k + i) 0
      place i j b u = omega (arith, q i b, near_at m (4 * k + i) (omega arith))

      more : (j s : ℕ) → 4 ≤ j → j < 4 + n → bit (get_or g j 0) s ≡ (bit (get_or f j 0) s || any (seen j s) (four_at at (4 * k)))
      more j s b u =
          let z : 4 * k + 0 ≡ 4 * k = omega arith in
          rw (w.inner j b u, place 0 j (omega arith) b, place 1 j (omega arith) b, place 2 j (omega arith) b, place 3 j (omega arith) b, z) (bit_joined _ _ _ _ _ s)

      coded : (j s : ℕ) → 4 ≤ j → j < 4 + n → s < 8 → bit (get_or g j 0) s ≡ (bit (get_or d j 0) s || any (seen j s) (take (4 * (k + 1)) at))
      coded j s b u v =
          let e' : 4 * (k + 1) ≡ 4 * k + 4 = omega arith in
          more j s b u ∙ rw (c.coded j s b u v, e', front_four at (4 * k) h, any_append (seen j s) (take (4 * k) at) (four_at at (4 * k)))
          (or_assoc (bit (get_or d j 0) s) (any (seen j s) (take (4 * k) at)) (any (seen j s) (four_at at (4 * k))))
