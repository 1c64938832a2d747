-- Codes of one band in a byte of the opening map.
--     eq_or_not        two numbers are equal or not
--     lane_code        the mask of a band leaves its code
--     code_moved       that code, in a lower band
--     joined           two stores that join it to what stands there
-- Assumes nothing.
use mathlib.Core.Bool.{Bool, true, ◌&&◌, ◌||◌, and_comm, or-false}
use mathlib.Core.List.{List}
use mathlib.Core.Logic.{◌⊎◌, inl, inr, ⊎_elim}
use mathlib.Core.Path.{◌≡◌, refl, sym, ap, ◌∙◌}
use Prim.Native.Nat.{ℕ, ◌+◌, ◌-◌, ◌*◌, ◌/◌, ◌%◌, ◌^◌, ◌≤◌, ◌<◌}
use native.Mathlib.Omega.{arith}
use borrow.Author.Tests.{eq-eqb, ne_eqb, eqb-true, eqb-false}
use lib.Bits.{bit_and, bit_or}
use lib.Dec.{eqb}
use lib.ListN.{length, get_or, set}
use Rattle.seq.specs.Bits.{bit}
use Rattle.seq.specs.Lists.{all, same}
use Rattle.seq.specs.Loops.{Swept}
use Rattle.seq.specs.Tab.{up_to}
use Rattle.seq.proofs.Bits.{bit_and_lem, bit_or_lem, bit_shr, bit_above}
use Rattle.seq.proofs.Lists.{either, same_true}
use Rattle.seq.proofs.Loops.{sweep_none, sweep_more, sweep_ahead}
use Rattle.seq.proofs.Tab.{up_to_test}
use Rattle.seq.proofs.Tests.{lt_or_le}
use Rattle.filter.specs.Code.Extend.{Joined}

pub eq_or_not : (i j : ℕ) → (i ≡ j) ⊎ (i ≡ j → ⊥)
eq_or_not i j = ⊎_elim (λ e. inl (eqb-true i j e)) (λ e. inr (eqb-false i j e)) (either (eqb i j))

-- the bits of a band's mask
abbrev lane_mask : ℕ → ℕ
lane_mask lane = 3 * 2 ^ (2 * lane) % 256

abbrev mask_test : ℕ → ℕ → ℕ → Bool
mask_test lane l v = same (bit (lane_mask lane) (2 * l + v)) (eqb l lane)

masks : all (λ lane. all (λ l. all (λ v. mask_test lane l v) (up_to 2)) (up_to 4)) (up_to 4) ≡ true
unfolding bit up_to
masks = refl

mask_bit : (lane l v : ℕ) → lane < 4 → v < 2 → bit (lane_mask lane) (2 * l + v) ≡ eqb l lane
mask_bit lane l v a b =
    ⊎_elim
    (λ c. same_true _ _ (up_to_test (λ n. mask_test lane l n) 2
    (up_to_test (λ m. all (λ n. mask_test lane m n) (up_to 2)) 4
    (up_to_test (λ k. all (λ m. all (λ n. mask_test k m n) (up_to 2)) (up_to 4)) 4 masks lane a) l c) v b))
    (λ c. bit_above (lane_mask lane) 8 (2 * l + v) (omega arith) (omega arith) ∙ sym (ne_eqb l lane (omega arith)))
    (lt_or_le l 4)

pub lane_code : (byte lane l v : ℕ) → lane < 4 → v < 2 → bit (bit_and byte (3 * 2 ^ (2 * lane) % 256)) (2 * l + v) ≡ (eqb l lane && bit byte (2 * l + v))
lane_code byte lane l v a b =
    bit_and_lem byte (lane_mask lane) (2 * l + v)
    ∙ ap (λ (t : Bool). bit byte (2 * l + v) && t) (mask_bit lane l v a b)
    ∙ and_comm (bit byte (2 * l + v)) (eqb l lane)

-- what a code has of the byte that it is taken from
abbrev CodeOf : ℕ → ℕ → ℕ → ℕ → Type 0
CodeOf code byte lane low = (i v : ℕ) → v < 2 → bit code (2 * i + v) ≡ (eqb i low && bit byte (2 * lane + v))

pub code_moved : (code byte lane low : ℕ) → low ≤ lane → ((l v : ℕ) → v < 2 → bit code (2 * l + v) ≡ (eqb l lane && bit byte (2 * l + v)))
    → CodeOf (code / 2 ^ (2 * (lane - low))) byte lane low
code_moved code byte lane low a h i v b = shifted ∙ ⊎_elim this other (eq_or_not i low)
  where
    shifted : bit (code / 2 ^ (2 * (lane - low))) (2 * i + v) ≡ (eqb (i + (lane - low)) lane && bit byte (2 * (i + (lane - low)) + v))
    shifted =
        bit_shr code (2 * (lane - low)) (2 * i + v) ∙ ap (bit code) (omega arith) ∙ h (i + (lane - low)) v b

    this : i ≡ low → (eqb (i + (lane - low)) lane && bit byte (2 * (i + (lane - low)) + v)) ≡ (eqb i low && bit byte (2 * lane + v))
    this e =
        let u : i + (lane - low) ≡ lane = omega arith in
        rw (u, e, eq-eqb lane lane refl, eq-eqb low low refl) refl

    other : (i ≡ low → ⊥) → (eqb (i + (lane - low)) lane && bit byte (2 * (i + (lane - low)) + v)) ≡ (eqb i low && bit byte (2 * lane + v))
    other n = rw (ne_eqb (i + (lane - low)) lane (omega arith), ne_eqb i low n) refl

joined_swept : {d l : List ℕ} {at : ℕ} (code from lane low : ℕ) → CodeOf code (get_or d from 0) lane low
    → Swept (λ j. bit_or (get_or d j 0) code) d l at (at + 2) → Joined d l from lane at low
joined_swept {d} {l} {at} code from lane low h s =
    record { long = s.long; here = here; others = others; before = s.before; after = s.after }
  where
    stored : (j i v : ℕ) → at ≤ j → j < at + 2 → v < 2
        → bit (get_or l j 0) (2 * i + v) ≡ (bit (get_or d j 0) (2 * i + v) || (eqb i low && bit (get_or d from 0) (2 * lane + v)))
    stored j i v a b u =
        ap (λ (x : ℕ). bit x (2 * i + v)) (s.inner j a b)
        ∙ bit_or_lem (get_or d j 0) code (2 * i + v)
        ∙ ap (λ (t : Bool). bit (get_or d j 0) (2 * i + v) || t) (h i v u)

    here : (j v : ℕ) → at ≤ j → j < at + 2 → v < 2 → bit (get_or l j 0) (2 * low + v) ≡ (bit (get_or d j 0) (2 * low + v) || bit (get_or d from 0) (2 * lane + v))
    here j v a b u = stored j low v a b u ∙ rw (eq-eqb low low refl) refl

    others : (j i v : ℕ) → v < 2 → (i ≡ low → ⊥) → bit (get_or l j 0) (2 * i + v) ≡ bit (get_or d j 0) (2 * i + v)
    others j i v u n =
        ⊎_elim
        (λ a. ap (λ (x : ℕ). bit x (2 * i + v)) (s.before j a))
        (λ a. ⊎_elim
        (λ b. stored j i v a b u ∙ rw (ne_eqb i low n) (or-false (bit (get_or d j 0) (2 * i + v))))
        (λ b. ap (λ (x : ℕ). bit x (2 * i + v)) (s.after j b))
        (lt_or_le j (at + 2)))
        (lt_or_le j at)

pub joined : (d : List ℕ) (code from lane at low : ℕ) → at + 2 ≤ length d → CodeOf code (get_or d from 0) lane low
    → Joined d (set (set d at (bit_or (get_or d at 0) code)) (at + 1) (bit_or (get_or (set d at (bit_or (get_or d at 0) code)) (at + 1) 0) code)) from lane at low
joined d code from lane at low b h =
    let one : Swept (λ j. bit_or (get_or d j 0) code) d (set d at (bit_or (get_or d at 0) code)) at (at + 1)
    = sweep_more _ (sweep_none _ d at) (omega arith) (omega arith) refl refl in
    joined_swept code from lane low h
    (sweep_more _ one (omega arith) (omega arith) (ap (λ (x : ℕ). bit_or x code) (sweep_ahead one)) (omega arith))
