-- The laws of the number at a position of a file.
--     number_loose, number_other, number_value    the digits are not strict; another byte ends them; a number
--     strict_count                                strict digits are at most three
--     number_digits                               the digits, cut out of the file
--     byte_within                                 a byte above 0 lies within the file
-- Assumes nothing.
use Rattle.std.specs.Prelude.{None, Some}
use mathlib.Core.Bool.{true, false, ◌&&◌}
use mathlib.Core.List.{List}
use mathlib.Core.Path.{◌≡◌, sym, ◌∙◌}
use Prim.Native.Nat.{ℕ, ◌+◌, ◌-◌, ◌≤◌, ◌<◌}
use native.Mathlib.Nat.{add-sub_cancel_left, lt_of_not-le, add_assoc}
use native.Mathlib.Omega.{arith}
use borrow.Author.Tests.{leb-true, eq-eqb, ne_eqb}
use lib.Dec.{leb}
use lib.ListN.{length, get_or, take, drop, get_or-eq_default}
use lib.Seq.{get_or-drop, length-take-le}
use Rattle.image.specs.Code.Layout.{number_at}
use Rattle.image.specs.Header.{digits, decimal_value, strict}
use Rattle.image.proofs.Digits.{digits_few, digits_part}
use Rattle.seq.proofs.Lists.{and_left, and_right}

pub byte_within : (f : List ℕ) (i : ℕ) → 0 < get_or f i 0 → i < length f
byte_within f i h = lt_of_not-le (λ l. omega (arith, get_or-eq_default f 0 l))

pub strict_count : (bs : List ℕ) → strict bs ≡ true → digits bs ≤ 3
unfolding strict
strict_count bs e = leb-true (digits bs) 3 (and_right (leb 1 (digits bs)) (leb (digits bs) 3) (and_left (leb 1 (digits bs) && leb (digits bs) 3) _ e))

-- the digits, cut out of the file
pub number_digits : (f : List ℕ) (at end : ℕ) → end ≡ at + digits (drop at f) → strict (drop at f) ≡ true
    → (digits (take (end - at) (drop at f)) ≡ length (take (end - at) (drop at f))) × (length (take (end - at) (drop at f)) ≤ 3)
number_digits f at end ends s =
    let n : end - at ≡ digits (drop at f) = omega arith in
    let long = length-take-le (digits (drop at f)) (drop at f) (digits_few (drop at f)) in
    rw (n, long) (digits_part (drop at f), strict_count (drop at f) s)

module _ (f : List ℕ) (at end stop b : ℕ) (ends : end ≡ at + digits (drop at f)) (here : b ≡ get_or f end 0) where
  after_is : get_or (drop at f) (digits (drop at f)) 0 ≡ b
  after_is = get_or-drop at f (digits (drop at f)) 0 ∙ sym (here ∙ rw ends)

  pub number_other : strict (drop at f) ≡ true → (b ≡ stop → ⊥) → number_at f at stop ≡ None
  unfolding number_at
  number_other s n = simp (s, after_is, ne_eqb b stop n)

  pub number_value : strict (drop at f) ≡ true → b ≡ stop → (v : ℕ) → v ≡ decimal_value (take (end - at) (drop at f))
      → number_at f at stop ≡ Some (record { value = v; next = end + 1 })
  unfolding number_at
  number_value s e v q = simp (s, after_is, eq-eqb b stop e, q, ends, add-sub_cancel_left, add_assoc)

pub number_loose : (f : List ℕ) (at stop : ℕ) → strict (drop at f) ≡ false → number_at f at stop ≡ None
unfolding number_at
number_loose f at stop s = simp s
