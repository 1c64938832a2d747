-- The laws of a file's header, from those of its two numbers.
--     number_told, number_refused       what a number at a position says of the bytes there, and its absence
--     height_place, raster_place, raster_part     where the height and the raster stand in the file
--     rest_part                         the part of a list from a place on
--     magic_front                       the first bytes, as the library compares them
--     no_magic, no_width, no_height, header_found     the header, as its parts are read one after the other
-- Assumes nothing.
use Rattle.std.specs.List.{starts_with}
use Rattle.std.proofs.lemmas.Bool.Decides.{nat_tests}
use Rattle.std.specs.Prelude.{None, Some, nat_eq}
use mathlib.Core.Bool.{Bool, true, false, ◌&&◌}
use mathlib.Core.List.{List, [], ◌∷◌}
use mathlib.Core.Path.{◌≡◌, refl, sym, ap, ◌∙◌}
use Prim.Native.Nat.{ℕ, ◌+◌, ◌-◌}
use native.Mathlib.Omega.{arith}
use lib.Dec.{eqb}
use lib.ListN.{length, take, drop, length-drop}
use lib.Seq.{take_all, drop-drop}
use Rattle.image.specs.declared.number.Number.{Number}
use Rattle.image.specs.Code.Layout.{number_if, number_at, raster_start, header_as, header_of}
use Rattle.image.specs.Header.{magic, digits, decimal_value, strict, after, width_part, height_part, raster, starts_magic, header_form, width_of, height_of, space, line_feed}

-- what a number at a position says of the bytes there
record Told (bytes : List ℕ) (at stop : ℕ) (n : Number) : Type 0 where
  form : (strict bytes && eqb (after bytes) stop) ≡ true
  worth : decimal_value (take (digits bytes) bytes) ≡ n.value
  past : at + (digits bytes + 1) ≡ n.next

told : (t : Bool) (v n : ℕ) {m : Number} → number_if t v n ≡ Some m → (t ≡ true) × (v ≡ m.value) × (n ≡ m.next)
told true v n e = (refl, (cc), (cc))
told false v n e = cc

refused : (t : Bool) (v n : ℕ) → number_if t v n ≡ None → t ≡ false
refused true v n e = cc
refused false v n e = refl

number_told : (f : List ℕ) (at stop : ℕ) {n : Number} → number_at f at stop ≡ Some n → Told (drop at f) at stop n
unfolding number_at
number_told f at stop e = let w = told _ _ _ e in record { form = w.0; worth = w.1; past = w.2 }

number_refused : (f : List ℕ) (at stop : ℕ) → number_at f at stop ≡ None → (strict (drop at f) && eqb (after (drop at f)) stop) ≡ false
unfolding number_at
number_refused f at stop e = refused _ _ _ e

pub height_place : (f : List ℕ) → height_part f ≡ drop (3 + (digits (width_part f) + 1)) f
unfolding height_part width_part
height_place f = drop-drop (digits (drop 3 f) + 1) 3 f

pub raster_place : (f : List ℕ) → raster f ≡ drop (raster_start f) f
unfolding raster raster_start
raster_place f =
    ap (drop (digits (height_part f) + 1)) (height_place f) ∙ drop-drop (digits (height_part f) + 1) (3 + (digits (width_part f) + 1)) f

-- all of a list from a place on, as a part of it that ends where the list does
pub rest_part : (l : List ℕ) (k : ℕ) → take (length l - k) (drop k l) ≡ drop k l
rest_part l k = let n = length-drop k l in take_all (length l - k) (drop k l) (omega arith)

-- so the reader's code takes the raster out of the file
pub raster_part : (f : List ℕ) (start : ℕ) → raster_start f ≡ start → raster f ≡ take (length f - start) (drop start f)
raster_part f start e =
    raster_place f ∙ ap (λ (k : ℕ). drop k f) e ∙ sym (rest_part f start)

-- the first bytes, as the code compares them
pub magic_front : (f : List ℕ) → starts_with nat_eq f magic ≡ starts_magic f
unfolding starts_magic
magic_front [] = refl
magic_front (a ∷ []) = grind (arith, nat_tests)
magic_front (a ∷ b ∷ []) = grind (arith, nat_tests)
magic_front (a ∷ b ∷ c ∷ f) = grind (arith, nat_tests)

pub no_magic : (f : List ℕ) → starts_magic f ≡ false → header_of f ≡ None
unfolding header_of header_form
no_magic f e = simp e

pub no_width : (f : List ℕ) → starts_magic f ≡ true → number_at f 3 space ≡ None → header_of f ≡ None
unfolding header_of header_form width_part
no_width f e q = simp (e, number_refused f 3 space q)

module _ (f : List ℕ) {w : Number} (magic : starts_magic f ≡ true) (first : number_at f 3 space ≡ Some w) where
  width : Told (width_part f) 3 space w
  unfolding width_part
  width = number_told f 3 space first

  rest : drop w.next f ≡ height_part f
  rest = sym (height_place f ∙ ap (λ (k : ℕ). drop k f) width.past)

  pub no_height : number_at f w.next line_feed ≡ None → header_of f ≡ None
  unfolding header_of header_form
  no_height q = simp (magic, width.form, rw rest at (number_refused f w.next line_feed q))

  pub header_found : {h : Number} → number_at f w.next line_feed ≡ Some h → header_of f ≡ Some (header_as w.value h.value h.next)
  unfolding header_of header_form width_of height_of raster_start
  header_found {h} q =
      let t : Told (height_part f) w.next line_feed h = rw rest at (number_told f w.next line_feed q) in
      simp (magic, width.form, t.form, width.worth, t.worth, width.past, t.past)
