-- A file by the parts of its header: digits, the byte that ends them, and the rest.
--     Parts, parts         such bytes, as a reader of a number finds them
--     magic_split          a file by its first three bytes
--     number_split, digits_only, after_digits     bytes by their digits; these are nothing but digits, and the byte behind them is none
--     HeaderRead           what a reader finds: whether the form is strict, width, height, and what follows the header
--     Pieces, laid, form_of, laid_out     a file laid out from such parts, as it is read
--     pieces, whole        those of a file, and that it is laid out from them
--     header_same          a file with another raster in place of its own has the same header
-- Assumes nothing.
use mathlib.Core.Bool.{Bool, true, false, cond, ◌&&◌}
use mathlib.Core.List.{List, [], ◌∷◌, ◌++◌, append-nil, append_assoc}
use mathlib.Core.Logic.{⊎_elim}
use mathlib.Core.Path.{◌≡◌, refl, sym, ap, ◌∙◌}
use Prim.Native.Nat.{ℕ, suc, ◌+◌, ◌-◌, ◌≤◌, ◌<◌}
use native.Mathlib.Nat.{not-suc-le-zero}
use native.Mathlib.Numerals.{add-one}
use native.Mathlib.Omega.{arith}
use borrow.Author.Tests.{ltb-true, ltb-false}
use lib.Dec.{eqb, ltb}
use lib.ListN.{length, get_or, take, drop, length-append, length-drop, drop_of_length-le}
use lib.Seq.{take_at, take_all, get_or_at, drop-append-add, split_at}
use Rattle.image.specs.Code.Layout.{raster_start}
use Rattle.image.specs.Header.{space, line_feed, is_digit, digits, decimal_value, strict, width_part, height_part, raster, starts_magic, after, header_form, width_of, height_of}
use Rattle.image.proofs.Canonical.{digits_append, digits_take, strict_front}
use Rattle.image.proofs.HeaderOf.{height_place, raster_place}
use Rattle.seq.proofs.Lists.{either}

-- the digits ds, the byte b that ends them, and the rest t, as a reader of the bytes finds them
pub record Parts (bytes ds : List ℕ) (b : ℕ) (t : List ℕ) : Type 0 where
  pub front : take (digits bytes) bytes ≡ ds
  pub form : strict bytes ≡ strict ds
  pub stop : after bytes ≡ b
  pub rest : drop (digits bytes + 1) bytes ≡ t

pub parts : (ds : List ℕ) (b : ℕ) (t : List ℕ) → digits ds ≡ length ds → is_digit b ≡ false → Parts (ds ++ b ∷ t) ds b t
parts ds b t e n =
    let c : digits (ds ++ b ∷ t) ≡ length ds = digits_append ds b t e n in
    record {
      front = take_at ds (b ∷ t) (digits (ds ++ b ∷ t)) (sym c);
      form = strict_front ds b t e c;
      stop = get_or_at ds b t 0 (digits (ds ++ b ∷ t)) (sym c);
      rest = rw c (drop-append-add ds (b ∷ t) 1);
    }

magic_split : (f : List ℕ) → 2 < length f → get_or f 0 0 ∷ get_or f 1 0 ∷ get_or f 2 0 ∷ drop 3 f ≡ f
magic_split [] h = absurd (not-suc-le-zero h)
magic_split (x ∷ []) h = absurd (omega arith)
magic_split (x ∷ y ∷ []) h = absurd (omega arith)
magic_split (x ∷ y ∷ z ∷ f) h = refl

pub number_split : (bytes : List ℕ) → digits bytes < length bytes → bytes ≡ take (digits bytes) bytes ++ after bytes ∷ drop (digits bytes + 1) bytes
number_split bytes inside = rw (add-one) (split_at bytes (digits bytes) 0 inside)

pub digits_only : (bytes : List ℕ) → digits (take (digits bytes) bytes) ≡ length (take (digits bytes) bytes)
digits_only bytes = (digits_take bytes).0 ∙ sym (digits_take bytes).1

-- past the end stands 0, which is no digit
pub after_digits : (bytes : List ℕ) → is_digit (after bytes) ≡ false
unfolding is_digit
after_digits [] = refl
after_digits (b ∷ bytes) = step (is_digit b) refl (after_digits bytes)
  where
    step : (t : Bool) → is_digit b ≡ t → is_digit (after bytes) ≡ false → is_digit (get_or (b ∷ bytes) (cond t (suc (digits bytes)) 0) 0) ≡ false
    step true e below = below
    step false e below = e

pub record HeaderRead (f : List ℕ) (form : Bool) (w h : ℕ) (r : List ℕ) : Type 0 where
  pub formed : header_form f ≡ form
  pub width : width_of f ≡ w
  pub height : height_of f ≡ h
  pub rest : raster f ≡ r

-- what may stand before a raster: three bytes, digits and a byte that is none, twice
pub record Pieces : Type 0 where
  pub m₀ : ℕ
  pub m₁ : ℕ
  pub m₂ : ℕ
  pub wide : List ℕ
  pub stop : ℕ
  pub high : List ℕ
  pub end : ℕ
  pub wide_digits : digits wide ≡ length wide
  pub stop_none : is_digit stop ≡ false
  pub high_digits : digits high ≡ length high
  pub end_none : is_digit end ≡ false

abbrev pub laid : Pieces → List ℕ → List ℕ
laid p r = p.m₀ ∷ p.m₁ ∷ p.m₂ ∷ (p.wide ++ p.stop ∷ (p.high ++ p.end ∷ r))

abbrev pub form_of : Pieces → Bool
form_of p =
    (eqb p.m₀ 0x50 && (eqb p.m₁ 0x34 && eqb p.m₂ 0x0A))
    && ((strict p.wide && eqb p.stop space) && (strict p.high && eqb p.end line_feed))

pub laid_out : (p : Pieces) (r : List ℕ) → HeaderRead (laid p r) (form_of p) (decimal_value p.wide) (decimal_value p.high) r
unfolding header_form starts_magic width_of height_of width_part height_part raster
laid_out p r =
    let first = parts p.wide p.stop (p.high ++ p.end ∷ r) p.wide_digits p.stop_none in
    let second = parts p.high p.end r p.high_digits p.end_none in
    record {
      formed = simp (first.form, first.stop, first.rest, second.form, second.stop);
      width = simp first.front;
      height = simp (first.rest, second.front);
      rest = simp first.rest second.rest;
    }

laid_append : (p : Pieces) (r : List ℕ) → laid p r ≡ laid p [] ++ r
laid_append p r = simp append_assoc

-- the pieces of a file
abbrev pub pieces : List ℕ → Pieces
pieces f = record {
  m₀ = get_or f 0 0;
  m₁ = get_or f 1 0;
  m₂ = get_or f 2 0;
  wide = take (digits (width_part f)) (width_part f);
  stop = after (width_part f);
  high = take (digits (height_part f)) (height_part f);
  end = after (height_part f);
  wide_digits = digits_only (width_part f);
  stop_none = after_digits (width_part f);
  high_digits = digits_only (height_part f);
  end_none = after_digits (height_part f);
}

-- a file that has room for its header is laid out from its pieces
module _ (f : List ℕ) (room : raster_start f ≤ length f) where
  pub whole : laid (pieces f) (raster f) ≡ f
  unfolding raster_start height_part width_part raster
  whole =
      let height = number_split (height_part f) (omega (arith, ap length (height_place f) ∙ length-drop (3 + (digits (width_part f) + 1)) f)) in
      let width = number_split (width_part f) (omega (arith, length-drop 3 f)) in
      rw (← height, ← width) (magic_split f (omega arith))

  front : take (raster_start f) f ≡ laid (pieces f) []
  unfolding raster_start
  front =
      let long = (digits_take (width_part f)).1 in
      let long' = (digits_take (height_part f)).1 in
      ap (take (raster_start f)) (sym whole ∙ laid_append (pieces f) (raster f))
      ∙ take_at (laid (pieces f) []) (raster f) (raster_start f) (simp (length-append, long, long') (omega arith))

  same : (r : List ℕ) → HeaderRead (take (raster_start f) f ++ r) (header_form f) (width_of f) (height_of f) r
  same r =
      let own = laid_out (pieces f) (raster f) in
      let new = laid_out (pieces f) r in
      rw (front, ← laid_append (pieces f) r) (record {
        formed = new.formed ∙ sym own.formed ∙ ap header_form whole;
        width = new.width ∙ sym own.width ∙ ap width_of whole;
        height = new.height ∙ sym own.height ∙ ap height_of whole;
        rest = new.rest;
      })

pub header_same : (f r : List ℕ) → length r ≡ length (raster f)
    → HeaderRead (take (length f - length (raster f)) f ++ r) (header_form f) (width_of f) (height_of f) r
header_same f r e = ⊎_elim (λ t. short (ltb-true (length f) (raster_start f) t)) (λ t. roomy (ltb-false (length f) (raster_start f) t)) (either (ltb (length f) (raster_start f)))
  where
    Same : Type 0
    Same = HeaderRead (take (length f - length (raster f)) f ++ r) (header_form f) (width_of f) (height_of f) r

    count : length (raster f) ≡ length f - raster_start f
    count = ap length (raster_place f) ∙ length-drop (raster_start f) f

    roomy : raster_start f ≤ length f → Same
    roomy room = let place : length f - length (raster f) ≡ raster_start f = omega (arith, count) in rw place (same f room r)

    -- there is no raster
    short : length f < raster_start f → Same
    short l =
        let nothing : raster f ≡ [] = drop_of_length-le (raster f) {i = 0} (omega (arith, count)) in
        let none : r ≡ [] = drop_of_length-le r {i = 0} (omega (arith, count, e)) in
        let itself : take (length f - length (raster f)) f ++ r ≡ f =
        rw (none, nothing) (append-nil (take (length f - 0) f) ∙ take_all (length f - 0) f (omega arith)) in
        rw itself (record { formed = refl; width = refl; height = refl; rest = nothing ∙ sym none })
