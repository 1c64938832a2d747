-- The pass over a band of a tall image.
--     Cut h from n a b, cut     the rows a to b of an image of h rows are a band of the rows from from to from + n, with six more on each side as far as there are
--     cut_room                  the band has room in memory
--     cut_image                 the band is an image
--     band_made                 the rows stand in its own next image
--     rows_within, rows_changed, rows_copied     the rows of the image; what changes in them; and their copy
-- Assumes nothing.
use mathlib.Core.Bool.{true}
use mathlib.Core.List.{List}
use mathlib.Core.Logic.{◌⊎◌, inl, inr, ⊎_elim}
use mathlib.Core.Path.{◌≡◌, sym, ap, ◌∙◌}
use Prim.Native.Nat.{ℕ, ◌+◌, ◌-◌, ◌*◌, ◌≤◌, ◌<◌, min}
use native.Mathlib.Nat.{mul-add, mul-le-mul, mul-le-mul_left}
use native.Mathlib.Omega.{arith}
use lib.Dec.{leb}
use lib.ListN.{length, get_or, take, drop, length-drop, take-append-drop}
use lib.Seq.{take-append-le, drop-append-le, get_or-take, get_or-drop}
use Rattle.filter.specs.Code.Blocks.{Switched}
use Rattle.filter.specs.Code.Strip.{row_limit, band_pixels, Counted, Tall, BandMade, RowsChanged}
use Rattle.filter.proofs.SwitchedLaws.{switched_pass}
use Rattle.filter.proofs.TallyLaws.{counted_parts}
use Rattle.image.specs.Parts.{rows_of}
use Rattle.operator.specs.Image.{IsImage, added, removed}
use Rattle.operator.specs.Locality.{reach}
use Rattle.operator.specs.Pass.{pass}
use Rattle.operator.proofs.Bands.{rows_length, pass_length, band_pass}
use Rattle.seq.specs.Lists.{all}
use Rattle.seq.specs.Loops.{Swept}
use Rattle.seq.proofs.Fronts.{all_append}
use Rattle.seq.proofs.Lists.{and_left, and_right}
use Rattle.seq.proofs.Tests.{lt_or_le}
use Rattle.table.specs.declared.Table.{Table}
use Rattle.verdict.specs.Writer.{over}
use Rattle.verdict.proofs.Writer.{length_over}

pub record Cut (h from n a b : ℕ) : Type 0 where
  pub starts : a ≤ from
  pub ends : from + n ≤ b
  pub within : b ≤ h
  pub few : b - a ≤ row_limit + 2 * reach
  pub upper : (a ≡ 0) ⊎ (a + reach ≤ from)
  pub lower : (b ≡ h) ⊎ (from + n + reach ≤ b)

pub cut : {h from n a b : ℕ} → n ≤ row_limit → from + n ≤ h → a ≡ from - reach → b ≡ min (from + n + reach) h → Cut h from n a b
cut {h} {from} {n} {a} {b} few within p q = record {
  starts = omega arith;
  ends = omega arith;
  within = omega arith;
  few = omega arith;
  upper = ⊎_elim (λ l. inl (omega arith)) (λ l. inr (omega arith)) (lt_or_le from reach);
  lower = ⊎_elim (λ l. inl (omega arith)) (λ l. inr (omega arith)) (lt_or_le h (from + n + reach));
}

-- a test that every element of a list passes
all_take : (l : List ℕ) (n : ℕ) → all (λ v. leb v 1) l ≡ true → all (λ v. leb v 1) (take n l) ≡ true
all_take l n e =
    and_left _ (all (λ v. leb v 1) (drop n l))
    (sym (all_append (λ v. leb v 1) (take n l) (drop n l)) ∙ ap (all (λ v. leb v 1)) (take-append-drop n l) ∙ e)

all_drop : (l : List ℕ) (n : ℕ) → all (λ v. leb v 1) l ≡ true → all (λ v. leb v 1) (drop n l) ≡ true
all_drop l n e =
    and_right (all (λ v. leb v 1) (take n l)) _
    (sym (all_append (λ v. leb v 1) (take n l) (drop n l)) ∙ ap (all (λ v. leb v 1)) (take-append-drop n l) ∙ e)

-- a part of what was put at the front of memory
part_over : (file out : List ℕ) (i n : ℕ) → i + n ≤ length file → take n (drop i (over file out)) ≡ take n (drop i file)
unfolding over
part_over file out i n l =
    ap (take n) (drop-append-le i file (drop (length file) out) (omega arith))
    ∙ take-append-le n (drop i file) (drop (length file) out) (omega (arith, length-drop i file))

module _ {t : Table} {w h from n a b : ℕ} {px : List ℕ} (tall : Tall t w h px) (c : Cut h from n a b) where
  pub cut_room : w * (b - a) ≤ band_pixels
  cut_room = mul-le-mul tall.narrow c.few

  -- the rows of the band
  cut_rows : take (w * b - w * a) (drop (w * a) px) ≡ rows_of w a (b - a) px
  unfolding rows_of
  cut_rows =
      let e : b ≡ a + (b - a) = omega arith in
      let span : w * b - w * a ≡ w * (b - a) = omega (arith, ap (λ (k : ℕ). w * k) e, mul-add w a (b - a)) in
      ap (λ k. take k (drop (w * a) px)) span

  pub cut_image : 1 ≤ n → IsImage w (b - a) (take (w * b - w * a) (drop (w * a) px))
  cut_image some = record {
    wide = tall.image.wide;
    high = omega arith;
    sized = ap length cut_rows ∙ rows_length w h a (b - a) px tall.image.sized (omega arith);
    binary = all_take (drop (w * a) px) (w * b - w * a) (all_drop px (w * a) tall.image.binary);
  }

  pub band_made : 1 ≤ n → {d l : List ℕ} {x y : ℕ} → Switched t w (b - a) (take (w * b - w * a) (drop (w * a) px)) d l x y → length d ≡ band_pixels
      → BandMade t w h px from n l (w * (from - a))
  unfolding rows_of
  band_made some {d} {l} s room = record {
    long = ap length made ∙ length_over next d (omega (arith, long, cut_room)) ∙ room;
    fits = omega (arith, inner, cut_room);
    rows = ap (λ k. take (w * n) (drop (w * (from - a)) k)) made ∙ part_over next d (w * (from - a)) (w * n) (omega (arith, long, inner)) ∙ sym rows;
  }
    where
      next : List ℕ
      next = pass t w (b - a) (rows_of w a (b - a) px)

      long : length next ≡ w * (b - a)
      long = pass_length t w (b - a) (rows_of w a (b - a) px)

      made : l ≡ over next d
      made = s.filled ∙ ap (λ k. over k d) (switched_pass t w (b - a) (take (w * b - w * a) (drop (w * a) px)) (cut_image some) tall.table ∙ ap (pass t w (b - a)) cut_rows)

      inner : w * (from - a) + w * n ≤ w * (b - a)
      inner = omega (arith, mul-add w (from - a) n, mul-le-mul_left w (let e : from - a + n ≤ b - a = omega arith in e))

      rows : rows_of w from n (pass t w h px) ≡ rows_of w (from - a) n next
      rows = band_pass t w (b - a) h a from n px (omega arith) c.starts (omega arith) c.upper (⊎_elim (λ e. inl (omega arith)) (λ e. inr (omega arith)) c.lower)

-- what is counted between the rows of the image and those of the band
module _ {t : Table} {w h from n : ℕ} {px band : List ℕ} {at : ℕ} (tall : Tall t w h px) (within : from + n ≤ h) (made : BandMade t w h px from n band at) where
  pub rows_within : w * from + w * n ≤ length px
  rows_within = omega (arith, mul-add w from n, mul-le-mul_left w within, tall.image.sized)

  pub rows_changed : {x y : ℕ} → Counted px (w * from) band at (w * n) x y → RowsChanged t w h px from n x y
  unfolding rows_of
  rows_changed s =
      let e = counted_parts s rows_within in
      record { more = e.0 ∙ ap (added (rows_of w from n px)) made.rows; less = e.1 ∙ ap (removed (rows_of w from n px)) made.rows }

  -- and what is copied from the band
  pub rows_copied : {d l : List ℕ} → Swept (λ j. get_or band (at + (j - w * from)) 0) d l (w * from) (w * from + w * n)
      → Swept (λ j. get_or (pass t w h px) j 0) d l (w * from) (w * (from + n))
  unfolding rows_of
  rows_copied {d} {l} s = record { long = s.long; inner = inner; before = s.before; after = λ j p. s.after j (omega (arith, mul-add w from n)) }
    where
      inner : (j : ℕ) → w * from ≤ j → j < w * (from + n) → get_or l j 0 ≡ get_or (pass t w h px) j 0
      inner j p q =
          let below : j - w * from < w * n = omega (arith, mul-add w from n) in
          let e : w * from + (j - w * from) ≡ j = omega arith in
          s.inner j p (omega (arith, mul-add w from n))
          ∙ sym (get_or-drop at band (j - w * from) 0)
          ∙ sym (get_or-take (w * n) (drop at band) (j - w * from) 0 below)
          ∙ ap (λ k. get_or k (j - w * from) 0) made.rows
          ∙ get_or-take (w * n) (drop (w * from) (pass t w h px)) (j - w * from) 0 below
          ∙ get_or-drop (w * from) (pass t w h px) (j - w * from) 0
          ∙ ap (λ k. get_or (pass t w h px) k 0) e
