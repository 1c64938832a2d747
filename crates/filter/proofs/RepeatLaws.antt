-- What `repeat` refuses, and what it has shown where it refuses nothing.
--     front-bad         the front of an area, by the code's test
--     admit_refused, admit_checked   the table, then the front of the first area
--     Admitted t w h f n, admitted   what an accepted verdict says
--     repeat_refused, repeat_made    the answer and the areas
-- Assumes nothing.
use Rattle.std.specs.Prelude.{Ok, Err, Result}
use mathlib.Core.Bool.{Bool, true, false}
use mathlib.Core.List.{List}
use mathlib.Core.Path.{◌≡◌, refl, sym, ap, ◌∙◌}
use Prim.Native.Nat.{ℕ, ◌*◌, ◌≤◌}
use native.Mathlib.Omega.{arith}
use borrow.Author.Tests.{ltb-false}
use lib.Dec.{ltb}
use lib.ListN.{length, take, length-take}
use Rattle.filter.specs.declared.Budget.{Budget}
use Rattle.filter.specs.declared.Repeated.{Repeated}
use Rattle.filter.specs.Applied.{pass_verdict, range_verdict, again_verdict}
use Rattle.filter.specs.Code.Run.{EndedAs}
use Rattle.filter.specs.Repeated.{begin, follow, repeated, answer, leaves, first_area, second_area}
use Rattle.verdict.specs.declared.Rule.TheVariants as why
use Rattle.filter.proofs.PassCodeChecks.{accepted_ranged}
use Rattle.filter.proofs.PreviewLaws.{checked_image}
use Rattle.image.specs.File.{pixel_verdict, area_rule}
use Rattle.image.specs.Size.{max_side, bad_size}
use Rattle.image.proofs.PixelsOf.{pixels_size, pixels_good}
use Rattle.image.proofs.RowBytes.{sides}
use Rattle.operator.specs.Image.{IsImage}
use Rattle.table.specs.declared.Table.{Table}
use Rattle.table.specs.Record.{record_verdict}
use Rattle.verdict.specs.Rules.{Refusal}
use Rattle.verdict.proofs.Rules.{or_else_left, or_else_right, refuse_if_accepted}

module _ (t : Table) (w h : ℕ) (n : ℕ) where
  pub admit_refused : (px : List ℕ) {x : Refusal} → record_verdict t ≡ Err x → Err x ≡ pass_verdict t w h px n
  unfolding pass_verdict
  admit_refused px e = sym (rw e refl)

  -- of a bad size nothing else is looked at
  front_verdict : (px l : List ℕ) → (bad_size w h ≡ false → l ≡ px) → pixel_verdict w h l ≡ pixel_verdict w h px
  front_verdict px l f = by (bad_size w h) refl
    where
      by : (b : Bool) → bad_size w h ≡ b → pixel_verdict w h l ≡ pixel_verdict w h px
      by true e = pixels_size w h l e ∙ sym (pixels_size w h px e)
      by false e = ap (pixel_verdict w h) (f e)

  pub admit_checked : (px l : List ℕ) → record_verdict t ≡ Ok tt → (bad_size w h ≡ false → l ≡ px) → again_verdict t w h l n ≡ pass_verdict t w h px n
  unfolding again_verdict range_verdict pass_verdict
  admit_checked px l ok f = rw (accepted_ranged t ok, ok, front_verdict px l f) refl

pub record Admitted (t : Table) (w h : ℕ) (f : List ℕ) (n : ℕ) : Type 0 where
  pub table : record_verdict t ≡ Ok tt
  pub image : IsImage w h (take (w * h) f)
  pub narrow : w ≤ max_side
  pub low : h ≤ max_side
  pub first_long : w * h ≤ length f
  pub second_long : w * h ≤ n

pub admitted : (t : Table) (w h : ℕ) (f : List ℕ) (n : ℕ) → pass_verdict t w h (take (w * h) f) n ≡ Ok tt → Admitted t w h f n
unfolding pass_verdict
admitted t w h f n e =
    let after = or_else_right (record_verdict t) _ e in
    let good = or_else_left (pixel_verdict w h (take (w * h) f)) _ after in
    let image = checked_image w h (take (w * h) f) good in
    let size = sides w h (pixels_good w h (take (w * h) f) good).size in
    let cut = length-take (w * h) f in
    record {
      table = or_else_left (record_verdict t) _ e;
      image = image;
      narrow = size.narrow;
      low = size.short;
      first_long = omega (arith, image.sized, cut);
      second_long = ltb-false n (w * h) (refuse_if_accepted (ltb n (w * h)) why.AreaShort 0 (or_else_left (area_rule w h n) _ (or_else_right (pixel_verdict w h (take (w * h) f)) _ after)));
    }

module _ (t : Table) (w h : ℕ) (b : Budget) (f s : List ℕ) where
  abbrev Answers : Result Repeated Refusal → List ℕ → List ℕ → Type 0
  Answers r x y =
      (r ≡ answer (repeated t w h b f s)) × (x ≡ leaves first_area (repeated t w h b f s) f) × (y ≡ leaves second_area (repeated t w h b f s) s)

  pub repeat_refused : {x : Refusal} → pass_verdict t w h (take (w * h) f) (length s) ≡ Err x → Answers (Err x) f s
  unfolding repeated
  repeat_refused e = rw e (refl, refl, refl)

  pub repeat_made : {r : Repeated} {x y : List ℕ} → pass_verdict t w h (take (w * h) f) (length s) ≡ Ok tt
      → EndedAs (follow t w h b b.limit (begin f s)) r x y → Answers (Ok r) x y
  unfolding repeated
  repeat_made e m = rw e (ap Ok m.0, m.1, m.2)
