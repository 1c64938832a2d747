-- The promises of a pass over slices, by the tests that the code makes.
--     checked_table, checked_pixels, checked_area, checked_all     what `again` refuses
--     Fits t w h px n, fits                                        what it has shown where it refuses nothing
--     again_refused, again_filled                                  its answer and the area
--     all_again                                                    for an accepted table, `again` is `pass`
--     pass_refused, pass_again                                     the answer of `pass`, and the area
-- Assumes nothing.
use Rattle.std.specs.Prelude.{Ok, Err}
use mathlib.Core.Bool.{Bool, true, false}
use mathlib.Core.List.{List}
use mathlib.Core.Path.{◌≡◌, refl, sym, ◌∙◌}
use Prim.Native.Nat.{ℕ, ◌*◌, ◌≤◌, ◌<◌}
use borrow.Author.Tests.{le-ltb, lt-ltb, ltb-false}
use lib.Dec.{ltb}
use lib.ListN.{length}
use Rattle.filter.specs.Answers.{Filtered}
use Rattle.image.specs.File.{pixel_verdict, area_rule}
use Rattle.verdict.specs.declared.Rule.TheVariants as why
use Rattle.seq.proofs.Lists.{clash}
use Rattle.table.specs.declared.Table.{Table}
use Rattle.table.specs.Record.{record_verdict}
use Rattle.verdict.specs.Rules.{refusal, Verdict, Refusal}
use Rattle.verdict.proofs.Rules.{or_else_left, or_else_right, refuse_if_accepted}
use Rattle.filter.specs.Applied.{pass_verdict, filtered, filtered_area, switched, range_verdict, again_verdict, again, again_area, Again, AllAgain, ranged}
use Rattle.filter.specs.Code.Blocks.{Switched}
use Rattle.operator.specs.Image.{IsImage}
use Rattle.operator.specs.Pass.{pass}
use Rattle.filter.proofs.PassCodeChecks.{accepted_ranged}
use Rattle.filter.proofs.SwitchedLaws.{switched_pass}
use Rattle.filter.proofs.PreviewLaws.{checked_image}

module _ (t : Table) (w h : ℕ) (px : List ℕ) (n : ℕ) where
  -- a table that is out of range is refused
  pub checked_table : ranged t ≡ false → record_verdict t ≡ again_verdict t w h px n
  unfolding again_verdict range_verdict
  checked_table e = by (record_verdict t) refl
    where
      by : (v : Verdict) → record_verdict t ≡ v → v ≡ again_verdict t w h px n
      by (Ok _) q = clash (accepted_ranged t q) e
      by (Err x) q = rw (e, q)

  module _ (in_range : ranged t ≡ true) where
    pub checked_pixels : {x : Refusal} → pixel_verdict w h px ≡ Err x → Err x ≡ again_verdict t w h px n
    unfolding again_verdict range_verdict
    checked_pixels e = rw (in_range, e)

    module _ (good : pixel_verdict w h px ≡ Ok tt) where
      pub checked_area : n < w * h → Err (refusal why.AreaShort 0) ≡ again_verdict t w h px n
      unfolding again_verdict range_verdict
      checked_area l = rw (in_range, good, lt-ltb n (w * h) l)

      pub checked_all : w * h ≤ n → (Ok tt) ≡ again_verdict t w h px n
      unfolding again_verdict range_verdict
      checked_all l = rw (in_range, good, le-ltb n (w * h) l)

-- what an accepted verdict says
pub record Fits (t : Table) (w h : ℕ) (px : List ℕ) (n : ℕ) : Type 0 where
  pub in_range : ranged t ≡ true
  pub good : pixel_verdict w h px ≡ Ok tt
  pub image : IsImage w h px
  pub room : w * h ≤ n

pub fits : (t : Table) (w h : ℕ) (px : List ℕ) (n : ℕ) → again_verdict t w h px n ≡ Ok tt → Fits t w h px n
unfolding again_verdict range_verdict
fits t w h px n e =
    let after = or_else_right (range_verdict t) _ e in
    let good = or_else_left (pixel_verdict w h px) _ after in
    record {
      in_range = by (ranged t) refl;
      good = good;
      image = checked_image w h px good;
      room = ltb-false n (w * h) (refuse_if_accepted (ltb n (w * h)) why.AreaShort 0 (or_else_left (area_rule w h n) _ (or_else_right (pixel_verdict w h px) _ after)));
    }
  where
    by : (b : Bool) → ranged t ≡ b → b ≡ true
    by true q = refl
    by false q = sym q ∙ accepted_ranged t (or_else_left (record_verdict t) _ (rw q at e))

module _ (t : Table) (w h : ℕ) (px d : List ℕ) where
  abbrev Done : Filtered → List ℕ → Type 0
  Done r after = (r ≡ again t w h px (length d)) × (after ≡ again_area t w h px d)

  pub again_refused : {x : Refusal} → again_verdict t w h px (length d) ≡ Err x → Done (Err x) d
  unfolding again again_area
  again_refused e = rw e (refl, refl)

  pub again_filled : again_verdict t w h px (length d) ≡ Ok tt → {after : List ℕ} {a b : ℕ} → Switched t w h px d after a b → Done (Ok (record { added = a; removed = b })) after
  unfolding again again_area
  again_filled ok s = rw (ok, s.more, s.less) (refl, s.filled)

-- an accepted table is in range, and what it switches is one pass
module _ (t : Table) (w h : ℕ) (px area : List ℕ) (ok : record_verdict t ≡ Ok tt) where
  same_verdict : again_verdict t w h px (length area) ≡ pass_verdict t w h px (length area)
  unfolding again_verdict range_verdict pass_verdict
  same_verdict = rw (accepted_ranged t ok, ok)

  same_image : again_verdict t w h px (length area) ≡ Ok tt → switched t w h px ≡ pass t w h px
  same_image e = switched_pass t w h px (fits t w h px (length area) e).image ok

  is_pass : Again t w h px area
  unfolding again again_area filtered filtered_area
  is_pass = by (again_verdict t w h px (length area)) refl
    where
      by : (v : Verdict) → again_verdict t w h px (length area) ≡ v → Again t w h px area
      by (Ok _) e = let q = sym same_verdict ∙ e in record { answer = rw (e, q, same_image e); left = rw (e, q, same_image e) }
      by (Err x) e = let q = sym same_verdict ∙ e in record { answer = rw (e, q); left = rw (e, q) }

pub all_again : AllAgain
all_again = is_pass

module _ (t : Table) (w h : ℕ) (px d : List ℕ) where
  abbrev Passed : Filtered → List ℕ → Type 0
  Passed r after = (r ≡ filtered t w h px (length d)) × (after ≡ filtered_area t w h px d)

  pub pass_refused : {x : Refusal} → record_verdict t ≡ Err x → Passed (Err x) d
  unfolding filtered filtered_area pass_verdict
  pass_refused e = rw e (refl, refl)

  pub pass_again : record_verdict t ≡ Ok tt → {r : Filtered} {after : List ℕ} → (r ≡ again t w h px (length d)) × (after ≡ again_area t w h px d) → Passed r after
  pass_again ok e = let s = is_pass t w h px d ok in (e.0 ∙ s.answer, e.1 ∙ s.left)
