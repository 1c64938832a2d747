-- A strip that is admitted, and the answer of the pass over it.
--     read_size, read_refused                         a size that was read, and a refusal
--     strip_tall                                      an admitted strip is an image no larger than the largest
--     admit_table, admit_strip, admit_short, admit_all     what is refused, and the size
--     Crossing t p px n, crossing                     what is known of a strip that is not refused
--     parts_few, parts_total                          what the parts change is what the strip changes
--     cross_made                          the pass is made
--     pass_refused, pass_crossed                      the answer, and the area
-- Assumes nothing.
use Rattle.std.specs.Prelude.{Ok, Err, Result}
use mathlib.Core.Bool.{Bool, true, false, cond}
use mathlib.Core.List.{List}
use mathlib.Core.Path.{◌≡◌, refl, sym, ap, ◌∙◌}
use Prim.Native.Nat.{ℕ, ◌+◌, ◌*◌, ◌≤◌, ◌<◌}
use native.Mathlib.Omega.{arith}
use borrow.Author.Tests.{eq-eqb, ne_eqb, le-ltb, lt-ltb, ltb-false}
use lib.Dec.{ltb, eqb}
use lib.ListN.{length}
use Rattle.filter.specs.declared.Crossed.{Crossed}
use Rattle.filter.specs.declared.End.TheVariants as ending
use Rattle.filter.specs.Code.Strip.{Tall, totalled}
use Rattle.filter.specs.Crossed.{cross_verdict, across, overfull, crossed_if, crossed, crossed_area}
use Rattle.verdict.specs.declared.Rule.TheVariants as why
use Rattle.filter.proofs.StripLaws.{area_few}
use Rattle.image.specs.Answers.{read_width, read_height}
use Rattle.image.specs.declared.size.Size.{Size}
use Rattle.image.specs.declared.strip.PartCounts.{PartCounts}
use Rattle.image.specs.declared.strip.Strip.{Strip}
use Rattle.image.specs.File.{area_rule, read_as}
use Rattle.image.specs.Size.{max_side}
use Rattle.image.specs.Strip.{max_parts, max_rows, heights_of, strip_width, strip_height, strip_verdict}
use Rattle.image.proofs.Shapes.{shape_wide, shape_rows}
use Rattle.image.proofs.Strips.{strip_good, strip_binary}
use Rattle.operator.specs.Image.{added, removed, differs}
use Rattle.operator.specs.Parts.{part_counts}
use Rattle.operator.specs.Pass.{pass}
use Rattle.operator.proofs.Bands.{pass_length}
use Rattle.operator.proofs.Counts.{differs_equal, equal_differs, unchanged_equal, equal_unchanged}
use Rattle.operator.proofs.Operator.{pass_image}
use Rattle.operator.proofs.PartCounts.{changed_few, parts_added, parts_removed}
use Rattle.seq.specs.Lists.{sum_of}
use Rattle.seq.proofs.Lists.{clash}
use Rattle.table.specs.declared.Table.{Table}
use Rattle.table.specs.Record.{record_verdict}
use Rattle.verdict.specs.Rules.{refusal, Verdict, Refusal}
use Rattle.verdict.specs.Writer.{over}
use Rattle.verdict.proofs.Rules.{or_else_left, or_else_right, refuse_if_accepted}

pub read_size : (v : Verdict) {W H : ℕ} {s : Size} → read_as v W H ≡ Ok s → (v ≡ Ok tt) × (s.width ≡ W) × (s.height ≡ H)
read_size (Ok _) e = (refl, sym (ap read_width e), sym (ap read_height e))
read_size (Err x) e = let z : ◌≡◌ {A = ℕ} 0 1 = cc in absurd (omega arith)

pub read_refused : (v : Verdict) (W H : ℕ) {x : Refusal} → read_as v W H ≡ Err x → v ≡ Err x
read_refused (Ok _) W H e = let z : ◌≡◌ {A = ℕ} 0 1 = cc in absurd (omega arith)
read_refused (Err y) W H e = cc

module _ (t : Table) (p : Strip) (px : List ℕ) where
  module _ (n : ℕ) where
    pub admit_table : {x : Refusal} → record_verdict t ≡ Err x → Err x ≡ read_as (cross_verdict t p px n) (strip_width p) (strip_height p)
    unfolding cross_verdict
    admit_table e = sym (rw e)

    module _ (ok : record_verdict t ≡ Ok tt) where
      pub admit_strip : {x : Refusal} → strip_verdict p px ≡ Err x
          → Err x ≡ read_as (cross_verdict t p px n) (strip_width p) (strip_height p)
      unfolding cross_verdict
      admit_strip e = rw (ok, e)

      module _ (good : strip_verdict p px ≡ Ok tt) where
        pub admit_short : n < strip_width p * strip_height p → Err (refusal why.AreaShort 0) ≡ read_as (cross_verdict t p px n) (strip_width p) (strip_height p)
        unfolding cross_verdict
        admit_short l = sym (rw (ok, good, lt-ltb n (strip_width p * strip_height p) l))

        pub admit_all : strip_width p * strip_height p ≤ n
            → read_as (strip_verdict p px) (strip_width p) (strip_height p) ≡ read_as (cross_verdict t p px n) (strip_width p) (strip_height p)
        unfolding cross_verdict
        admit_all l = rw (ok, good, le-ltb n (strip_width p * strip_height p) l)

  pub strip_tall : record_verdict t ≡ Ok tt → strip_verdict p px ≡ Ok tt → Tall t (strip_width p) (strip_height p) px
  strip_tall ok good =
      let g = strip_good p px good in
      let side = shape_wide g.shape in
      let rows = shape_rows g.shape in
      record { table = ok; image = record { wide = side.0; high = rows.0; sized = g.bytes.count; binary = strip_binary g }; narrow = side.1; low = rows.1 }

-- what an accepted verdict says
pub record Crossing (t : Table) (p : Strip) (px : List ℕ) (n : ℕ) : Type 0 where
  pub tall : Tall t (strip_width p) (strip_height p) px
  pub parts : p.parts ≤ max_parts
  pub room : strip_width p * strip_height p ≤ n

pub crossing : (t : Table) (p : Strip) (px : List ℕ) (n : ℕ) → cross_verdict t p px n ≡ Ok tt → Crossing t p px n
unfolding cross_verdict
crossing t p px n e =
    let after = or_else_right (record_verdict t) _ e in
    let good = or_else_left (strip_verdict p px) _ after in
    let area = or_else_left (area_rule (strip_width p) (strip_height p) n) _ (or_else_right (strip_verdict p px) _ after) in
    record {
      tall = strip_tall t p px (or_else_left (record_verdict t) _ e) good;
      parts = (strip_good p px good).shape.few;
      room = ltb-false n (strip_width p * strip_height p) (refuse_if_accepted (ltb n (strip_width p * strip_height p)) why.AreaShort 0 area);
    }

-- what the parts change together is what the strip changes
module _ {t : Table} {w h : ℕ} {px : List ℕ} (tall : Tall t w h px) (hs : List ℕ) (high : h ≡ sum_of hs) (few : length hs ≤ max_parts) {c : PartCounts}
    (counts : c ≡ part_counts w hs px (pass t w h px)) where
  abbrev next : List ℕ
  next = pass t w h px

  abbrev changes : ℕ
  changes = added px next + removed px next

  sized : length px ≡ w * sum_of hs
  sized = tall.image.sized ∙ ap (λ (k : ℕ). w * k) high

  sum_added : sum_of c.added ≡ added px next
  unfolding part_counts
  sum_added = ap (λ (k : PartCounts). sum_of k.added) counts ∙ parts_added w hs px next few sized

  sum_removed : sum_of c.removed ≡ removed px next
  unfolding part_counts
  sum_removed = ap (λ (k : PartCounts). sum_of k.removed) counts ∙ parts_removed w hs px next few sized

  pub parts_few : sum_of c.added + sum_of c.removed ≤ max_side * max_rows
  parts_few = omega (arith, sum_added, sum_removed, changed_few px next, tall.image.sized, area_few tall)

  -- nothing is added and nothing removed exactly where nothing differs
  end_is : cond (eqb changes 0) ending.Stable ending.Limit ≡ cond (differs px next) ending.Limit ending.Stable
  end_is = by (differs px next) refl
    where
      by : (b : Bool) → differs px next ≡ b → cond (eqb changes 0) ending.Stable ending.Limit ≡ cond b ending.Limit ending.Stable
      by true e = rw (ne_eqb changes 0 (λ z. clash e (equal_differs px next (unchanged_equal tall.image (pass_image t tall.image) z))))
      by false e = rw (eq-eqb changes 0 (equal_unchanged tall.image (pass_image t tall.image) (differs_equal px next (tall.image.sized ∙ sym (pass_length t w h px)) e)))

  pub parts_total : totalled c
      ≡ record { added = added px next; removed = removed px next; parts = part_counts w hs px next; end = cond (differs px next) ending.Limit ending.Stable }
  unfolding totalled
  parts_total = rw (sum_added, sum_removed, end_is, counts)

-- the pass over an admitted strip: there is no room, or it is made
module _ (p : Strip) (room : ℕ) (px next area : List ℕ) where
  abbrev Answered : Crossed → List ℕ → Type 0
  Answered r after = (r ≡ crossed_if (overfull room px next) p px next) × (after ≡ cond (overfull room px next) area (over next area))

  pub cross_made : overfull room px next ≡ false → {w : ℕ} → w ≡ strip_width p → {r : Crossed} {after : List ℕ}
      → r ≡ record { added = added px next; removed = removed px next; parts = part_counts w (heights_of p) px next; end = cond (differs px next) ending.Limit ending.Stable }
      → after ≡ over next area → Answered r after
  cross_made e k q a = (q ∙ rw k (sym (rw e)), a ∙ sym (rw e))

-- the answer, and the area
module _ (t : Table) (p : Strip) (room : ℕ) (px area : List ℕ) where
  abbrev Passed : Result Crossed Refusal → List ℕ → Type 0
  Passed r after = (r ≡ crossed t p room px (length area)) × (after ≡ crossed_area t p room px area)

  pub pass_refused : {x : Refusal} → cross_verdict t p px (length area) ≡ Err x → Passed (Err x) area
  unfolding crossed crossed_area
  pass_refused e = (sym (rw e), sym (rw e))

  pub pass_crossed : cross_verdict t p px (length area) ≡ Ok tt → {r : Crossed} {after : List ℕ}
      → Answered p room px (pass t (strip_width p) (strip_height p) px) area r after → Passed (Ok r) after
  unfolding crossed crossed_area across
  pass_crossed e a = (ap Ok a.0 ∙ sym (rw e), a.1 ∙ sym (rw e))
