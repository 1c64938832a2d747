-- The parts of a record: what 14 leaves of them, and that a pass which changes pixels keeps it so.
--     GoodParts j, parts_good, good_parts     each of 14's conditions on the parts, and the other way round
--     good_past                               zeros past the parts
--     good_wide, good_high, good_small        a pixel at least, and no more than the largest strip has
--     good_sides                              one part is of a size within the limits
--     good_rows                               the image's pixels are those of the parts
--     good_loaded                             the record of a load
--     Counted n xs, counted_more              counts of parts that sum to n, zeros past the parts; so with those of a step
--     good_changed                            after a pass that changes pixels
-- Assumes nothing.
use Rattle.std.specs.Prelude.{Ok, Err}
use mathlib.Core.Bool.{Bool, true, false, not, ◌&&◌, ◌||◌}
use mathlib.Core.List.{List, [], ◌∷◌, Memᴰ}
use mathlib.Core.Path.{◌≡◌, refl, sym, ap, ap₂, ◌∙◌}
use Prim.Native.Nat.{ℕ, ◌+◌, ◌*◌, ◌≤◌}
use native.Mathlib.Nat.{mul-le-mul}
use native.Mathlib.Omega.{arith}
use borrow.Author.Tests.{not-false, eqb-true, eq-eqb}
use lib.Dec.{eqb}
use lib.ListN.{length, get_or, take, drop}
use Rattle.history.specs.declared.Job.{Job}
use Rattle.history.specs.Pass.{next_image, now_added, now_removed, now_counts, changed_job}
use Rattle.history.specs.State.{State, pixels, image, part_fields, past_parts, sums_to, bad_parts}
use Rattle.image.proofs.Shapes.{sides_good, Listed, of_heights, of_width, of_shape, of_widths_past, of_heights_past, Shape, shape_good, good_shape, shape_count, shape_wide, shape_rows, padded_tab}
use Rattle.image.specs.Size.{bad_size}
use Rattle.image.specs.Strip.{max_parts, max_strip, padded, heights_of, strip_width, strip_height, shape_verdict, strip_of, no_counts}
use Rattle.operator.proofs.PartCounts.{added_past, removed_past, parts_added, parts_removed}
use Rattle.operator.specs.Image.{IsImage, added, removed}
use Rattle.operator.specs.Parts.{added_in, removed_in, part_counts, summed}
use Rattle.seq.proofs.Joins.{zeros_past, past_zeros, sum_tab}
use Rattle.seq.proofs.Lists.{and_left, and_right, all_elim, clash}
use Rattle.seq.proofs.Members.{any_false}
use Rattle.seq.proofs.Tab.{get_d_tab}
use Rattle.seq.proofs.Tests.{or_none_left, or_none_right}
use Rattle.seq.specs.Lists.{any, all, sum_of}
use Rattle.seq.specs.Tab.{tab}
use Rattle.verdict.specs.Rules.{is_accepted, Verdict}

-- counts of n parts that sum to m, with zeros past them
pub record Counted (n m : ℕ) (xs : List ℕ) : Type 0 where
  pub past : all (eqb 0) (drop n xs) ≡ true
  pub sum : sum_of (padded xs) ≡ m

pub record GoodParts (j : Job) : Type 0 where
  pub shape : Shape j.strip
  pub width : j.width ≡ strip_width j.strip
  pub height : j.height ≡ strip_height j.strip
  pub widths_past : all (eqb 0) (drop j.strip.parts j.strip.widths) ≡ true
  pub heights_past : all (eqb 0) (drop j.strip.parts j.strip.heights) ≡ true
  pub added : Counted j.strip.parts j.added j.counts.added
  pub removed : Counted j.strip.parts j.removed j.counts.removed

-- each of the fields that have a place for each part
pub good_past : {j : Job} → GoodParts j → {xs : List ℕ} → Memᴰ xs (part_fields j) → all (eqb 0) (drop j.strip.parts xs) ≡ true
good_past {j} g m = all_elim (λ xs. all (eqb 0) (drop j.strip.parts xs)) (rw (g.widths_past, g.heights_past, g.added.past, g.removed.past)) m

pub is_accepted_lem : (v : Verdict) → not (is_accepted v) ≡ false → v ≡ Ok tt
is_accepted_lem (Ok _) e = refl
is_accepted_lem (Err r) e = clash refl e

module _ (j : Job) where
  -- 14's conditions on the parts in their order, as `bad_parts` joins them
  abbrev pub misshapen : Bool
  misshapen = not (is_accepted (shape_verdict j.strip))

  abbrev pub resized : Bool
  resized = not (eqb j.width (strip_width j.strip) && eqb j.height (strip_height j.strip))

  abbrev pub past : Bool
  past = any (past_parts j) (part_fields j)

  abbrev pub miscounted : Bool
  miscounted = not (sums_to j.added j.counts.added && sums_to j.removed j.counts.removed)

  pub parts_good : bad_parts j ≡ false → GoodParts j
  unfolding bad_parts
  parts_good e =
      let e₁ = or_none_right misshapen (resized || (past || miscounted)) e in
      let e₂ = or_none_right resized (past || miscounted) e₁ in
      let size = not-false _ (or_none_left resized (past || miscounted) e₁) in
      let zeros : (xs : List ℕ) → Memᴰ xs (part_fields j) → all (eqb 0) (drop j.strip.parts xs) ≡ true = λ xs m.
      not-false _ (any_false (past_parts j) (or_none_left past miscounted e₂) m) in
      let sums = not-false _ (or_none_right past miscounted e₂) in
      record {
        shape = shape_good j.strip (is_accepted_lem _ (or_none_left misshapen (resized || (past || miscounted)) e));
        width = eqb-true _ _ (and_left _ _ size);
        height = eqb-true _ _ (and_right (eqb j.width (strip_width j.strip)) _ size);
        widths_past = zeros _ (Memᴰ.head refl);
        heights_past = zeros _ (Memᴰ.tail (Memᴰ.head refl));
        added = record { past = zeros _ (Memᴰ.tail (Memᴰ.tail (Memᴰ.head refl))); sum = sym (eqb-true _ _ (and_left _ _ sums)) };
        removed = record {
          past = zeros _ (Memᴰ.tail (Memᴰ.tail (Memᴰ.tail (Memᴰ.head refl))));
          sum = sym (eqb-true _ _ (and_right (sums_to j.added j.counts.added) _ sums));
        };
      }

  pub good_parts : GoodParts j → bad_parts j ≡ false
  unfolding bad_parts
  good_parts g =
      rw (
        good_shape j.strip g.shape,
        eq-eqb _ _ g.width,
        eq-eqb _ _ g.height,
        g.widths_past,
        g.heights_past,
        g.added.past,
        g.removed.past,
        eq-eqb _ _ (sym g.added.sum),
        eq-eqb _ _ (sym g.removed.sum),
      )

one_row : (hs : List ℕ) → sum_of (take 1 hs) ≡ get_or hs 0 0
one_row [] = refl
one_row (h ∷ hs) = omega arith

module _ {j : Job} (g : GoodParts j) where
  pub good_wide : 1 ≤ j.width
  good_wide = rw g.width (shape_wide g.shape).0

  pub good_high : 1 ≤ j.height
  good_high = rw g.height (shape_rows g.shape).0

  pub good_small : pixels j ≤ max_strip
  good_small = rw (g.width, g.height) (mul-le-mul (shape_wide g.shape).1 (shape_rows g.shape).1)

  -- a strip of one part is as high as that part
  pub good_sides : j.strip.parts ≡ 1 → bad_size j.width j.height ≡ false
  good_sides e = rw (g.width, g.height, rows) (sides_good (g.shape.sized 0 (omega arith)))
    where
      rows : strip_height j.strip ≡ get_or j.strip.heights 0 0
      rows = rw e (one_row j.strip.heights)

  -- the parts of an image of the record's size
  pub good_rows : (a : List ℕ) → length a ≡ pixels j → length a ≡ j.width * sum_of (heights_of j.strip)
  good_rows a e = e ∙ ap (λ (h : ℕ). j.width * h) g.height

-- the record of a load
pub good_loaded : (j : Job) {w : ℕ} {hs : List ℕ} → Listed w hs → j.width ≡ w → j.height ≡ sum_of hs → j.strip ≡ strip_of w hs → j.counts ≡ no_counts
    → j.added ≡ 0 → j.removed ≡ 0 → GoodParts j
good_loaded j {w} {hs} g a b c d e f = record {
  shape = rw c (of_shape g);
  width = rw c (a ∙ sym (of_width g));
  height = rw c (b ∙ sym (ap sum_of (of_heights g)));
  widths_past = rw c (of_widths_past g);
  heights_past = rw c (of_heights_past g);
  added = rw (c, d) (record { past = past_zeros (λ i. 0) (strip_of w hs).parts max_parts (λ i l m. refl); sum = sym e });
  removed = rw (c, d) (record { past = past_zeros (λ i. 0) (strip_of w hs).parts max_parts (λ i l m. refl); sum = sym f });
}

-- the counts with those of a step
module _ {n m : ℕ} {xs : List ℕ} (c : Counted n m xs) (f : ℕ → ℕ) (k : ℕ) (none : (i : ℕ) → n ≤ i → f i ≡ 0) (sum : sum_of (tab f max_parts) ≡ k) where
  abbrev more : ℕ → ℕ
  more i = get_or xs i 0 + get_or (tab f max_parts) i 0

  pub counted_more : Counted n (m + k) (tab more max_parts)
  counted_more = record {
    past = past_zeros more n max_parts (λ i l b. omega (arith, zeros_past n xs c.past i l, get_d_tab f max_parts i 0 b, none i l));
    sum =
        ap sum_of (padded_tab more) ∙ sum_tab (λ i. get_or xs i 0) (λ i. get_or (tab f max_parts) i 0) max_parts
        ∙ ap₂ ◌+◌ c.sum (ap sum_of (padded_tab f) ∙ sum);
  }

module _ (s : State) (g : GoodParts s.job) (now : IsImage s.job.width s.job.height (image s)) where
  abbrev heights : List ℕ
  heights = heights_of s.job.strip

  count : length heights ≡ s.job.strip.parts
  count = shape_count g.shape

  few : length heights ≤ max_parts
  few = omega (arith, count, g.shape.few)

  pub good_changed : GoodParts (changed_job s)
  unfolding changed_job now_added now_removed now_counts summed part_counts
  good_changed = record {
    shape = g.shape;
    width = g.width;
    height = g.height;
    widths_past = g.widths_past;
    heights_past = g.heights_past;
    added = counted_more g.added (added_in s.job.width heights (image s) (next_image s)) (added (image s) (next_image s))
        (λ i l. added_past s.job.width heights (image s) (next_image s) i (omega (arith, count)))
        (parts_added s.job.width heights (image s) (next_image s) few (good_rows g (image s) now.sized));
    removed = counted_more g.removed (removed_in s.job.width heights (image s) (next_image s)) (removed (image s) (next_image s))
        (λ i l. removed_past s.job.width heights (image s) (next_image s) i (omega (arith, count)))
        (parts_removed s.job.width heights (image s) (next_image s) few (good_rows g (image s) now.sized));
  }
