-- A single image as the one part of a record.
--     One j                 the record has one part, as high as the image, and 16 places for counts
--     one_height, one-job   so it is where 14 leaves one part
--     one_none              no count more
--     shown_added, shown_removed      what a pass changes in the one part is what it changes in the image
--     one_counts            a pass more
--     place_few             a place of counts is at most their sum
--     one_fit               the sums of the counts do not wrap
-- Assumes nothing.
use mathlib.Core.List.{List, [], ◌∷◌}
use mathlib.Core.Path.{◌≡◌, refl, sym, ap, ap₂, ◌∙◌}
use Prim.Native.Nat.{ℕ, zero, suc, ◌+◌, ◌*◌, ◌/◌, ◌%◌, ◌≤◌, ◌<◌}
use native.Mathlib.Nat.{add-zero}
use native.Mathlib.Omega.{arith}
use lib.ListN.{length, get_or, take}
use lib.Seq.{take_all, take-take}
use Rattle.history.specs.declared.Job.{Job}
use Rattle.history.proofs.Parts.{GoodParts}
use Rattle.image.specs.declared.strip.PartCounts.{PartCounts}
use Rattle.image.specs.Strip.{max_parts, max_strip, padded, heights_of}
use Rattle.image.proofs.Parts.{first_part, part_ends}
use Rattle.image.proofs.Shapes.{shape_count, padded_whole}
use Rattle.job.specs.Code.Passes.{of_one, Fit, Places}
use Rattle.operator.specs.Image.{added, removed}
use Rattle.operator.specs.Parts.{added_in, removed_in, part_counts, summed}
use Rattle.operator.specs.Pass.{pass_at, pass}
use Rattle.operator.proofs.PartCounts.{added_past, removed_past}
use Rattle.seq.proofs.Tab.{length_tab, get_d_tab, tab_ext}
use Rattle.seq.specs.Lists.{sum_of}
use Rattle.seq.specs.Tab.{tab}
use Rattle.table.specs.declared.Table.{Table}

pub record One (j : Job) : Type 0 where
  pub heights : heights_of j.strip ≡ j.height ∷ []
  pub places : Places j

single : (l : List ℕ) → length l ≡ 1 → l ≡ sum_of l ∷ []
single [] e = absurd (omega arith)
single (a ∷ []) e = ap (λ (n : ℕ). n ∷ []) (sym (add-zero a))
single (a ∷ b ∷ l) e = absurd (omega arith)

pub one_height : {j : Job} → GoodParts j → j.strip.parts ≡ 1 → heights_of j.strip ≡ j.height ∷ []
one_height {j} g e = single (heights_of j.strip) (shape_count g.shape ∙ e) ∙ ap (λ (n : ℕ). n ∷ []) (sym g.height)

none_at : (i : ℕ) → i < max_parts → get_or (padded (0 ∷ [])) i 0 ≡ 0
none_at i l = get_d_tab (λ k. get_or (0 ∷ []) k 0) max_parts i 0 l ∙ zeros i
  where
    zeros : (k : ℕ) → ◌≡◌ {A = ℕ} (get_or (0 ∷ []) k 0) 0
    zeros zero = refl
    zeros (suc k) = refl

one_more : (xs : List ℕ) → length xs ≡ max_parts → tab (λ i. get_or xs i 0 + get_or (padded (0 ∷ [])) i 0) max_parts ≡ xs
one_more xs e =
    tab_ext (λ i. get_or xs i 0 + get_or (padded (0 ∷ [])) i 0) (λ i. get_or xs i 0) max_parts (λ i l. omega (arith, none_at i l)) ∙ padded_whole xs e

pub one_none : {j : Job} → One j → summed j.counts (of_one 0 0) ≡ j.counts
unfolding summed
one_none {j} o = ap₂ (λ (a d : List ℕ). record { added = a; removed = d }) (one_more j.counts.added o.places.added) (one_more j.counts.removed o.places.removed)

-- the image that a pass sees is its one part, and so is the next one
module _ (t : Table) (w h : ℕ) (here px : List ℕ) where
  abbrev shown : List ℕ
  shown = take (w * h) here

  abbrev next : List ℕ
  next = pass t w h px

  whole : take (w * h) shown ≡ shown
  whole = take-take (w * h) (w * h) here (omega arith)

  whole_next : take (w * h) next ≡ next
  unfolding pass
  whole_next = take_all (w * h) next (omega (arith, length_tab (λ i. pass_at t w h px (i / w) (i % w)) (w * h)))

  pub shown_added : added_in w (h ∷ []) shown next 0 ≡ added shown next
  shown_added = ap₂ added (first_part w h [] shown ∙ whole) (first_part w h [] next ∙ whole_next)

  pub shown_removed : removed_in w (h ∷ []) shown next 0 ≡ removed shown next
  shown_removed = ap₂ removed (first_part w h [] shown ∙ whole) (first_part w h [] next ∙ whole_next)

-- a count more in the first place
count_more : (xs : List ℕ) (a n : ℕ) (f : ℕ → ℕ) → f 0 ≡ n → ((i : ℕ) → 1 ≤ i → f i ≡ 0)
    → tab (λ i. get_or (tab (λ k. get_or xs k 0 + get_or (padded (a ∷ [])) k 0) max_parts) i 0 + get_or (tab f max_parts) i 0) max_parts
    ≡ tab (λ i. get_or xs i 0 + get_or (padded ((a + n) ∷ [])) i 0) max_parts
count_more xs a n f e z = tab_ext _ _ max_parts at
  where
    base : ℕ → ℕ
    base k = get_or xs k 0 + get_or (padded (a ∷ [])) k 0

    at : (i : ℕ) → i < max_parts → get_or (tab base max_parts) i 0 + get_or (tab f max_parts) i 0 ≡ get_or xs i 0 + get_or (padded ((a + n) ∷ [])) i 0
    at zero l = omega (arith, get_d_tab base max_parts 0 0 l, get_d_tab f max_parts 0 0 l, e)
    at (suc i) l =
        omega (
          arith,
          get_d_tab base max_parts (suc i) 0 l,
          get_d_tab f max_parts (suc i) 0 l,
          z (suc i) (omega arith),
          get_d_tab (λ k. get_or (a ∷ []) k 0) max_parts (suc i) 0 l,
          get_d_tab (λ k. get_or ((a + n) ∷ []) k 0) max_parts (suc i) 0 l,
        )

pub one_counts : (t : Table) (w h : ℕ) (here px : List ℕ) (c : PartCounts) (a d : ℕ)
    → summed (summed c (of_one a d)) (part_counts w (h ∷ []) (take (w * h) here) (pass t w h px))
    ≡ summed c (of_one (a + added (take (w * h) here) (pass t w h px)) (d + removed (take (w * h) here) (pass t w h px)))
unfolding summed part_counts
one_counts t w h here px c a d =
    ap₂ (λ (x y : List ℕ). record { added = x; removed = y })
    (count_more c.added a _ (added_in w (h ∷ []) (take (w * h) here) (pass t w h px)) (shown_added t w h here px)
    (λ i l. added_past w (h ∷ []) (take (w * h) here) (pass t w h px) i (omega arith)))
    (count_more c.removed d _ (removed_in w (h ∷ []) (take (w * h) here) (pass t w h px)) (shown_removed t w h here px)
    (λ i l. removed_past w (h ∷ []) (take (w * h) here) (pass t w h px) i (omega arith)))

pub place_few : (xs : List ℕ) (i : ℕ) → i < max_parts → get_or xs i 0 ≤ sum_of (padded xs)
place_few xs i l =
    let all = length_tab (λ k. get_or xs k 0) max_parts in
    omega (arith, get_d_tab (λ k. get_or xs k 0) max_parts i 0 l, part_ends (padded xs) i (omega (arith, all)))

-- the first place has the count itself
first_few : (a i : ℕ) → i < max_parts → get_or (padded (a ∷ [])) i 0 ≤ a
first_few a i l = omega (arith, place_few (padded (a ∷ [])) i l)

pub one_fit : {j : Job} → GoodParts j → (a d : ℕ) → j.added + a ≤ max_strip → j.removed + d ≤ max_strip → Fit j.counts (of_one a d)
one_fit {j} g a d x y = record {
  added = λ i l. omega (arith, place_few j.counts.added i l, g.added.sum, first_few a i l);
  removed = λ i l. omega (arith, place_few j.counts.removed i l, g.removed.sum, first_few d i l);
}
