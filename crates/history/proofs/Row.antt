-- A row of images, from the last back to the first, each the pass of the one before and different from it.
--     Row t w h img earlier       such a row
--     row_passes_lem                  the last image is the first after as many passes as there are steps
--     row_sum                     a sum over the steps is a sum over these passes
--     row_changing                each of these passes changes the image
--     row_stable                  from a stable image there is no step
--     row_image, row_bound, row_changes_lem, row_single, row_balance     the filter's claims, said of the row
-- Assumes nothing.
use Rattle.std.specs.Prelude.{Ok}
use mathlib.Core.Bool.{Bool, true, false}
use mathlib.Core.List.{List, [], ◌∷◌}
use mathlib.Core.Logic.{⊎_elim}
use mathlib.Core.Path.{◌≡◌, refl, sym, ap, ap₂, ◌∙◌}
use Prim.Native.Nat.{ℕ, zero, suc, ◌+◌, ◌*◌, ◌≤◌, ◌<◌}
use native.Mathlib.Omega.{arith}
use lib.ListN.{length}
use Rattle.operator.specs.Image.{IsImage, black, added, removed, differs, differs_at}
use Rattle.operator.specs.Pass.{pass, passes, Stable}
use Rattle.operator.proofs.Counts.{all_counts, equal_differs}
use Rattle.operator.proofs.Rest.{all_rest}
use Rattle.operator.proofs.SingleChange.{single_change}
use Rattle.history.specs.Lists.{oldest, sum_steps}
use Rattle.morph.specs.Bound.{total}
use Rattle.seq.specs.Lists.{one, count}
use Rattle.seq.specs.Tab.{up_to}
use Rattle.seq.proofs.Lists.{clash, either}
use Rattle.seq.proofs.Tab.{count_up_to}
use Rattle.table.specs.declared.Table.{Table}
use Rattle.table.specs.Record.{record_verdict}

pub data Row (t : Table) (w h : ℕ) : List ℕ → List (List ℕ) → Type 0 where
  alone : {img : List ℕ} → Row t w h img []
  next : {img before : List ℕ} {earlier : List (List ℕ)} → img ≡ pass t w h before → differs before img ≡ true → Row t w h before earlier
      → Row t w h img (before ∷ earlier)

-- a total of tests of which none passes, and of which no two pass
total_none : (p : ℕ → Bool) (n : ℕ) → ((i : ℕ) → i < n → p i ≡ false) → total (λ i. one (p i)) n ≡ 0
total_none p zero h = refl
total_none p (suc n) h = omega (arith, total_none p n (λ i l. h i (omega arith)), ap one (h n (omega arith)))

total_one : (p : ℕ → Bool) → ((i j : ℕ) → p i ≡ true → p j ≡ true → i ≡ j) → (n : ℕ) → total (λ i. one (p i)) n ≤ 1
total_one p h zero = omega arith
total_one p h (suc n) = ⊎_elim last (λ e. omega (arith, total_one p h n, ap one e)) (either (p n))
  where
    last : p n ≡ true → total (λ i. one (p i)) (suc n) ≤ 1
    last e = omega (arith, ap one e, total_none p n below)
      where
        below : (i : ℕ) → i < n → p i ≡ false
        below i l = ⊎_elim (λ d. absurd (let q = h i n d e in omega arith)) (λ d. d) (either (p i))

-- f from each image to the next, along the passes from an image
abbrev along : Table → ℕ → ℕ → (List ℕ → List ℕ → ℕ) → List ℕ → ℕ → ℕ
along t w h f img i = f (passes t w h i img) (passes t w h (suc i) img)

module _ {t : Table} {w h : ℕ} where
  pub row_passes_lem : {img : List ℕ} {earlier : List (List ℕ)} → Row t w h img earlier → passes t w h (length earlier) (oldest img earlier) ≡ img
  row_passes_lem alone = refl
  row_passes_lem (next e d r) = ap (pass t w h) (row_passes_lem r) ∙ sym e

  pub row_sum : (f : List ℕ → List ℕ → ℕ) {img : List ℕ} {earlier : List (List ℕ)} → Row t w h img earlier
      → sum_steps f img earlier ≡ total (along t w h f (oldest img earlier)) (length earlier)
  row_sum f alone = refl
  row_sum f (next e d r) = let here = ap₂ f (row_passes_lem r) (row_passes_lem (next e d r)) in omega (arith, row_sum f r, here)

  pub row_changing : {img : List ℕ} {earlier : List (List ℕ)} → Row t w h img earlier
      → count (λ i. differs (passes t w h i (oldest img earlier)) (passes t w h (suc i) (oldest img earlier))) (up_to (length earlier))
      ≡ length earlier
  unfolding up_to
  row_changing alone = refl
  row_changing (next {before = before} {earlier = earlier} e d r) =
      let here = ap₂ differs (row_passes_lem r) (row_passes_lem (next e d r)) ∙ d in
      let first = oldest before earlier in
      omega (arith, count_up_to (λ i. differs (passes t w h i first) (passes t w h (suc i) first)) (length earlier), row_changing r, ap one here)

  -- every image of a row from a stable one is that one, so there is no step
  pub row_stable : record_verdict t ≡ Ok tt → {img : List ℕ} {earlier : List (List ℕ)} → Row t w h img earlier
      → Stable t w h (oldest img earlier) → earlier ≡ []
  row_stable ok alone s = refl
  row_stable ok (next {img = img} {before = before} {earlier = earlier} e d r) s =
      clash d (ap (differs before) (img_first ∙ sym before_first) ∙ equal_differs before before refl)
    where
      stays : (n : ℕ) → passes t w h n (oldest before earlier) ≡ oldest before earlier
      stays n = (all_rest t w h ok).stays (oldest before earlier) 0 n s (omega arith)

      before_first : before ≡ oldest before earlier
      before_first = sym (row_passes_lem r) ∙ stays (length earlier)

      img_first : img ≡ oldest before earlier
      img_first = sym (row_passes_lem (next e d r)) ∙ stays (suc (length earlier))

module _ {t : Table} {w h : ℕ} {img : List ℕ} {earlier : List (List ℕ)} (ok : record_verdict t ≡ Ok tt)
    (r : Row t w h img earlier) (i : IsImage w h (oldest img earlier)) where
  -- every image of a row is an image, if the first is
  pub row_image : IsImage w h img
  row_image = rw (row_passes_lem r) at ((all_counts t w h (oldest img earlier) ok i).image (length earlier))

  -- each step changes the image
  pub row_bound : length earlier ≤ w * h
  row_bound = omega (arith, row_changing r, (all_counts t w h (oldest img earlier) ok i).bound (length earlier))

  pub row_changes_lem : sum_steps added img earlier + sum_steps removed img earlier ≤ w * h
  row_changes_lem =
      omega (arith, row_sum added r, row_sum removed r, (all_counts t w h (oldest img earlier) ok i).changes (length earlier))

  pub row_single : (k : ℕ) → sum_steps (λ a b. one (differs_at a b k)) img earlier ≤ 1
  row_single k =
      let first = oldest img earlier in
      rw (row_sum (λ a b. one (differs_at a b k)) r)
      (total_one (λ n. differs_at (passes t w h n first) (passes t w h (suc n) first) k) (single_change t w h first ok i k)
      (length earlier))

module _ {t : Table} {w h : ℕ} (ok : record_verdict t ≡ Ok tt) where
  -- black in the last and removed over all steps is black in the first and added, step by step
  pub row_balance : {img : List ℕ} {earlier : List (List ℕ)} → Row t w h img earlier → IsImage w h (oldest img earlier)
      → black img + sum_steps removed img earlier ≡ black (oldest img earlier) + sum_steps added img earlier
  row_balance alone i = refl
  row_balance (next {img = img} {before = before} e d r) i =
      rw e (omega (arith, row_balance r i, (all_counts t w h before ok (row_image ok r i)).balance))
