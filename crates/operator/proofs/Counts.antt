-- Counting the changes of a pass, and of any number of passes.
--     differs_equal, equal_differs        two lists of one length are equal exactly when no pixel differs
--     change_one, balance_one             one pixel's part in each count
--     black_up_to                          black pixels counted by their index
--     gains a b i, loses a b i            pixel i goes from 0 to 1, from 1 to 0
--     changed_sum                         added and removed together are the pixels that differ
--     balance_shows, balance              black after is black before plus added less removed
--     differs_any, unchanged_shows        a pixel that differs is added or removed
--     unchanged_equal, equal_unchanged    two images are equal exactly when nothing is added or removed
--     sites, shown, total_sum, changes, passing     the changes of n passes, and the passes that change a pixel
--     all_counts                          the theorem
-- Assumes nothing.
use Rattle.std.specs.Prelude.{Ok}
use mathlib.Core.Bool.{Bool, true, false, not, ◌&&◌}
use mathlib.Core.List.{List, Memᴰ}
use mathlib.Core.Path.{◌≡◌, refl, sym, ap, ◌∙◌}
use Prim.Native.Nat.{ℕ, zero, suc, ◌+◌, ◌*◌, ◌≤◌}
use native.Mathlib.Omega.{arith}
use lib.Dec.{eqb}
use lib.ListN.{length, get_or}
use lib.Seq.{ext_get_or}
use borrow.Author.Tests.{eqb-true, eq-eqb, not-false}
use Rattle.operator.specs.Image.{IsImage, black, added, removed, differs_at, differs}
use Rattle.operator.specs.Pass.{passes}
use Rattle.operator.specs.Counts.{step_added, step_removed, AllCounts}
use Rattle.morph.specs.Operator as operator
use Rattle.morph.specs.Bound.{differing, total}
use Rattle.morph.specs.System.{Image}
use Rattle.morph.proofs.Bound.{bound}
use Rattle.seq.specs.Lists.{any, one, count, same}
use Rattle.seq.specs.Tab.{up_to}
use Rattle.seq.proofs.Lists.{not_true_false, same_intro, any_none, any_ext, any_count, count_ext, count_le, count_none, count_sum}
use Rattle.seq.proofs.Members.{any_false, count_tab}
use Rattle.seq.proofs.Tab.{tab_get_d, up_to_intro, up_to_elim, length_up_to}
use Rattle.table.specs.declared.Table.{Table}
use Rattle.table.specs.Record.{record_verdict}
use Rattle.operator.proofs.Image.{black_of, Shows, image_shows, differs_shows}
use Rattle.operator.proofs.Operator.{passes_shows, pass_image, passes_image}
use Rattle.operator.proofs.System.{system, lawful}

pub differs_equal : (a b : List ℕ) → length a ≡ length b → differs a b ≡ false → a ≡ b
unfolding differs
differs_equal a b e d = ext_get_or 0 a b e (λ i l. eqb-true _ _ (not-false _ (any_false (differs_at a b) d (up_to_intro l))))

pub equal_differs : (a b : List ℕ) → a ≡ b → differs a b ≡ false
unfolding differs
equal_differs a b e = any_none (differs_at a b) (up_to (length a)) (λ i m. ap not (eq-eqb _ _ (ap (λ l. get_or l i 0) e)))

change_one : (x y : Bool)
    → one (eqb (one x) 0 && eqb (one y) 1) + one (eqb (one x) 1 && eqb (one y) 0) ≡ one (not (same x y)) + one false
change_one true true = refl
change_one true false = refl
change_one false true = refl
change_one false false = refl

balance_one : (x y : Bool)
    → one (eqb (one y) 1) + one (eqb (one x) 1 && eqb (one y) 0) ≡ one (eqb (one x) 1) + one (eqb (one x) 0 && eqb (one y) 1)
balance_one true true = refl
balance_one true false = refl
balance_one false true = refl
balance_one false false = refl

black_up_to : (a : List ℕ) → black a ≡ count (λ i. eqb (get_or a i 0) 1) (up_to (length a))
unfolding black
black_up_to a = ap (count (λ v. eqb v 1)) (sym (tab_get_d a 0)) ∙ count_tab (λ v. eqb v 1) (λ i. get_or a i 0) (length a)

abbrev gains : List ℕ → List ℕ → ℕ → Bool
gains a b i = eqb (get_or a i 0) 0 && eqb (get_or b i 0) 1

abbrev loses : List ℕ → List ℕ → ℕ → Bool
loses a b i = eqb (get_or a i 0) 1 && eqb (get_or b i 0) 0

module _ {w h : ℕ} {a b : List ℕ} {X Y : Image ℕ} (s : Shows w h a X) (t : Shows w h b Y) where
  pub changed_sum : added a b + removed a b ≡ differing X Y (up_to (w * h))
  unfolding added removed differing
  changed_sum =
      rw s.pixels
      (count_sum (gains a b) (loses a b) (λ i. not (same (X i) (Y i))) (λ i. false) (up_to (w * h)) at_pixel
      ∙ omega (arith, count_none (λ i. false) (up_to (w * h)) (λ i m. refl)))
    where
      at_pixel : (i : ℕ) → Memᴰ i (up_to (w * h)) → one (gains a b i) + one (loses a b i) ≡ one (not (same (X i) (Y i))) + one false
      at_pixel i m = let l = up_to_elim (w * h) m in rw (s.value i l, t.value i l) (change_one (X i) (Y i))

  pub balance_shows : black b + removed a b ≡ black a + added a b
  unfolding added removed
  balance_shows =
      rw (black_up_to a, black_up_to b, s.pixels, t.pixels)
      (count_sum (λ i. eqb (get_or b i 0) 1) (loses a b) (λ i. eqb (get_or a i 0) 1) (gains a b) (up_to (w * h)) at_pixel)
    where
      at_pixel : (i : ℕ) → Memᴰ i (up_to (w * h))
          → one (eqb (get_or b i 0) 1) + one (loses a b i) ≡ one (eqb (get_or a i 0) 1) + one (gains a b i)
      at_pixel i m = let l = up_to_elim (w * h) m in rw (s.value i l, t.value i l) (balance_one (X i) (Y i))

  -- a pixel differs in the lists where it does in what they show
  differs_any : differs a b ≡ any (λ i. not (same (X i) (Y i))) (up_to (w * h))
  unfolding differs
  differs_any = rw s.pixels (any_ext _ _ (up_to (w * h)) (λ i m. differs_shows s t i (up_to_elim (w * h) m)))

  -- where something differs, something is added or removed
  unchanged_shows : added a b + removed a b ≡ 0 → differs a b ≡ false
  unfolding differing
  unchanged_shows e =
      differs_any
      ∙ not_true_false _ (λ k. omega (arith, any_count (λ i. not (same (X i) (Y i))) (up_to (w * h)), ap one k, changed_sum))

module _ {w h : ℕ} {a b : List ℕ} (m : IsImage w h a) (n : IsImage w h b) where
  pub balance : black b + removed a b ≡ black a + added a b
  balance = balance_shows (image_shows m) (image_shows n)

  pub unchanged_equal : added a b + removed a b ≡ 0 → a ≡ b
  unchanged_equal e = differs_equal a b (m.sized ∙ sym n.sized) (unchanged_shows (image_shows m) (image_shows n) e)

  pub equal_unchanged : a ≡ b → added a b + removed a b ≡ 0
  unfolding differing
  equal_unchanged e =
      changed_sum (image_shows m) (image_shows n)
      ∙ count_none _ (up_to (w * h)) (λ i k. ap not (same_intro (ap (λ l. black_of l i) e)))

module _ (t : Table) (w h : ℕ) (img : List ℕ) (ok : record_verdict t ≡ Ok tt) (m : IsImage w h img) where
  -- what n passes show
  sites : ℕ → Image ℕ
  sites n = operator.iterate (system t w h) n (black_of img)

  shown : (n : ℕ) → Shows w h (passes t w h n img) (sites n)
  unfolding sites
  shown = passes_shows t (image_shows m)

  -- by induction on the passes
  total_sum : (n : ℕ) → total (step_added t w h img) n + total (step_removed t w h img) n
      ≡ total (λ i. differing (sites i) (sites (suc i)) (up_to (w * h))) n
  total_sum zero = refl
  total_sum (suc n) = omega (arith, total_sum n, changed_sum (shown n) (shown (suc n)))

  changes : (n : ℕ) → total (step_added t w h img) n + total (step_removed t w h img) n ≤ w * h
  unfolding differing sites
  changes n =
      omega (
        arith,
        total_sum n,
        (bound (lawful t w h ok)).distance (black_of img) (up_to (w * h)) n,
        count_le (λ i. not (same (black_of img i) (sites n i))) (up_to (w * h)),
        length_up_to (w * h),
      )

  passing : (n : ℕ) → count (λ i. differs (passes t w h i img) (passes t w h (suc i) img)) (up_to n) ≤ w * h
  unfolding operator.changes sites
  passing n =
      rw (count_ext _ _ (up_to n) (λ i k. differs_any (shown i) (shown (suc i))))
      (omega (arith, (bound (lawful t w h ok)).passes (black_of img) (up_to (w * h)) n, length_up_to (w * h)))

pub all_counts : AllCounts
all_counts t w h img ok m = record {
  image = passes_image t m;
  balance = balance m (pass_image t m);
  changes = changes t w h img ok m;
  bound = passing t w h img ok m;
}
