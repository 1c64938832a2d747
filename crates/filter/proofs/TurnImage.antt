-- The image while its rows are turned one after the other (the module `turn`).
--     before n S                  S in the first n rows; passed: one row more
--     turned_at_lem                   a pixel afterwards
--     turned_ext, turned_same     by the pixels that change; none changes
--     changes S w img u r c       the pixel has the value u and changes
--     changed S w img u n         how many pixels of the first n rows do
--     added_changed, removed_changed     what is added and removed in all
--     changed_none, changed_more  no row, and one row more
-- Assumes nothing.
use mathlib.Core.Bool.{Bool, true, false, cond, ◌&&◌}
use mathlib.Core.List.{List}
use mathlib.Core.Logic.{⊎_elim}
use mathlib.Core.Path.{◌≡◌, refl, sym, ap, ◌∙◌}
use Prim.Native.Nat.{ℕ, zero, suc, ◌+◌, ◌-◌, ◌*◌, ◌≤◌, ◌<◌}
use native.Mathlib.Nat.{zero-mul, mul_comm}
use native.Mathlib.Omega.{arith}
use borrow.Author.Tests.{lt-ltb, le-ltb}
use lib.Dec.{ltb, eqb}
use lib.ListN.{length, get_or}
use Rattle.seq.specs.Lists.{count}
use Rattle.seq.specs.Tab.{up_to}
use Rattle.seq.proofs.Grid.{grid, grid_at, grid_ext, by_cell, cell_at, cell_tab, next_row}
use Rattle.seq.proofs.Lists.{count_ext}
use Rattle.seq.proofs.Members.{count_add}
use Rattle.seq.proofs.Tab.{tab_of, up_to_elim}
use Rattle.seq.proofs.Tests.{lt_or_le}
use Rattle.image.proofs.PixelsOf.{binary_at}
use Rattle.operator.specs.Image.{pixel, IsImage, added, removed}
use Rattle.filter.specs.Code.Turn.{turned}

abbrev pub before : ℕ → (ℕ → ℕ → Bool) → ℕ → ℕ → Bool
before n S r c = ltb r n && S r c

-- a row more makes a difference for that row alone
pub passed : (r n : ℕ) → (r ≡ n → ⊥) → ltb r n ≡ ltb r (n + 1)
passed r n q =
    ⊎_elim (λ a. lt-ltb r n a ∙ sym (lt-ltb r (n + 1) (omega arith))) (λ a. le-ltb r n a ∙ sym (le-ltb r (n + 1) (omega arith))) (lt_or_le r n)

abbrev pub turned_at : (ℕ → ℕ → Bool) → ℕ → List ℕ → ℕ → ℕ → ℕ
turned_at S w img r c = cond (S r c) (1 - pixel w img r c) (pixel w img r c)

abbrev pub changes : (ℕ → ℕ → Bool) → ℕ → List ℕ → ℕ → ℕ → ℕ → Bool
changes S w img u r c = eqb (pixel w img r c) u && S r c

unfoldable pub changed : (ℕ → ℕ → Bool) → ℕ → List ℕ → ℕ → ℕ → ℕ
changed S w img u n = count (grid w (changes S w img u)) (up_to (n * w))

module _ (w h : ℕ) (img : List ℕ) where
  pub turned_at_lem : (S : ℕ → ℕ → Bool) (r c : ℕ) → r < h → c < w → pixel w (turned S w h img) r c ≡ turned_at S w img r c
  unfolding turned
  turned_at_lem S r c p q = cell_tab w (turned_at S w img) 0 (cell_at p q)

  pub turned_ext : (S T : ℕ → ℕ → Bool) → ((r c : ℕ) → r < h → c < w → S r c ≡ T r c) → turned S w h img ≡ turned T w h img
  unfolding turned
  turned_ext S T e =
      grid_ext w h (turned_at S w img) (turned_at T w img)
      (λ r c p q. ap (λ (b : Bool). cond b (1 - pixel w img r c) (pixel w img r c)) (e r c p q))

  pub turned_same : (S : ℕ → ℕ → Bool) → length img ≡ w * h → ((r c : ℕ) → r < h → c < w → S r c ≡ false) → turned S w h img ≡ img
  unfolding turned
  turned_same S s e =
      sym
      (tab_of (grid w (turned_at S w img)) img (w * h) 0 s
      (by_cell w h (λ i. get_or img i 0 ≡ grid w (turned_at S w img) i) (λ r c p q. sym (grid_at w (turned_at S w img) r c q ∙ stays r c (e r c p q)))))
    where
      stays : (r c : ℕ) → S r c ≡ false → turned_at S w img r c ≡ pixel w img r c
      stays r c z = rw z

-- a pixel x of value u goes to the other value
turns_one : (x u : ℕ) (s : Bool) → x ≤ 1 → u ≤ 1 → (eqb x u && eqb (cond s (1 - x) x) (1 - u)) ≡ (eqb x u && s)
turns_one zero zero true p q = refl
turns_one zero zero false p q = refl
turns_one zero (suc zero) s p q = refl
turns_one zero (suc (suc u)) s p q = absurd (omega arith)
turns_one (suc zero) zero s p q = refl
turns_one (suc zero) (suc zero) true p q = refl
turns_one (suc zero) (suc zero) false p q = refl
turns_one (suc zero) (suc (suc u)) s p q = absurd (omega arith)
turns_one (suc (suc x)) u s p q = absurd (omega arith)

module _ (S : ℕ → ℕ → Bool) (w h : ℕ) (img : List ℕ) (i : IsImage w h img) where
  turns : (u : ℕ) → u ≤ 1 → (j : ℕ) → j < w * h
      → (eqb (get_or img j 0) u && eqb (get_or (turned S w h img) j 0) (1 - u)) ≡ grid w (changes S w img u) j
  turns u l =
      by_cell w h (λ j. (eqb (get_or img j 0) u && eqb (get_or (turned S w h img) j 0) (1 - u)) ≡ grid w (changes S w img u) j)
      (λ r c p q. ap (λ (x : ℕ). eqb (pixel w img r c) u && eqb x (1 - u)) (turned_at_lem w h img S r c p q)
      ∙ turns_one (pixel w img r c) u (S r c) (binary_at img (r * w + c) i.binary) l
      ∙ sym (grid_at w (changes S w img u) r c q))

  total : (u : ℕ) → u ≤ 1
      → count (λ j. eqb (get_or img j 0) u && eqb (get_or (turned S w h img) j 0) (1 - u)) (up_to (length img)) ≡ changed S w img u h
  unfolding changed
  total u l =
      rw (i.sized, mul_comm h w)
      (count_ext (λ j. eqb (get_or img j 0) u && eqb (get_or (turned S w h img) j 0) (1 - u)) (grid w (changes S w img u)) (up_to (w * h)) (λ j m. turns u l j (up_to_elim (w * h) m)))

  pub added_changed : added img (turned S w h img) ≡ changed S w img 0 h
  unfolding added
  added_changed = total 0 (omega arith)

  pub removed_changed : removed img (turned S w h img) ≡ changed S w img 1 h
  unfolding removed
  removed_changed = total 1 (omega arith)

module _ (S : ℕ → ℕ → Bool) (w : ℕ) (img : List ℕ) (u : ℕ) where
  pub changed_none : changed S w img u 0 ≡ 0
  unfolding changed up_to
  changed_none = rw (zero-mul w)

  pub changed_more : (n : ℕ) → changed S w img u (n + 1) ≡ changed S w img u n + count (changes S w img u n) (up_to w)
  unfolding changed
  changed_more n =
      ap (λ (k : ℕ). count (grid w (changes S w img u)) (up_to k)) (sym (next_row n w))
      ∙ count_add (grid w (changes S w img u)) (n * w) w
      ∙ ap (λ (x : ℕ). count (grid w (changes S w img u)) (up_to (n * w)) + x)
      (count_ext (λ c. grid w (changes S w img u) (n * w + c)) (changes S w img u n) (up_to w) (λ c m. grid_at w (changes S w img u) n c (up_to_elim w m)))
