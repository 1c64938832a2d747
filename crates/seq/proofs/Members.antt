-- Lists and tables, element by element.
--     and_cong, not_some               truth values and options
--     any_join, any_keep, any_false    `any` of a join, of what is kept, and where it fails
--     all_both, all_get_d, all_at       `all` of two tests together, and at an element
--     all_tab                          of a table
--     map_ext, get_d_map, take_place    an image by elements, its element, and where an element of a part stands
--     count_tab, count_add             counting over a table, and over the first m + n numbers
--     drop_take                        what is left of a front behind a shorter one
-- Assumes nothing.
use Rattle.std.specs.Prelude.{Option, None, Some, is_some}
use mathlib.Core.Bool.{Bool, true, false, cond, ◌&&◌, ◌||◌}
use mathlib.Core.List.Memᴰ
use mathlib.Core.List.{List, [], ◌∷◌, map, Memᴰ}
use mathlib.Core.Logic.{⊎_elim}
use mathlib.Core.Path.{◌≡◌, refl, sym, ap, ap₂, ◌∙◌}
use Prim.Native.Nat.{ℕ, zero, suc, ◌+◌, ◌<◌}
use native.Mathlib.Nat.{zero-add, suc-add, not-suc-le-zero, le_of_suc-le-suc}
use native.Mathlib.Omega.{arith}
use lib.ListN.{length, get_or, take, drop}
use lib.Seq.{take-nil}
use Rattle.seq.specs.Lists.{any, all, keep, one, count, join}
use Rattle.seq.specs.Tab.{tab, up_to}
use Rattle.seq.proofs.Fronts.{any_append}
use Rattle.seq.proofs.Lists.{clash, not_true_false, and_left, and_right, and_intro, any_intro, count_append}
use Rattle.seq.proofs.Stores.{tab_add}

-- the second test counts only where the first holds
pub and_cong : (a : Bool) {b b' : Bool} → (a ≡ true → b ≡ b') → (a && b) ≡ (a && b')
and_cong true h = h refl
and_cong false h = refl

and_swap : (a b c d : Bool) → ((a && b) && (c && d)) ≡ ((a && c) && (b && d))
and_swap true true c d = refl
and_swap true false true d = refl
and_swap true false false d = refl
and_swap false b c d = refl

pub not_some : {A : Type 0} (o : Option A) → is_some o ≡ false → o ≡ None
not_some None h = refl
not_some (Some a) h = clash refl h

module _ {ℓ} {A : Type ℓ} where
  pub any_join : (p : A → Bool) (ls : List (List A)) → any p (join ls) ≡ any (any p) ls
  any_join p [] = refl
  any_join p (l ∷ ls) = any_append p l (join ls) ∙ ap (λ b. any p l || b) (any_join p ls)

  pub any_keep : (p q : A → Bool) (l : List A) → any p (keep q l) ≡ any (λ a. q a && p a) l
  any_keep p q [] = refl
  any_keep p q (x ∷ l) = step (q x) (any_keep p q l)
    where
      step : (b : Bool) → any p (keep q l) ≡ any (λ a. q a && p a) l
          → any p (cond b (x ∷ keep q l) (keep q l)) ≡ ((b && p x) || any (λ a. q a && p a) l)
      step true e = ap (λ b. p x || b) e
      step false e = e

  pub any_false : (p : A → Bool) {a : A} {l : List A} → any p l ≡ false → Memᴰ a l → p a ≡ false
  any_false p {a} h m = not_true_false (p a) (λ e. clash (any_intro p m e) h)

  pub all_both : (p q : A → Bool) (l : List A) → (all p l && all q l) ≡ all (λ a. p a && q a) l
  all_both p q [] = refl
  all_both p q (x ∷ l) = and_swap (p x) (all p l) (q x) (all q l) ∙ ap (λ b. (p x && q x) && b) (all_both p q l)

  pub all_get_d : (p : A → Bool) (l : List A) (d : A) → all p l ≡ true → p d ≡ true → (i : ℕ) → p (get_or l i d) ≡ true
  all_get_d p [] d h e i = e
  all_get_d p (x ∷ l) d h e zero = and_left (p x) (all p l) h
  all_get_d p (x ∷ l) d h e (suc i) = all_get_d p l d (and_right (p x) (all p l) h) e i

  pub all_at : (p : A → Bool) (l : List A) (d : A) → all p l ≡ true → (i : ℕ) → i < length l → p (get_or l i d) ≡ true
  all_at p [] d h i l = absurd (not-suc-le-zero l)
  all_at p (x ∷ l) d h zero i = and_left (p x) (all p l) h
  all_at p (x ∷ l) d h (suc i) b = all_at p l d (and_right (p x) (all p l) h) i (le_of_suc-le-suc b)

  pub all_tab : (p : A → Bool) (f : ℕ → A) (n : ℕ) → ((k : ℕ) → k < n → p (f k) ≡ true) → all p (tab f n) ≡ true
  all_tab p f zero h = refl
  all_tab p f (suc n) h = and_intro (h zero (omega arith)) (all_tab p (λ k. f (suc k)) n (λ k l. h (suc k) (omega arith)))

  pub map_ext {κ} : {B : Type κ} (f g : A → B) (l : List A) → ((a : A) → Memᴰ a l → f a ≡ g a) → map f l ≡ map g l
  map_ext f g [] h = refl
  map_ext f g (x ∷ l) h = ap₂ ◌∷◌ (h x (Memᴰ.head refl)) (map_ext f g l (λ a m. h a (Memᴰ.tail m)))

  pub get_d_map : (f : A → A) (l : List A) (i : ℕ) (d : A) → i < length l → get_or (map f l) i d ≡ f (get_or l i d)
  get_d_map f [] i d h = absurd (not-suc-le-zero h)
  get_d_map f (x ∷ l) zero d h = refl
  get_d_map f (x ∷ l) (suc i) d h = get_d_map f l i d (le_of_suc-le-suc h)

  pub take_place : (n : ℕ) (l : List A) (d : A) {a : A} → Memᴰ a (take n l) → (k : ℕ) × (k < n) × (a ≡ get_or l k d)
  take_place zero l d m = absurd (Memᴰ.not-nil m)
  take_place (suc n) [] d m = absurd (Memᴰ.not-nil m)
  take_place (suc n) (x ∷ l) d {a} m = ⊎_elim (λ e. (zero, omega arith, e)) (λ k. later (take_place n l d k)) (Memᴰ.cases_cons m)
    where
      later : (k : ℕ) × (k < n) × (a ≡ get_or l k d) → (k : ℕ) × (k < suc n) × (a ≡ get_or (x ∷ l) k d)
      later (k, i, e) = (suc k, omega arith, e)

  count_tab_of : (p : A → Bool) (f : ℕ → A) (g : ℕ → ℕ) (n : ℕ) → count p (tab (λ k. f (g k)) n) ≡ count (λ i. p (f i)) (tab g n)
  count_tab_of p f g zero = refl
  count_tab_of p f g (suc n) = ap (λ m. one (p (f (g zero))) + m) (count_tab_of p f (λ k. g (suc k)) n)

  pub count_tab : (p : A → Bool) (f : ℕ → A) (n : ℕ) → count p (tab f n) ≡ count (λ i. p (f i)) (up_to n)
  unfolding up_to
  count_tab p f n = count_tab_of p f (λ k. k) n

pub count_add : (p : ℕ → Bool) (m n : ℕ) → count p (up_to (m + n)) ≡ count p (up_to m) + count (λ i. p (m + i)) (up_to n)
unfolding up_to
count_add p m n =
    ap (count p) (tab_add (λ k. k) m n)
    ∙ count_append p (tab (λ k. k) m) (tab (λ k. m + k) n)
    ∙ ap (λ (x : ℕ). count p (up_to m) + x) (count_tab p (λ k. m + k) n)

pub drop_take {ℓ} : {A : Type ℓ} (n m : ℕ) (l : List A) → drop n (take (n + m) l) ≡ take m (drop n l)
drop_take zero m l = ap (λ (k : ℕ). take k l) (zero-add m)
drop_take (suc n) m [] = rw (suc-add n m) (sym (take-nil m))
drop_take (suc n) m (x ∷ l) = rw (suc-add n m) (drop_take n m l)
