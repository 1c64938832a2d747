-- The laws of joined lists, of the front of a table, and of a list that is filled part of the way.
--     map_append, join_append      of two lists
--     join_up_to                    one list more
--     take_tab, drop_tab           the front of a table, and what is behind it
--     zeros_past, past_zeros       a list has zeros from a place on
--     sum_tab                      the sum of a table of sums
--     fill_past, fill_rest         behind what is filled the list is the old one; a filled list that agrees with its table there
-- Assumes nothing.
use mathlib.Core.Bool.{true}
use mathlib.Core.List.{List, [], ◌∷◌, ◌++◌, map, append-nil, append_assoc}
use mathlib.Core.Logic.{⊎_elim}
use mathlib.Core.Path.{◌≡◌, refl, sym, ap, ◌∙◌}
use Prim.Native.Nat.{ℕ, zero, suc, ◌+◌, ◌-◌, ◌≤◌, ◌<◌}
use native.Mathlib.Nat.{not-suc-le-zero, le_of_suc-le-suc}
use native.Mathlib.Omega.{arith}
use borrow.Author.Tests.{eqb-true}
use lib.Dec.{eqb}
use lib.ListN.{length, get_or, take, drop}
use lib.Seq.{get_or-append-add, get_or-drop}
use Rattle.seq.specs.Lists.{all, join, sum_of}
use Rattle.seq.specs.Tab.{tab, up_to, Filled}
use Rattle.seq.proofs.Members.{all_get_d, all_tab}
use Rattle.seq.proofs.Tab.{length_tab, tab_suc, tab_ext, tab_of, fill_length, fill_at}
use Rattle.seq.proofs.Tests.{lt_or_le}

pub map_append {ℓ κ} : {A : Type ℓ} {B : Type κ} (f : A → B) (l k : List A) → map f (l ++ k) ≡ map f l ++ map f k
map_append f [] k = refl
map_append {B = B} f (a ∷ l) k = ap (λ (t : List B). f a ∷ t) (map_append f l k)

module _ {ℓ} {A : Type ℓ} where
  pub join_append : (ls ks : List (List A)) → join (ls ++ ks) ≡ join ls ++ join ks
  join_append [] ks = refl
  join_append (l ∷ ls) ks = ap (λ (t : List A). l ++ t) (join_append ls ks) ∙ sym (append_assoc l (join ls) (join ks))

  pub join_up_to : (g : ℕ → List A) (k : ℕ) → join (map g (up_to (suc k))) ≡ join (map g (up_to k)) ++ g k
  unfolding up_to
  join_up_to g k =
      ap (λ (t : List ℕ). join (map g t)) (tab_suc (λ j. j) k)
      ∙ ap join (map_append g (tab (λ j. j) k) (k ∷ []))
      ∙ join_append (map g (tab (λ j. j) k)) (g k ∷ [])
      ∙ ap (λ (t : List A). join (map g (tab (λ j. j) k)) ++ t) (append-nil (g k))

  pub take_tab : (f : ℕ → A) (n m : ℕ) → n ≤ m → take n (tab f m) ≡ tab f n
  take_tab f zero m h = refl
  take_tab f (suc n) zero h = absurd (not-suc-le-zero h)
  take_tab f (suc n) (suc m) h = ap (λ (t : List A). f zero ∷ t) (take_tab (λ k. f (suc k)) n m (le_of_suc-le-suc h))

  pub drop_tab : (f : ℕ → A) (n m : ℕ) → drop n (tab f m) ≡ tab (λ k. f (n + k)) (m - n)
  drop_tab f zero m =
      let all : m ≡ m - zero = omega arith in
      tab_ext f (λ k. f (zero + k)) m (λ k l. ap f (omega arith)) ∙ ap (tab (λ k. f (zero + k))) all
  drop_tab f (suc n) zero = let none : zero ≡ zero - suc n = omega arith in ap (tab (λ k. f (suc n + k))) none
  drop_tab f (suc n) (suc m) =
      let less : m - n ≡ suc m - suc n = omega arith in
      drop_tab (λ k. f (suc k)) n m ∙ tab_ext (λ k. f (suc (n + k))) (λ k. f (suc n + k)) (m - n) (λ k l. ap f (omega arith))
      ∙ ap (tab (λ k. f (suc n + k))) less

  pub fill_past : {f : ℕ → A} {d l : List A} {n : ℕ} (i : ℕ) (z : A) → Filled f d l n → n ≤ i → get_or l i z ≡ get_or d i z
  fill_past {f} {d} {l} {n} i z r h =
      rw r.filled
      (ap (λ (k : ℕ). get_or (tab f n ++ drop n d) k z) place
      ∙ get_or-append-add (tab f n) (drop n d) (i - n) z
      ∙ get_or-drop n d (i - n) z
      ∙ ap (λ (k : ℕ). get_or d k z) again)
    where
      place : i ≡ length (tab f n) + (i - n)
      place = omega (arith, length_tab f n)

      again : n + (i - n) ≡ i
      again = omega arith

  pub fill_rest : {f : ℕ → A} {d l : List A} {n : ℕ} (z : A) → Filled f d l n → ((i : ℕ) → n ≤ i → i < length d → get_or d i z ≡ f i) → l ≡ tab f (length d)
  fill_rest {f} {d} {l} {n} z r h =
      tab_of f l (length d) z (fill_length r) (λ i m. ⊎_elim (λ (b : i < n). fill_at i z r b) (λ (b : n ≤ i). fill_past i z r b ∙ h i b m) (lt_or_le i n))

pub zeros_past : (n : ℕ) (l : List ℕ) → all (eqb 0) (drop n l) ≡ true → (i : ℕ) → n ≤ i → get_or l i 0 ≡ 0
zeros_past n l e i h =
    let place : n + (i - n) ≡ i = omega arith in
    sym (eqb-true 0 (get_or (drop n l) (i - n) 0) (all_get_d (eqb 0) (drop n l) 0 e refl (i - n)) ∙ get_or-drop n l (i - n) 0 ∙ ap (λ k. get_or l k 0) place)

pub past_zeros : (f : ℕ → ℕ) (n m : ℕ) → ((i : ℕ) → n ≤ i → i < m → f i ≡ 0) → all (eqb 0) (drop n (tab f m)) ≡ true
past_zeros f n m h =
    ap (all (eqb 0)) (drop_tab f n m) ∙ all_tab (eqb 0) (λ k. f (n + k)) (m - n) (λ k l. ap (eqb 0) (h (n + k) (omega arith) (omega arith)))

pub sum_tab : (f g : ℕ → ℕ) (n : ℕ) → sum_of (tab (λ i. f i + g i) n) ≡ sum_of (tab f n) + sum_of (tab g n)
sum_tab f g zero = refl
sum_tab f g (suc n) = omega (arith, sum_tab (λ k. f (suc k)) (λ k. g (suc k)) n)
