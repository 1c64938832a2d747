-- The laws of tabulation, of the first number that passes a test, and of a list that is filled from the front.
--     length_tab, get_d_tab, tab_suc, tab_ext, tab_get_d    a table's length, an element, one more, by elements, of a list's own elements
--     mem_tab, tab_mem, up_to_intro, up_to_elim             membership in a table and below a bound
--     up_to_test                                           a computed test holds at each number below a bound
--     count_up_to                                          one number more is counted
--     first_at, first_none, first_found, first_nothing    the lowest that passes; none passes; and what each answer says
--     first_ext                                           by elements
--     fill_none, fill_more, fill_length, fill_at, fill_whole     a loop's start, one store, the length, an element on the way, and its end
-- Assumes nothing.
use Rattle.std.specs.Prelude.{Option, None, Some}
use mathlib.Core.Bool.{Bool, true, false}
use mathlib.Core.List.Memᴰ
use mathlib.Core.List.{List, [], ◌∷◌, ◌++◌, append-nil, Memᴰ}
use mathlib.Core.Path.{◌≡◌, refl, sym, ap, ap₂, ◌∙◌, subst}
use Prim.Native.Nat.{ℕ, zero, suc, ◌+◌, ◌<◌, zero-le, suc-le-suc}
use native.Mathlib.Nat.{not-suc-le-zero, le_of_suc-le-suc}
use native.Mathlib.Numerals.{add-one}
use native.Mathlib.Omega.{arith}
use lib.ListN.{length, get_or, drop, set, length-append, length-drop, get_or-append, drop_of_length-le}
use lib.Seq.{drop-cons, set_at, append_snoc}
use Rattle.seq.specs.Tab.{tab, up_to, first, first_or, Filled}
use Rattle.seq.specs.Lists.{all, one, count}
use Rattle.seq.proofs.Lists.{all_elim, count_append}

module _ {ℓ} {A : Type ℓ} where
  pub length_tab : (f : ℕ → A) (n : ℕ) → length (tab f n) ≡ n
  length_tab f zero = refl
  length_tab f (suc n) = ap suc (length_tab (λ k. f (suc k)) n)

  pub get_d_tab : (f : ℕ → A) (n i : ℕ) (d : A) → i < n → get_or (tab f n) i d ≡ f i
  get_d_tab f zero i d h = absurd (not-suc-le-zero h)
  get_d_tab f (suc n) zero d h = refl
  get_d_tab f (suc n) (suc i) d h = get_d_tab (λ k. f (suc k)) n i d (le_of_suc-le-suc h)

  pub tab_suc : (f : ℕ → A) (n : ℕ) → tab f (suc n) ≡ tab f n ++ f n ∷ []
  tab_suc f zero = refl
  tab_suc f (suc n) = ap (λ (l : List A). f zero ∷ l) (tab_suc (λ k. f (suc k)) n)

  pub tab_ext : (f g : ℕ → A) (n : ℕ) → ((k : ℕ) → k < n → f k ≡ g k) → tab f n ≡ tab g n
  tab_ext f g zero h = refl
  tab_ext f g (suc n) h = ap₂ ◌∷◌ (h zero (suc-le-suc zero-le)) (tab_ext (λ k. f (suc k)) (λ k. g (suc k)) n (λ k l. h (suc k) (suc-le-suc l)))

  -- a list is the table of its own elements
  pub tab_get_d : (l : List A) (d : A) → tab (λ k. get_or l k d) (length l) ≡ l
  tab_get_d [] d = refl
  tab_get_d (x ∷ l) d = ap (λ (t : List A). x ∷ t) (tab_get_d l d)

  -- a list of length n with the elements of f is f's table
  pub tab_of : (f : ℕ → A) (l : List A) (n : ℕ) (d : A) → length l ≡ n → ((k : ℕ) → k < n → get_or l k d ≡ f k) → l ≡ tab f n
  tab_of f l n d e h = sym (tab_get_d l d) ∙ rw e (tab_ext (λ k. get_or l k d) f n h)

  pub mem_tab : (f : ℕ → A) {n k : ℕ} → k < n → Memᴰ (f k) (tab f n)
  mem_tab f {n = zero} h = absurd (not-suc-le-zero h)
  mem_tab f {n = suc n} {k = zero} h = Memᴰ.head refl
  mem_tab f {n = suc n} {k = suc k} h = Memᴰ.tail (mem_tab (λ j. f (suc j)) (le_of_suc-le-suc h))

  pub tab_mem : (f : ℕ → A) (n : ℕ) {a : A} → Memᴰ a (tab f n) → (k : ℕ) × (k < n) × (a ≡ f k)
  tab_mem f zero m = absurd (Memᴰ.not-nil m)
  tab_mem f (suc n) {a} m = step (tab_mem (λ k. f (suc k)) n) m
    where
      step : (Memᴰ a (tab (λ k. f (suc k)) n) → (k : ℕ) × (k < n) × (a ≡ f (suc k))) → Memᴰ a (f zero ∷ tab (λ k. f (suc k)) n)
          → (k : ℕ) × (k < suc n) × (a ≡ f k)
      step below (Memᴰ.head e) = (zero, suc-le-suc zero-le, e)
      step below (Memᴰ.tail k) = let w = below k in (suc w.0, suc-le-suc w.1, w.2)

  pub fill_none : (f : ℕ → A) (d : List A) → Filled f d d 0
  fill_none f d = record { within = zero-le; filled = refl }

  pub fill_length : {f : ℕ → A} {d l : List A} {n : ℕ} → Filled f d l n → length l ≡ length d
  fill_length {f} {d} {l} {n} r = ap length r.filled ∙ simp (length-append, length_tab, length-drop) (omega (arith, r.within))

  pub fill_more : {f : ℕ → A} {d l : List A} {n : ℕ} {a : A} → Filled f d l n → n < length d → a ≡ f n → Filled f d (set l n a) (n + 1)
  fill_more {f} {d} {l} {n} {a} r h e = record { within = omega arith; filled = filled }
    where
      stored : set l n a ≡ tab f n ++ f n ∷ drop (suc n) d
      stored = rw (r.filled, e, drop-cons d n (f n) h) (set_at (tab f n) (get_or d n (f n)) (drop (suc n) d) (f n) n (length_tab f n))

      longer : tab f n ++ f n ∷ drop (suc n) d ≡ tab f (suc n) ++ drop (suc n) d
      longer = sym (append_snoc (tab f n) (f n) (drop (suc n) d)) ∙ ap (λ (t : List A). t ++ drop (suc n) d) (sym (tab_suc f n))

      filled : set l n a ≡ tab f (n + 1) ++ drop (n + 1) d
      filled = rw add-one (stored ∙ longer)

  -- an element that the loop has passed
  pub fill_at : {f : ℕ → A} {d l : List A} {n : ℕ} (i : ℕ) (z : A) → Filled f d l n → i < n → get_or l i z ≡ f i
  fill_at {f} {d} {l} {n} i z r h =
      rw r.filled (get_or-append (tab f n) (drop n d) z i (rw (length_tab f n) h) ∙ get_d_tab f n i z h)

  -- the whole of d is filled
  pub fill_whole : {f : ℕ → A} {d l : List A} → Filled f d l (length d) → l ≡ tab f (length d)
  fill_whole {f} {d} {l} r = r.filled ∙ rw (drop_of_length-le d {i = length d} (omega arith)) (append-nil (tab f (length d)))

pub up_to_intro : {k n : ℕ} → k < n → Memᴰ k (up_to n)
unfolding up_to
up_to_intro h = mem_tab (λ j. j) h

pub up_to_elim : {k : ℕ} (n : ℕ) → Memᴰ k (up_to n) → k < n
unfolding up_to
up_to_elim {k} n m = let w = tab_mem (λ j. j) n m in subst (λ (j : ℕ). j < n) (sym w.2) w.1

-- a test that is computed for all numbers below a bound holds at each of them
pub up_to_test : (p : ℕ → Bool) (n : ℕ) → all p (up_to n) ≡ true → (k : ℕ) → k < n → p k ≡ true
up_to_test p n e k l = all_elim p e (up_to_intro l)

pub length_up_to : (n : ℕ) → length (up_to n) ≡ n
unfolding up_to
length_up_to n = length_tab (λ j. j) n

-- the count below n + 1 is the count below n and one more if n passes
pub count_up_to : (p : ℕ → Bool) (n : ℕ) → count p (up_to (suc n)) ≡ count p (up_to n) + one (p n)
unfolding up_to
count_up_to p n = ap (count p) (tab_suc (λ k. k) n) ∙ count_append p (up_to n) (n ∷ []) ∙ omega arith

pub first_none : (p : ℕ → Bool) (n : ℕ) → ((k : ℕ) → k < n → p k ≡ false) → first p n ≡ None
first_none p zero h = refl
first_none p (suc n) h =
    ap₂ first_or (h zero (suc-le-suc zero-le)) (first_none (λ k. p (suc k)) n (λ k l. h (suc k) (suc-le-suc l)))

pub first_ext : (p q : ℕ → Bool) (n : ℕ) → ((k : ℕ) → k < n → p k ≡ q k) → first p n ≡ first q n
first_ext p q zero h = refl
first_ext p q (suc n) h =
    ap₂ first_or (h zero (suc-le-suc zero-le)) (first_ext (λ k. p (suc k)) (λ k. q (suc k)) n (λ k l. h (suc k) (suc-le-suc l)))

pub first_at : (p : ℕ → Bool) (n i : ℕ) → i < n → ((k : ℕ) → k < i → p k ≡ false) → p i ≡ true → first p n ≡ Some i
first_at p zero i l h e = absurd (not-suc-le-zero l)
first_at p (suc n) zero l h e = ap (λ (b : Bool). first_or b (first (λ k. p (suc k)) n)) e
first_at p (suc n) (suc i) l h e =
    ap₂ first_or (h zero (suc-le-suc zero-le)) (first_at (λ k. p (suc k)) n i (le_of_suc-le-suc l) (λ k m. h (suc k) (suc-le-suc m)) e)

-- what is found is below the bound, passes, and nothing lower passes
pub record Found (p : ℕ → Bool) (n i : ℕ) : Type 0 where
  pub below : i < n
  pub passes : p i ≡ true
  pub lowest : (k : ℕ) → k < i → p k ≡ false

pub first_found : (p : ℕ → Bool) (n i : ℕ) → first p n ≡ Some i → Found p n i
first_found p zero i e = absurd (let z : ◌≡◌ {A = ℕ} 0 1 = cc in omega arith)
first_found p (suc n) i e = step (p zero) refl (first (λ k. p (suc k)) n) (first_found (λ k. p (suc k)) n) e
  where
    later : (j : ℕ) → Found (λ k. p (suc k)) n j → p zero ≡ false → (k : ℕ) → k < suc j → p k ≡ false
    later j f z zero l = z
    later j f z (suc k) l = f.lowest k (le_of_suc-le-suc l)

    at : (j : ℕ) → p zero ≡ false → Found (λ k. p (suc k)) n j → suc j ≡ i → Found p (suc n) i
    at j z f q = subst (λ (m : ℕ). Found p (suc n) m) q (record { below = suc-le-suc f.below; passes = f.passes; lowest = later j f z })

    step : (b : Bool) → p zero ≡ b → (o : Option ℕ) → ((j : ℕ) → o ≡ Some j → Found (λ k. p (suc k)) n j) → first_or b o ≡ Some i → Found p (suc n) i
    step true z o below q =
        let r : 0 ≡ i = cc in
        subst (λ (m : ℕ). Found p (suc n) m) r (record { below = suc-le-suc zero-le; passes = z; lowest = λ k l. absurd (not-suc-le-zero l) })
    step false z None below q = absurd (let r : ◌≡◌ {A = ℕ} 0 1 = cc in omega arith)
    step false z (Some j) below q = at j z (below j refl) (cc)

-- where nothing is found, nothing passes
pub first_nothing : (p : ℕ → Bool) (n : ℕ) → first p n ≡ None → (k : ℕ) → k < n → p k ≡ false
first_nothing p zero e k l = absurd (not-suc-le-zero l)
first_nothing p (suc n) e k l = step (p zero) refl (first (λ j. p (suc j)) n) refl e k l (first_nothing (λ j. p (suc j)) n)
  where
    step : (b : Bool) → p zero ≡ b → (o : Option ℕ) → first (λ j. p (suc j)) n ≡ o → first_or b o ≡ None → (k : ℕ) → k < suc n
        → (first (λ j. p (suc j)) n ≡ None → (j : ℕ) → j < n → p (suc j) ≡ false) → p k ≡ false
    step true z o q r k l below = absurd (let c : ◌≡◌ {A = ℕ} 0 1 = cc in omega arith)
    step false z (Some j) q r k l below = absurd (let c : ◌≡◌ {A = ℕ} 0 1 = cc in omega arith)
    step false z None q r zero l below = z
    step false z None q r (suc k) l below = below q k (le_of_suc-le-suc l)
