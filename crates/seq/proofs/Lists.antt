-- The laws of `any`, `all`, `keep`, `count`, `sum_of` and `join`. Membership is `List.Memᴰ`.
--     any_intro, any_elim, any_none, any_mono, any_ext    a witness gives any, and any a witness; none; by elements
--     all_intro, all_elim, all_mono, all_ext              what holds of each element, both ways; by elements
--     not_any, not_all                                    a negation moves inside
--     keep_intro, keep_elim                               membership in what is kept
--     map_intro, map_elim, join_intro, join_elim          membership in an image and in a join
--     count_ext, count_le, count-mono, count_sum          counting: by elements, at most all, and of two tests together
--     count_some, any_count, count_none                   some passes, none passes
--     count_append, count_set                             of two lists, and after one store
--     sum_of_append, sum_of_set, sum_of_replicate            the sum of two lists, after one store, and of one number n times
-- Assumes nothing.
use mathlib.Core.Bool.{Bool, true, false, cond, not, ◌&&◌, ◌||◌, or-true, true≢false}
use mathlib.Core.List.Memᴰ
use mathlib.Core.List.{List, [], ◌∷◌, ◌++◌, map, Memᴰ}
use mathlib.Core.Logic.{◌⊎◌, inl, inr, ⊎_elim}
use mathlib.Core.Path.{◌≡◌, refl, sym, ap, ap₂, ◌∙◌, subst}
use Prim.Native.Nat.{ℕ, zero, suc, ◌+◌, ◌*◌, ◌≤◌, ◌<◌}
use native.Mathlib.Nat.{not-suc-le-zero, le_of_suc-le-suc, zero-mul, suc-mul, add_comm}
use native.Mathlib.Omega.{arith}
use lib.ListN.{length, get_or, set, replicate}
use Rattle.seq.specs.Lists.{any, all, keep, one, count, sum_of, join, same}

-- a test is not both true and false
pub clash {ℓ} : {P : Type ℓ} {b : Bool} → b ≡ true → b ≡ false → P
clash p q = absurd (true≢false (sym p ∙ q))

-- a test is true or false
pub either : (b : Bool) → (b ≡ true) ⊎ (b ≡ false)
either true = inl refl
either false = inr refl

-- a test that is not true is false
pub not_true_false : (b : Bool) → (b ≡ true → ⊥) → b ≡ false
not_true_false true h = absurd (h refl)
not_true_false false h = refl

-- two tests with the same truth are equal
pub bool_ext : (a b : Bool) → (a ≡ true → b ≡ true) → (b ≡ true → a ≡ true) → a ≡ b
bool_ext true b f g = sym (f refl)
bool_ext false true f g = g refl
bool_ext false false f g = refl

pub and_left : (a b : Bool) → (a && b) ≡ true → a ≡ true
and_left true b h = refl
and_left false b h = h

pub and_right : (a b : Bool) → (a && b) ≡ true → b ≡ true
and_right true b h = h
and_right false b h = clash h refl

pub and_intro : {a b : Bool} → a ≡ true → b ≡ true → (a && b) ≡ true
and_intro p q = ap₂ ◌&&◌ p q

pub or_cases : (a b : Bool) → (a || b) ≡ true → (a ≡ true) ⊎ (b ≡ true)
or_cases true b h = inl refl
or_cases false b h = inr h

pub or_left : {a : Bool} (b : Bool) → a ≡ true → (a || b) ≡ true
or_left b p = ap (λ (t : Bool). t || b) p

pub or_right : (a : Bool) {b : Bool} → b ≡ true → (a || b) ≡ true
or_right a p = ap (λ (t : Bool). a || t) p ∙ or-true a

pub not_eq_true : (b : Bool) → not b ≡ true → b ≡ false
not_eq_true true h = sym h
not_eq_true false h = refl

pub same_true : (a b : Bool) → same a b ≡ true → a ≡ b
same_true true b h = sym h
same_true false true h = h
same_true false false h = refl

pub same_refl : (b : Bool) → same b b ≡ true
same_refl true = refl
same_refl false = refl

-- equal values pass the test
pub same_intro : {a b : Bool} → a ≡ b → same a b ≡ true
same_intro {a} {b} e = ap (same a) (sym e) ∙ same_refl a

pub same_not : (a b : Bool) → same (not a) (not b) ≡ same a b
same_not true true = refl
same_not true false = refl
same_not false true = refl
same_not false false = refl

pub one_le : (b : Bool) → one b ≤ 1
one_le true = omega arith
one_le false = omega arith

module _ {ℓ} {A : Type ℓ} where
  pub any_intro : (p : A → Bool) {a : A} {l : List A} → Memᴰ a l → p a ≡ true → any p l ≡ true
  any_intro p (Memᴰ.head {xs = xs} e) h = or_left (any p xs) (sym (ap p e) ∙ h)
  any_intro p (Memᴰ.tail {x = x} m) h = or_right (p x) (any_intro p m h)

  pub any_elim : (p : A → Bool) (l : List A) → any p l ≡ true → (a : A) × Memᴰ a l × (p a ≡ true)
  any_elim p [] h = clash h refl
  any_elim p (x ∷ l) h = step (or_cases (p x) (any p l) h) (any_elim p l)
    where
      step : (p x ≡ true) ⊎ (any p l ≡ true) → (any p l ≡ true → (a : A) × Memᴰ a l × (p a ≡ true))
          → (a : A) × Memᴰ a (x ∷ l) × (p a ≡ true)
      step (inl e) below = (x, Memᴰ.head refl, e)
      step (inr e) below = let w = below e in (w.0, Memᴰ.tail w.1, w.2)

  pub all_elim : (p : A → Bool) {a : A} {l : List A} → all p l ≡ true → Memᴰ a l → p a ≡ true
  all_elim p h (Memᴰ.head {x = x} {xs = xs} e) = ap p e ∙ and_left (p x) (all p xs) h
  all_elim p h (Memᴰ.tail {x = x} {xs = xs} m) = all_elim p (and_right (p x) (all p xs) h) m

  pub all_intro : (p : A → Bool) (l : List A) → ((a : A) → Memᴰ a l → p a ≡ true) → all p l ≡ true
  all_intro p [] h = refl
  all_intro p (x ∷ l) h = and_intro (h x (Memᴰ.head refl)) (all_intro p l (λ a m. h a (Memᴰ.tail m)))

  pub any_none : (p : A → Bool) (l : List A) → ((a : A) → Memᴰ a l → p a ≡ false) → any p l ≡ false
  any_none p [] h = refl
  any_none p (x ∷ l) h = ap₂ ◌||◌ (h x (Memᴰ.head refl)) (any_none p l (λ a m. h a (Memᴰ.tail m)))

  pub any_ext : (p q : A → Bool) (l : List A) → ((a : A) → Memᴰ a l → p a ≡ q a) → any p l ≡ any q l
  any_ext p q [] h = refl
  any_ext p q (x ∷ l) h = ap₂ ◌||◌ (h x (Memᴰ.head refl)) (any_ext p q l (λ a m. h a (Memᴰ.tail m)))

  pub all_ext : (p q : A → Bool) (l : List A) → ((a : A) → Memᴰ a l → p a ≡ q a) → all p l ≡ all q l
  all_ext p q [] h = refl
  all_ext p q (x ∷ l) h = ap₂ ◌&&◌ (h x (Memᴰ.head refl)) (all_ext p q l (λ a m. h a (Memᴰ.tail m)))

  pub any_mono : (p q : A → Bool) (l : List A) → ((a : A) → Memᴰ a l → p a ≡ true → q a ≡ true) → any p l ≡ true → any q l ≡ true
  any_mono p q l h e = let w = any_elim p l e in any_intro q w.1 (h w.0 w.1 w.2)

  pub all_mono : (p q : A → Bool) (l : List A) → ((a : A) → Memᴰ a l → p a ≡ true → q a ≡ true) → all p l ≡ true → all q l ≡ true
  all_mono p q l h e = all_intro q l (λ a m. h a m (all_elim p e m))

  pub not_any : (p : A → Bool) (l : List A) → not (any p l) ≡ all (λ a. not (p a)) l
  not_any p [] = refl
  not_any p (x ∷ l) = step (p x) (not_any p l)
    where
      step : (b : Bool) → not (any p l) ≡ all (λ a. not (p a)) l → not (b || any p l) ≡ (not b && all (λ a. not (p a)) l)
      step true e = refl
      step false e = e

  pub not_all : (p : A → Bool) (l : List A) → not (all p l) ≡ any (λ a. not (p a)) l
  not_all p [] = refl
  not_all p (x ∷ l) = step (p x) (not_all p l)
    where
      step : (b : Bool) → not (all p l) ≡ any (λ a. not (p a)) l → not (b && all p l) ≡ (not b || any (λ a. not (p a)) l)
      step true e = e
      step false e = refl

  pub keep_intro : (p : A → Bool) {a : A} {l : List A} → Memᴰ a l → p a ≡ true → Memᴰ a (keep p l)
  keep_intro p (Memᴰ.head {x = x} {xs = xs} e) h = rw (sym (ap p e) ∙ h) (Memᴰ.head e)
  keep_intro p {a} (Memᴰ.tail {x = x} {xs = xs} m) h = step (p x) (keep_intro p m h)
    where
      step : (b : Bool) → Memᴰ a (keep p xs) → Memᴰ a (cond b (x ∷ keep p xs) (keep p xs))
      step true k = Memᴰ.tail k
      step false k = k

  pub keep_elim : (p : A → Bool) {a : A} (l : List A) → Memᴰ a (keep p l) → Memᴰ a l × (p a ≡ true)
  keep_elim p [] m = absurd (Memᴰ.not-nil m)
  keep_elim p {a} (x ∷ l) m = step (p x) refl (keep_elim p l) m
    where
      front : p x ≡ true → (Memᴰ a (keep p l) → Memᴰ a l × (p a ≡ true)) → Memᴰ a (x ∷ keep p l) → Memᴰ a (x ∷ l) × (p a ≡ true)
      front e below (Memᴰ.head q) = (Memᴰ.head q, ap p q ∙ e)
      front e below (Memᴰ.tail k) = let w = below k in (Memᴰ.tail w.0, w.1)

      step : (b : Bool) → p x ≡ b → (Memᴰ a (keep p l) → Memᴰ a l × (p a ≡ true))
          → Memᴰ a (cond b (x ∷ keep p l) (keep p l)) → Memᴰ a (x ∷ l) × (p a ≡ true)
      step true e below k = front e below k
      step false e below k = let w = below k in (Memᴰ.tail w.0, w.1)

  pub join_intro : {a : A} {l : List A} {ls : List (List A)} → Memᴰ a l → Memᴰ l ls → Memᴰ a (join ls)
  join_intro {a} m (Memᴰ.head {xs = ls} e) = Memᴰ.append_left (join ls) (subst (λ (k : List A). Memᴰ a k) e m)
  join_intro m (Memᴰ.tail {x = k} n) = Memᴰ.append_right k (join_intro m n)

  pub join_elim : {a : A} (ls : List (List A)) → Memᴰ a (join ls) → (l : List A) × Memᴰ a l × Memᴰ l ls
  join_elim [] m = absurd (Memᴰ.not-nil m)
  join_elim {a} (k ∷ ls) m = step (join_elim ls) (Memᴰ.append_cases k m)
    where
      step : (Memᴰ a (join ls) → (l : List A) × Memᴰ a l × Memᴰ l ls) → Memᴰ a k ⊎ Memᴰ a (join ls)
          → (l : List A) × Memᴰ a l × Memᴰ l (k ∷ ls)
      step below (inl n) = (k, n, Memᴰ.head refl)
      step below (inr n) = let w = below n in (w.0, w.1, Memᴰ.tail w.2)

  pub count_ext : (p q : A → Bool) (l : List A) → ((a : A) → Memᴰ a l → p a ≡ q a) → count p l ≡ count q l
  count_ext p q [] h = refl
  count_ext p q (x ∷ l) h = ap₂ (λ (b : Bool) (n : ℕ). one b + n) (h x (Memᴰ.head refl)) (count_ext p q l (λ a m. h a (Memᴰ.tail m)))

  pub count_le : (p : A → Bool) (l : List A) → count p l ≤ length l
  count_le p [] = omega arith
  count_le p (x ∷ l) = omega (arith, one_le (p x), count_le p l)

  -- a test that some element passes is counted
  pub count_some : (p : A → Bool) {a : A} {l : List A} → Memᴰ a l → p a ≡ true → 1 ≤ count p l
  count_some p (Memᴰ.head e) h = omega (arith, ap one (sym (ap p e) ∙ h))
  count_some p (Memᴰ.tail m) h = omega (arith, count_some p m h)

  -- if some element passes then at least one is counted
  pub any_count : (p : A → Bool) (l : List A) → one (any p l) ≤ count p l
  any_count p l = ⊎_elim found (λ h. omega (arith, ap one h)) (either (any p l))
    where
      found : any p l ≡ true → one (any p l) ≤ count p l
      found h = let w = any_elim p l h in omega (arith, ap one h, count_some p w.1 w.2)

  pub count_none : (p : A → Bool) (l : List A) → ((a : A) → Memᴰ a l → p a ≡ false) → count p l ≡ 0
  count_none p [] h = refl
  count_none p (x ∷ l) h = omega (arith, ap one (h x (Memᴰ.head refl)), count_none p l (λ a m. h a (Memᴰ.tail m)))

  -- four tests whose ones add up alike at each element have counts that add up alike
  pub count_sum : (p q r s : A → Bool) (l : List A) → ((a : A) → Memᴰ a l → one (p a) + one (q a) ≡ one (r a) + one (s a))
      → count p l + count q l ≡ count r l + count s l
  count_sum p q r s [] h = refl
  count_sum p q r s (x ∷ l) h = omega (arith, h x (Memᴰ.head refl), count_sum p q r s l (λ a m. h a (Memᴰ.tail m)))

  pub count_append : (p : A → Bool) (l k : List A) → count p (l ++ k) ≡ count p l + count p k
  count_append p [] k = omega arith
  count_append p (x ∷ l) k = omega (arith, count_append p l k)

  -- after one store: what stood there no longer counts, and what stands there does
  pub count_set : (p : A → Bool) (l : List A) (i : ℕ) (a d : A) → i < length l → count p (set l i a) + one (p (get_or l i d)) ≡ count p l + one (p a)
  count_set p [] i a d h = absurd (not-suc-le-zero h)
  count_set p (x ∷ l) zero a d h = omega arith
  count_set p (x ∷ l) (suc i) a d h = omega (arith, count_set p l i a d (le_of_suc-le-suc h))

pub sum_of_append : (l k : List ℕ) → sum_of (l ++ k) ≡ sum_of l + sum_of k
sum_of_append [] k = omega arith
sum_of_append (x ∷ l) k = omega (arith, sum_of_append l k)

pub sum_of_set : (l : List ℕ) (i a : ℕ) → i < length l → sum_of (set l i a) + get_or l i 0 ≡ sum_of l + a
sum_of_set [] i a h = absurd (omega arith)
sum_of_set (b ∷ l) zero a h = omega arith
sum_of_set (b ∷ l) (suc i) a h = let e = sum_of_set l i a (omega arith) in omega arith

pub sum_of_replicate : (n a : ℕ) → sum_of (replicate n a) ≡ n * a
sum_of_replicate zero a = sym (zero-mul a)
sum_of_replicate (suc n) a = ap (λ (m : ℕ). a + m) (sum_of_replicate n a) ∙ add_comm a (n * a) ∙ sym (suc-mul n a)

module _ {ℓ κ} {A : Type ℓ} {B : Type κ} (f : A → B) where
  pub map_intro : {a : A} {l : List A} → Memᴰ a l → Memᴰ (f a) (map f l)
  map_intro (Memᴰ.head e) = Memᴰ.head (ap f e)
  map_intro (Memᴰ.tail m) = Memᴰ.tail (map_intro m)

  pub map_elim : {b : B} (l : List A) → Memᴰ b (map f l) → (a : A) × Memᴰ a l × (b ≡ f a)
  map_elim [] m = absurd (Memᴰ.not-nil m)
  map_elim {b} (x ∷ l) m = step (map_elim l) m
    where
      step : (Memᴰ b (map f l) → (a : A) × Memᴰ a l × (b ≡ f a)) → Memᴰ b (f x ∷ map f l) → (a : A) × Memᴰ a (x ∷ l) × (b ≡ f a)
      step below (Memᴰ.head e) = (x, Memᴰ.head refl, e)
      step below (Memᴰ.tail k) = let w = below k in (w.0, Memᴰ.tail w.1, w.2)

  pub any_map : (p : B → Bool) (l : List A) → any p (map f l) ≡ any (λ a. p (f a)) l
  any_map p [] = refl
  any_map p (x ∷ l) = ap (λ (b : Bool). p (f x) || b) (any_map p l)

  pub all_map : (p : B → Bool) (l : List A) → all p (map f l) ≡ all (λ a. p (f a)) l
  all_map p [] = refl
  all_map p (x ∷ l) = ap (λ (b : Bool). p (f x) && b) (all_map p l)

  pub count_map : (p : B → Bool) (l : List A) → count p (map f l) ≡ count (λ a. p (f a)) l
  count_map p [] = refl
  count_map p (x ∷ l) = ap (λ (n : ℕ). one (p (f x)) + n) (count_map p l)
