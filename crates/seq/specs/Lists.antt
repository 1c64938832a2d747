-- Tests over lists.
--     any p l     some element of l passes p
--     all p l     every element of l passes p
--     keep p l    the elements of l that pass p, in their order
--     one b       1 for true, 0 for false
--     count p l   how many elements of l pass p
--     sum_of l     the sum of a list of numbers
--     join ls     the lists of ls, one after the other
--     same a b    the two truth values are equal
--     same_list a b   the two lists of numbers are equal
-- Assumes nothing.
use Rattle.std.specs.Prelude.{Bool, true, false, cond, not, ◌&&◌, ◌||◌, List, [], ◌∷◌, ◌++◌, ℕ, ◌+◌, eqb}

abbrev pub any {ℓ} : {A : Type ℓ} → (A → Bool) → List A → Bool
any p [] = false
any p (a ∷ l) = p a || any p l

abbrev pub all {ℓ} : {A : Type ℓ} → (A → Bool) → List A → Bool
all p [] = true
all p (a ∷ l) = p a && all p l

abbrev pub keep {ℓ} : {A : Type ℓ} → (A → Bool) → List A → List A
keep p [] = []
keep p (a ∷ l) = cond (p a) (a ∷ keep p l) (keep p l)

abbrev pub one : Bool → ℕ
one true = 1
one false = 0

abbrev pub count {ℓ} : {A : Type ℓ} → (A → Bool) → List A → ℕ
count p [] = 0
count p (a ∷ l) = one (p a) + count p l

abbrev pub sum_of : List ℕ → ℕ
sum_of [] = 0
sum_of (a ∷ l) = a + sum_of l

abbrev pub join {ℓ} : {A : Type ℓ} → List (List A) → List A
join [] = []
join (l ∷ ls) = l ++ join ls

abbrev pub same : Bool → Bool → Bool
same true b = b
same false b = not b

abbrev pub same_list : List ℕ → List ℕ → Bool
same_list [] [] = true
same_list [] (b ∷ m) = false
same_list (a ∷ l) [] = false
same_list (a ∷ l) (b ∷ m) = eqb a b && same_list l m
