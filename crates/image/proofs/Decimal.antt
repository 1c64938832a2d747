-- The digits of a number, by how many it has.
--     decimal_one, decimal_two, decimal_three     the digits themselves
--     decimal_short                               at most three
--     wrote_one, wrote_two, wrote_three           the digits stored one by one, each with the position after them
-- Assumes nothing.
use mathlib.Core.Bool.{Bool, true, false, cond}
use mathlib.Core.List.{List, [], ◌∷◌}
use mathlib.Core.Path.{◌≡◌}
use Prim.Native.Nat.{ℕ, ◌+◌, ◌/◌, ◌%◌, ◌≤◌, ◌<◌}
use native.Mathlib.Numerals.{add-one, add-two}
use native.Mathlib.Omega.{arith}
use borrow.Author.Tests.{lt-ltb, le-ltb}
use lib.Dec.{ltb}
use lib.ListN.{length, set}
use lib.Seq.{sets}
use Rattle.image.specs.Header.{digit_at, decimal}

pub decimal_one : (n : ℕ) → n < 10 → decimal n ≡ digit_at 1 n ∷ []
unfolding decimal
decimal_one n h = simp (lt-ltb n 10 h)

pub decimal_two : (n : ℕ) → 10 ≤ n → n < 100 → decimal n ≡ digit_at 10 n ∷ digit_at 1 n ∷ []
unfolding decimal
decimal_two n l h = simp (le-ltb n 10 l, lt-ltb n 100 h)

pub decimal_three : (n : ℕ) → 100 ≤ n → decimal n ≡ digit_at 100 n ∷ digit_at 10 n ∷ digit_at 1 n ∷ []
unfolding decimal
decimal_three n l = let l' : 10 ≤ n = omega arith in simp (le-ltb n 10 l', le-ltb n 100 l)

pub decimal_short : (n : ℕ) → length (decimal n) ≤ 3
unfolding decimal
decimal_short n = step (ltb n 10) (ltb n 100)
  where
    step : (a b : Bool) → length (cond a (digit_at 1 n ∷ []) (cond b (digit_at 10 n ∷ digit_at 1 n ∷ []) (digit_at 100 n ∷ digit_at 10 n ∷ digit_at 1 n ∷ []))) ≤ 3
    step true b = omega arith
    step false true = omega arith
    step false false = omega arith

pub wrote_one : (n : ℕ) (out : List ℕ) (at : ℕ) {a : ℕ} → n < 10 → a ≡ 48 + n % 10 → (at + 1 ≡ at + length (decimal n)) × (set out at a ≡ sets out at (decimal n))
wrote_one n out at {a} h e =
    let q : a ≡ digit_at 1 n = omega arith in
    (rw (decimal_one n h), rw (decimal_one n h, q))

pub wrote_two : (n : ℕ) (out : List ℕ) (at : ℕ) {a b : ℕ} → 10 ≤ n → n < 100 → a ≡ 48 + n / 10 % 10 → b ≡ 48 + n % 10
    → (at + 2 ≡ at + length (decimal n)) × (set (set out at a) (at + 1) b ≡ sets out at (decimal n))
wrote_two n out at {a} {b} l h e f =
    let q : b ≡ digit_at 1 n = omega arith in
    (rw (decimal_two n l h), rw (decimal_two n l h, q, e, add-one))

pub wrote_three : (n : ℕ) (out : List ℕ) (at : ℕ) {a b c : ℕ} → 100 ≤ n → a ≡ 48 + n / 100 % 10 → b ≡ 48 + n / 10 % 10 → c ≡ 48 + n % 10
    → (at + 3 ≡ at + length (decimal n)) × (set (set (set out at a) (at + 1) b) (at + 2) c ≡ sets out at (decimal n))
wrote_three n out at {a} {b} {c} l e f g =
    let q : c ≡ digit_at 1 n = omega arith in
    (rw (decimal_three n l), rw (decimal_three n l, q, e, f, add-one, add-two))
