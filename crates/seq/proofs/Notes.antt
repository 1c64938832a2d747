-- More laws of the first number that passes a test.
--     first_some     something passes, so something is found
--     found_more     one number more to look at
--     Noted p n b    b says whether one of the numbers below n passes: where a loop that notes it stands after n turns
--     note_none, note_yes, note_no, note_all    its start, a number that passes, one that does not, its end
-- Assumes nothing.
use Rattle.std.specs.Prelude.{Option, None, Some, is_some}
use mathlib.Core.Bool.{Bool, true, false, ◌||◌, or-false}
use mathlib.Core.Logic.{⊎_elim}
use mathlib.Core.Path.{◌≡◌, refl, sym, ap, ◌∙◌}
use Prim.Native.Nat.{ℕ, ◌+◌, ◌<◌}
use native.Mathlib.Omega.{arith}
use borrow.Author.Count.{below_more}
use Rattle.seq.specs.Tab.{first}
use Rattle.seq.proofs.Lists.{clash, either}
use Rattle.seq.proofs.Tab.{first_none, first_found, first_nothing}

pub first_some : (p : ℕ → Bool) (n : ℕ) {k : ℕ} → k < n → p k ≡ true → is_some (first p n) ≡ true
first_some p n {k} h e = step (first p n) refl
  where
    step : (o : Option ℕ) → first p n ≡ o → is_some o ≡ true
    step None q = clash e (first_nothing p n q k h)
    step (Some i) q = refl

pub found_more : (p : ℕ → Bool) (n : ℕ) → is_some (first p (n + 1)) ≡ (is_some (first p n) || p n)
found_more p n = step (first p n) refl
  where
    none_below : first p n ≡ None → p n ≡ false → first p (n + 1) ≡ None
    none_below q e = first_none p (n + 1) (below_more (λ k. p k ≡ false) n (first_nothing p n q) e)

    step : (o : Option ℕ) → first p n ≡ o → is_some (first p (n + 1)) ≡ (is_some o || p n)
    step None q = ⊎_elim (λ e. first_some p (n + 1) (omega arith) e ∙ sym e) (λ e. ap is_some (none_below q e) ∙ sym e) (either (p n))
    step (Some i) q = let f = first_found p n i q in first_some p (n + 1) (omega (arith, f.below)) f.passes

pub record Noted (p : ℕ → Bool) (n : ℕ) (b : Bool) : Type 0 where
  pub noted : b ≡ is_some (first p n)

pub note_none : (p : ℕ → Bool) → Noted p 0 false
note_none p = record { noted = refl }

pub note_yes : {p : ℕ → Bool} {n : ℕ} {a b : Bool} → Noted p n a → b ≡ true → p n ≡ true → Noted p (n + 1) b
note_yes {p} {n} s q e = record { noted = q ∙ sym (first_some p (n + 1) (omega arith) e) }

pub note_no : {p : ℕ → Bool} {n : ℕ} {a b : Bool} → Noted p n a → b ≡ a → p n ≡ false → Noted p (n + 1) b
note_no {p} {n} s q e = record {
  noted = q ∙ s.noted ∙ sym (found_more p n ∙ ap (λ (t : Bool). is_some (first p n) || t) e ∙ or-false (is_some (first p n)));
}

pub note_all : {p : ℕ → Bool} {n : ℕ} {b : Bool} (m : ℕ) → Noted p n b → n ≡ m → b ≡ is_some (first p m)
note_all {p} m s e = s.noted ∙ ap (λ (k : ℕ). is_some (first p k)) e
