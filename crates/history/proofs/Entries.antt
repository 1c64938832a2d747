-- An entry through one pass of the reference model: settled, changed, or marked.
--     cond_true, cond_false                            a choice whose test is known
--     passed_settled, passed_changed, passed_quiet     what `passed` gives
-- Assumes nothing.
use mathlib.Core.Bool.{Bool, true, false, cond}
use mathlib.Core.Path.{◌≡◌, ap, ◌∙◌}
use Rattle.operator.specs.Image.{differs}
use Rattle.history.specs.History.{Entry, next_of, joined, marked, passed}

pub cond_true {ℓ} : {A : Type ℓ} {b : Bool} (x y : A) → b ≡ true → cond b x y ≡ x
cond_true x y q = ap (λ (c : Bool). cond c x y) q

pub cond_false {ℓ} : {A : Type ℓ} {b : Bool} (x y : A) → b ≡ false → cond b x y ≡ y
cond_false x y q = ap (λ (c : Bool). cond c x y) q

module _ (e : Entry) where
  pub passed_settled : e.settled ≡ true → passed e ≡ e
  unfolding passed
  passed_settled q = cond_true e (cond (differs e.last (next_of e)) (joined e) (marked e)) q

  pub passed_changed : e.settled ≡ false → differs e.last (next_of e) ≡ true → passed e ≡ joined e
  unfolding passed
  passed_changed q d = cond_false e (cond (differs e.last (next_of e)) (joined e) (marked e)) q ∙ cond_true (joined e) (marked e) d

  pub passed_quiet : e.settled ≡ false → differs e.last (next_of e) ≡ false → passed e ≡ marked e
  unfolding passed
  passed_quiet q d = cond_false e (cond (differs e.last (next_of e)) (joined e) (marked e)) q ∙ cond_false (joined e) (marked e) d
