-- What 14 asks of the parts, by the code's tests.
--     sums_whole                                   the sum of 16 places as they are
--     few_parts                                    a shape that is accepted has few parts
--     bad_shape, bad_size_lem, bad_past, bad_counts    the shape is refused; another size; a place past the parts is not zero; else the counts decide
-- Assumes nothing.
use Rattle.std.specs.Prelude.{Ok, Err}
use mathlib.Core.Bool.{Bool, true, false, ◌||◌}
use mathlib.Core.List.{List}
use mathlib.Core.Path.{◌≡◌, sym, ap, ◌∙◌}
use Prim.Native.Nat.{ℕ, ◌≤◌}
use lib.Dec.{eqb}
use lib.ListN.{length}
use Rattle.history.specs.declared.Job.{Job}
use Rattle.history.specs.State.{sums_to, bad_parts}
use Rattle.history.proofs.Parts.{resized, past, miscounted}
use Rattle.image.proofs.Shapes.{padded_whole, shape_good}
use Rattle.image.specs.Strip.{max_parts, shape_verdict}
use Rattle.seq.specs.Lists.{sum_of}
use Rattle.verdict.specs.Rules.{Verdict, Refusal}

pub sums_whole : (n : ℕ) (xs : List ℕ) {b : Bool} → length xs ≡ max_parts → b ≡ eqb n (sum_of xs) → sums_to n xs ≡ b
sums_whole n xs e p = ap (λ (l : List ℕ). eqb n (sum_of l)) (padded_whole xs e) ∙ sym p

module _ (j : Job) where
  pub bad_shape : {r : Refusal} → shape_verdict j.strip ≡ Err r → true ≡ bad_parts j
  unfolding bad_parts
  bad_shape e = rw e

  module _ {v : Verdict} (said : v ≡ shape_verdict j.strip) (ok : v ≡ Ok tt) where
    shape : shape_verdict j.strip ≡ Ok tt
    shape = sym said ∙ ok

    pub few_parts : j.strip.parts ≤ max_parts
    few_parts = (shape_good j.strip shape).few

    left : bad_parts j ≡ (resized j || (past j || miscounted j))
    unfolding bad_parts
    left = rw shape

    pub bad_size_lem : resized j ≡ true → true ≡ bad_parts j
    bad_size_lem e = sym (left ∙ ap (λ (b : Bool). b || (past j || miscounted j)) e)

    pub bad_past : resized j ≡ false → past j ≡ true → true ≡ bad_parts j
    bad_past e f =
        sym (left ∙ ap (λ (b : Bool). b || (past j || miscounted j)) e ∙ ap (λ (b : Bool). b || miscounted j) f)

    pub bad_counts : resized j ≡ false → past j ≡ false → miscounted j ≡ bad_parts j
    bad_counts e f =
        sym (left ∙ ap (λ (b : Bool). b || (past j || miscounted j)) e ∙ ap (λ (b : Bool). b || miscounted j) f)
