-- What a verdict may refuse by.
--     Says P v      v accepts, or refuses by a refusal of which P holds
--     among ns n    n is one of the numbers ns; By ns r: the number of r is
--     OneOf ns v    v accepts, or refuses by one of the numbers ns
-- Assumes nothing.
use Rattle.std.specs.Prelude.{Bool, true, List, ◌≡◌, ℕ, eqb, Ok, Err}
use Rattle.seq.specs.Lists.{any}
use Rattle.verdict.specs.Rules.{number_of, Verdict, Refusal}

pub data Says (P : Refusal → Type 0) : Verdict → Type 0 where
  accepts : Says P (Ok tt)
  refuses : {r : Refusal} → P r → Says P (Err r)

abbrev pub among : List ℕ → ℕ → Bool
among ns n = any (eqb n) ns

pub data By (ns : List ℕ) (r : Refusal) : Type 0 where
  by : among ns (number_of r) ≡ true → By ns r

abbrev pub OneOf : List ℕ → Verdict → Type 0
OneOf ns v = Says (By ns) v
