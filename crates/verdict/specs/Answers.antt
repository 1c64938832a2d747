-- Answers in 01's terms: the refusal, and the values of each case. In a refused answer every value is zero.
--     verdict_of a         what a reader's, a writer's or another call's answer refuses by
--     Said                number, place, witness and position
--     refused_for n p a b, refused n p     those of a refusal, with witness and position and without; accepted: number 0 and zeros
--     said v              those of a verdict's refusal, or `accepted`
--     written_length a     the length of the file that a writer made
-- Assumes nothing.
use Rattle.std.specs.Prelude.{ℕ, Ok, Err, Result}
use Rattle.verdict.specs.Rules.{number_of, Verdict, Refusal}
use Rattle.verdict.specs.Writer.{Written}

abbrev pub verdict_of : {A : Type 0} → Result A Refusal → Verdict
verdict_of (Ok a) = Ok tt
verdict_of (Err r) = Err r

pub record Said : Type 0 where
  pub number : ℕ
  pub place : ℕ
  pub witness : ℕ
  pub position : ℕ

abbrev pub refused_for : ℕ → ℕ → ℕ → ℕ → Said
refused_for n p a b = record { number = n; place = p; witness = a; position = b }

abbrev pub refused : ℕ → ℕ → Said
refused n p = refused_for n p 0 0

abbrev pub accepted : Said
accepted = refused 0 0

abbrev pub said : Verdict → Said
said (Ok _) = accepted
said (Err r) = refused_for (number_of r) r.place r.witness r.position

abbrev pub written_length : Written → ℕ
written_length (Ok n) = n
written_length (Err r) = 0
