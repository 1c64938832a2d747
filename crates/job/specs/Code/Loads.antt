-- What the loads do alike.
--     entered j t p a            the record j with the table t and the parts p, after the reader of a load answered a
--     both s                     the bytes that both areas have
--     LoadedBy R t s v j first   a load whose reader goes by R, from what an area holds to an answer and what it holds then, answered v and left j and `first`
-- Assumes nothing.
use Rattle.std.specs.Prelude.{List, ◌++◌, ◌≡◌, ℕ, min, length, take, drop, Ok, Err}
use Rattle.history.specs.declared.Job.{Job}
use Rattle.history.specs.Load.{admit_rules}
use Rattle.history.specs.State.{State}
use Rattle.image.specs.File.{ImageRead}
use Rattle.image.specs.declared.strip.Strip.{Strip}
use Rattle.image.specs.Strip.{no_counts}
use Rattle.job.specs.declared.Reading.{Reading}
use Rattle.table.specs.declared.Table.{Table}
use Rattle.verdict.specs.Answers.{verdict_of}
use Rattle.verdict.specs.Rules.{Verdict, judge, Refusal}

abbrev pub entered : Job → Table → Strip → ImageRead → Job
entered j t p (Ok s) =
    record { stage = 1; width = s.width; height = s.height; passes = 0; added = 0; removed = 0; table = t; strip = p; counts = no_counts }
entered j t p (Err r) = j

abbrev pub both : State → ℕ
both s = min (length s.first) (length s.second)

pub record LoadedBy (R : List ℕ → Reading → List ℕ → Type 0) (t : Table) (s : State) (v : Verdict) (j : Job) (first : List ℕ) : Type 0 where
  pub refused : (r : Refusal) → judge (admit_rules t s) ≡ Err r → (v ≡ Err r) × (j ≡ s.job) × (first ≡ s.first)
  pub read : judge (admit_rules t s) ≡ Ok tt
      → (a : Reading) × (area : List ℕ) × R (take (both s) s.first) a area
      × (v ≡ verdict_of a.read) × (j ≡ entered s.job t a.parts a.read) × (first ≡ area ++ drop (both s) s.first)
