-- Several passes at stage 1, as the code makes them.
--     Running s                the record is sound, has an image and is not at rest
--     made n s                 at most n passes that change pixels: "changed" after n of them
--     at_most n s              the same where 14 and 16 let it, and at rest nothing; at_most_as v n s: by their verdict
--     allowed j n              at most n passes, and no more than 14's pass clause leaves
--     answer_of e, stage_of j e  answer and stage by why the passes end: only rest alters the stage
--     of_one a d                a pixels added and d removed, as counts of one part; done_on_one r: the passes r on a single image
--     after j k p a d c        the record j at stage k, with p passes more that added a and removed d, in the parts c
--     after_done j d           the record j after the passes d
--     Fit c d                  no sum of the two counts of a part wraps
--     Places j                 the record has 16 places for counts, as its type says
--     room_of j                 the pixels that 14's pass clause lets the next pass change; passes_of e, done_on c: the pass c over a strip, which ended with e
--     Made o r j a b           what a function answered and left in the record and the areas is the outcome o
-- Assumes nothing.
use Rattle.std.specs.Prelude.{cond, List, [], ◌∷◌, ◌≡◌, ℕ, zero, suc, ◌+◌, ◌-◌, ◌≤◌, ◌<◌, eqb, ltb, length, get_or, Ok, Err}
use Rattle.history.specs.declared.Job.{Job}
use Rattle.history.specs.Pass.{Outcome, pass_loaded}
use Rattle.history.specs.Sound.{Ready}
use Rattle.history.specs.State.{State, pixels, ready_verdict}
use Rattle.job.specs.declared.step.Done.{Done}
use Rattle.filter.specs.declared.Budget.{Budget}
use Rattle.filter.specs.declared.Crossed.{Crossed}
use Rattle.filter.specs.declared.End.{End}
use Rattle.filter.specs.declared.End.TheVariants as ending
use Rattle.filter.specs.declared.Repeated.{Repeated}
use Rattle.image.specs.declared.strip.PartCounts.{PartCounts}
use Rattle.image.specs.Strip.{max_parts, max_strip, padded}
use Rattle.operator.specs.Parts.{summed}
use Rattle.verdict.specs.Rules.{Verdict, refusal}
use Rattle.history.specs.Answers.{Passed, if_changed}
use Rattle.history.specs.declared.Effect.TheVariants.{Changed, Stable}
use Rattle.verdict.specs.declared.Rule.TheVariants as why

abbrev pub Running : State → Type 0
Running s = Ready s × (s.job.stage ≡ 2 → ⊥)

unfoldable pub made : ℕ → State → Outcome
made zero s = record { answer = (Ok Changed); state = s }
made (suc n) s =
    if_changed (pass_loaded s).answer (made n (pass_loaded s).state) (pass_loaded s)

abbrev pub at_most_as : Verdict → ℕ → State → Outcome
at_most_as (Ok tt) n s = cond (eqb s.job.stage 2) (record { answer = (Ok Stable); state = s }) (made n s)
at_most_as (Err r) n s = record { answer = Err r; state = s }

abbrev pub at_most : ℕ → State → Outcome
at_most n s = at_most_as (ready_verdict s) n s

abbrev pub allowed : Job → ℕ → Budget
allowed j n = record { limit = n; most = pixels j - j.passes; room = pixels j - (j.added + j.removed) }

abbrev pub answer_of : End → Passed
answer_of ending.Stable = Ok Stable
answer_of ending.Limit = Ok Changed
answer_of ending.Full = Err (refusal why.Unsound 0)

abbrev pub stage_of : Job → End → ℕ
stage_of j ending.Stable = 2
stage_of j ending.Limit = j.stage
stage_of j ending.Full = j.stage

abbrev pub of_one : ℕ → ℕ → PartCounts
of_one a d = record { added = padded (a ∷ []); removed = padded (d ∷ []) }

abbrev pub done_on_one : Repeated → Done
done_on_one r = record { passes = r.passes; added = r.added; removed = r.removed; parts = of_one r.added r.removed; end = r.end }

abbrev pub after : Job → ℕ → ℕ → ℕ → ℕ → PartCounts → Job
after j k p a d c =
    record {
      stage = k;
      width = j.width;
      height = j.height;
      passes = j.passes + p;
      added = j.added + a;
      removed = j.removed + d;
      table = j.table;
      strip = j.strip;
      counts = summed j.counts c;
    }

abbrev pub after_done : Job → Done → Job
after_done j d = after j (stage_of j d.end) d.passes d.added d.removed d.parts

pub record Fit (c d : PartCounts) : Type 0 where
  pub added : (i : ℕ) → i < max_parts → get_or c.added i 0 + get_or d.added i 0 ≤ max_strip
  pub removed : (i : ℕ) → i < max_parts → get_or c.removed i 0 + get_or d.removed i 0 ≤ max_strip

pub record Places (j : Job) : Type 0 where
  pub added : length j.counts.added ≡ max_parts
  pub removed : length j.counts.removed ≡ max_parts

abbrev pub room_of : Job → ℕ
room_of j = cond (ltb j.passes (pixels j)) (pixels j - (j.added + j.removed)) 0

abbrev pub passes_of : End → ℕ
passes_of ending.Limit = 1
passes_of ending.Stable = 0
passes_of ending.Full = 0

abbrev pub done_on : Crossed → Done
done_on c = record { passes = passes_of c.end; added = c.added; removed = c.removed; parts = c.parts; end = c.end }

-- a function answered r and left j in the record and a and b in the areas, as the outcome says
abbrev pub Made : Outcome → Passed → Job → List ℕ → List ℕ → Type 0
Made o r j a b = (r ≡ o.answer) × (j ≡ o.state.job) × (a ≡ o.state.first) × (b ≡ o.state.second)
