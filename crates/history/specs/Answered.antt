-- What each call answers, by the history alone (01: the book): no record and no area is looked at.
--     rest_if b            a pass or a run answers "at rest" where the mark stands afterwards, else "changed"
--     rest_as v b          so does one that the verdict v does not refuse
--     figures_by e         balance and cover, counted from the row of images
--     answered_by c n H    the answer, and what is left in an output
-- Assumes nothing.
use Rattle.std.specs.Prelude.{Bool, false, cond, ◌*◌, Ok, Err}
use Rattle.verdict.specs.declared.Rule.TheVariants as why
use Rattle.std.proofs.Math.IntN.{sub_ℕ}
use Rattle.history.specs.Answers.{Passed, Figured}
use Rattle.history.specs.declared.Effect.TheVariants.{Changed, Stable}
use Rattle.operator.specs.Image.{black, added, removed}
use Rattle.history.specs.Call.{Call, load, pass, run, view, figures, collect, channel_pass, channel_run, Answer, loaded, passed, shown, figured, collected, refusing}
use Rattle.history.specs.History as book
use Rattle.history.specs.History.{Entry, History, empty, holds, Lengths, ran, files_of, refused_by}
use Rattle.history.specs.Lists.{over_steps}
use Rattle.history.specs.View.{cover}
use Rattle.verdict.specs.Rules.{refusal, Verdict, Refusal}
use Rattle.verdict.specs.Writer.{written_of, output_of}

abbrev pub rest_if : Bool → Passed
rest_if b = cond b (Ok Stable) (Ok Changed)

abbrev pub rest_as : Verdict → Bool → Passed
rest_as (Ok _) b = rest_if b
rest_as (Err r) b = Err r

unfoldable pub figures_by : Entry → Figured
figures_by e = Ok (record { balance = sub_ℕ (over_steps added e) (over_steps removed e); cover = cover (black e.last) (e.width * e.height) })

-- 16
abbrev nothing : Refusal
nothing = refusal why.NothingLoaded 0

unfoldable pub answered_by : Call → Lengths → History → Answer
answered_by (load t x) n H = loaded (refused_by (load t x) n H)
answered_by pass n empty = refusing pass nothing
answered_by pass n (holds e) = passed (rest_if (book.passed e).settled)
answered_by run n empty = refusing run nothing
answered_by run n (holds e) = passed (rest_if (ran e).settled)
answered_by view n empty = refusing view nothing
answered_by view n (holds e) = shown e.last (Ok tt)
answered_by figures n empty = refusing figures nothing
answered_by figures n (holds e) = figured (figures_by e)
answered_by (collect out) n empty = refusing (collect out) nothing
answered_by (collect out) n (holds e) =
    let v = refused_by (collect out) n (holds e) in
    collected (written_of v (files_of e)) (output_of v (files_of e) out)
answered_by (channel_pass q i) n empty = passed (rest_as (refused_by (channel_pass q i) n empty) false)
answered_by (channel_pass q i) n (holds e) = passed (rest_as (refused_by (channel_pass q i) n (holds e)) (book.passed e).settled)
answered_by (channel_run q i) n empty = passed (rest_as (refused_by (channel_run q i) n empty) false)
answered_by (channel_run q i) n (holds e) = passed (rest_as (refused_by (channel_run q i) n (holds e)) (ran e).settled)
