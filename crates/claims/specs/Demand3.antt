-- 01, demand 3: every list of calls from an empty job with two areas of any length and bytes.
--     course cs a b, state cs a b, lengths a b     what a list of calls leaves, and the areas' lengths at its start
--     lengths_kept, stage_empty, stage_settled, inside     after every list, and after each pass inside a run
--     answered_by_history, refused_by_history, never_14, refused_unaltered     the next call, whatever it is
--     table, width, height, table_accepted, size_accepted, last_image, view_last     record, areas and entry agree
--     passes, added_counts, removed_counts, balance, changes_once, steps_bound, passes_accepted     the counts, and what bounds them
--     pass_answer, view_answer, figures_answer, collect_answer, run_answer, run_as_passes     what each call answers
--     rest_view, rest_counts, rest_answers     a stable image that was loaded
--     reload_accepted, reload_view, reload_counts, reload_answers     what an accepted collect wrote, loaded again
--     exchanged, ordered, located     two jobs with one table and one size
-- Assumes nothing.
use Rattle.std.specs.Prelude.{true, List, ◌↔◌, ◌⊎◌, ◌≢◌, ◌≡◌, ℕ, ◌+◌, ◌*◌, ◌≤◌, ◌<◌, length, get_or, replicate, take, Ok, Err}
use Rattle.std.proofs.Math.IntN.{sub_ℕ}
use Rattle.history.specs.declared.Effect.TheVariants.{Stable}
use Rattle.operator.specs.Image.{pixel, IsImage, black, added, removed, differs_at, exchange}
use Rattle.operator.specs.Pass as operator
use Rattle.history.proofs.Demand3.{demand_3}
use Rattle.history.specs.Answered.{rest_if, figures_by, answered_by}
use Rattle.history.specs.Call.{Call, load, pass, run, view, figures, collect, passed, shown, figured, collected, answer_of, state_of, refusal_of}
use Rattle.history.specs.Demand3.{AfterList}
use Rattle.history.specs.History as book
use Rattle.history.specs.History.{Entry, empty, holds, Lengths, files_of, refused_by, barred_by}
use Rattle.history.specs.Lists.{Course, start, lengths_of, step, play, uncollected, first_of, over_steps}
use Rattle.history.specs.Source.{from_file}
use Rattle.history.specs.State.{State}
use Rattle.history.specs.View.{view_of, cover}
use Rattle.image.specs.Strip.{shape_verdict, strip_of}
use Rattle.seq.specs.Lists.{one}
use Rattle.table.specs.Record.{record_verdict}
use Rattle.verdict.specs.Rules.{number_of, Refusal}
use Rattle.verdict.specs.Writer.{over}

abbrev pub course : List Call → List ℕ → List ℕ → Course
course cs a b = play cs (start a b)

abbrev pub state : List Call → List ℕ → List ℕ → State
state cs a b = (course cs a b).state

abbrev pub lengths : List ℕ → List ℕ → Lengths
lengths a b = record { first = length a; second = length b }

module _ (cs : List Call) (a b : List ℕ) where
  pub lengths_kept : lengths_of (state cs a b) ≡ lengths a b
  unfolding start lengths_of
  lengths_kept = (demand_3.after_list cs a b).lengths

  pub stage_empty : ((state cs a b).job.stage ≡ 0) ↔ ((course cs a b).history ≡ empty)
  stage_empty = (demand_3.after_list cs a b).stage_empty

  pub stage_settled : ((state cs a b).job.stage ≡ 2) ↔ ((e : Entry) × ((course cs a b).history ≡ holds e) × (e.settled ≡ true))
  stage_settled = (demand_3.after_list cs a b).stage_settled

  -- after each pass inside a run, too
  pub inside : (k : ℕ) → AfterList (lengths_of (start a b).state) (play (replicate k pass) (course cs a b))
  inside = demand_3.inside cs a b

  -- the next call, whatever it is
  module _ (c : Call) where
    pub answered_by_history : answer_of c (state cs a b) ≡ answered_by c (lengths_of (start a b).state) (course cs a b).history
    answered_by_history = (demand_3.after_list cs a b).answered c

    pub refused_by_history : refusal_of (answer_of c (state cs a b)) ≡ refused_by c (lengths_of (start a b).state) (course cs a b).history
    refused_by_history = (demand_3.after_list cs a b).refused c

    pub never_14 : (r : Refusal) → refusal_of (answer_of c (state cs a b)) ≡ Err r → number_of r ≢ 14
    never_14 = (demand_3.after_list cs a b).never_14 c

    -- a channel's run that 24 stops on its way keeps its finished passes (claims/Rounds)
    pub refused_unaltered : (r : Refusal) → barred_by c (lengths_of (start a b).state) (course cs a b).history ≡ Err r
        → state_of c (state cs a b) ≡ state cs a b
    refused_unaltered = (demand_3.after_list cs a b).unaltered c

  -- where the history holds an entry
  module _ (e : Entry) (h : (course cs a b).history ≡ holds e) where
    pub table : (state cs a b).job.table ≡ e.table
    table = ((demand_3.after_list cs a b).agrees e h).table

    pub width : (state cs a b).job.width ≡ e.width
    width = ((demand_3.after_list cs a b).agrees e h).width

    pub height : (state cs a b).job.height ≡ e.height
    height = ((demand_3.after_list cs a b).agrees e h).height

    pub table_accepted : record_verdict e.table ≡ Ok tt
    table_accepted = ((demand_3.after_list cs a b).agrees e h).accepted

    -- the number of parts, and the size of each
    pub size_accepted : shape_verdict (strip_of e.width e.parts) ≡ Ok tt
    size_accepted = ((demand_3.after_list cs a b).agrees e h).sized

    pub last_image : IsImage e.width e.height e.last
    last_image = ((demand_3.after_list cs a b).agrees e h).image

    pub view_last : view_of (state cs a b) ≡ e.last
    view_last = ((demand_3.after_list cs a b).agrees e h).view

    pub passes : (state cs a b).job.passes ≡ length e.earlier
    passes = ((demand_3.after_list cs a b).agrees e h).passes

    pub added_counts : (state cs a b).job.added ≡ over_steps added e
    added_counts = ((demand_3.after_list cs a b).agrees e h).added

    pub removed_counts : (state cs a b).job.removed ≡ over_steps removed e
    removed_counts = ((demand_3.after_list cs a b).agrees e h).removed

    pub balance : black e.last + (state cs a b).job.removed ≡ black (first_of e) + (state cs a b).job.added
    balance = ((demand_3.after_list cs a b).agrees e h).balance

    pub changes_once : (k : ℕ) → over_steps (λ x y. one (differs_at x y k)) e ≤ 1
    changes_once = ((demand_3.after_list cs a b).agrees e h).single

    pub steps_bound : length e.earlier ≤ e.width * e.height
    steps_bound = ((demand_3.after_list cs a b).agrees e h).bound

    -- the first image after as many passes as were accepted since the load
    pub passes_accepted : view_of (state cs a b) ≡ operator.passes e.table e.width e.height (course cs a b).tally (first_of e)
    passes_accepted = (demand_3.after_list cs a b).passed e h

    -- what each call answers
    pub pass_answer : answer_of pass (state cs a b) ≡ passed (rest_if (book.passed e).settled)
    unfolding answered_by
    pass_answer = rw h at (answered_by_history pass)

    pub view_answer : answer_of view (state cs a b) ≡ shown e.last (Ok tt)
    unfolding answered_by
    view_answer = rw h at (answered_by_history view)

    pub figures_answer : answer_of figures (state cs a b)
        ≡ figured (Ok (record { balance = sub_ℕ (over_steps added e) (over_steps removed e); cover = cover (black e.last) (e.width * e.height) }))
    unfolding answered_by figures_by
    figures_answer = rw h at (answered_by_history figures)

    pub collect_answer : (out : List ℕ) → refused_by (collect out) (lengths_of (start a b).state) (holds e) ≡ Ok tt
        → answer_of (collect out) (state cs a b) ≡ collected (Ok (length (files_of e))) (over (files_of e) out)
    unfolding answered_by
    collect_answer out ok = rw (h, ok) at (answered_by_history (collect out))

    pub run_answer : answer_of run (state cs a b) ≡ passed (Ok Stable)
    run_answer = ((demand_3.after_list cs a b).run_as_passes e h).answer

    pub run_as_passes : (n : ℕ) × (n ≤ e.width * e.height + 1) × (step run (course cs a b) ≡ play (replicate n pass) (course cs a b))
    run_as_passes =
        let r = (demand_3.after_list cs a b).run_as_passes e h in
        (r.passes, r.few, r.singly)

    -- a stable image that was loaded
    module _ (s : operator.pass e.table e.width e.height (first_of e) ≡ first_of e) where
      pub rest_view : view_of (state cs a b) ≡ first_of e
      rest_view = (demand_3.rests cs a b e h s).view

      pub rest_counts : ((state cs a b).job.passes ≡ 0) × ((state cs a b).job.added ≡ 0) × ((state cs a b).job.removed ≡ 0)
      rest_counts =
          let r = demand_3.rests cs a b e h s in
          (r.passes, r.added, r.removed)

      pub rest_answers : (answer_of pass (state cs a b) ≡ passed (Ok Stable)) × (answer_of run (state cs a b) ≡ passed (Ok Stable))
      rest_answers =
          let r = demand_3.rests cs a b e h s in
          (r.pass_answer, r.run_answer)

    -- what an accepted collect wrote of a single image, loaded again with its table (of a strip: Strips)
    module _ (single : length e.parts ≡ 1) (out : List ℕ) (m : ℕ) (after : List ℕ) (q : answer_of (collect out) (state cs a b) ≡ collected (Ok m) after) where
      abbrev again : Call
      again = load e.table (from_file (take m after))

      abbrev emptied : Course
      emptied = step (collect out) (course cs a b)

      pub reload_accepted : refusal_of (answer_of again emptied.state) ≡ Ok tt
      reload_accepted = (demand_3.reloaded cs a b out e m after h single q).accepted

      module _ (ds : List Call) (u : uncollected ds (step again emptied) ≡ true) where
        abbrev later : State
        later = (play ds (step again emptied)).state

        pub reload_view : view_of later ≡ e.last
        reload_view = ((demand_3.reloaded cs a b out e m after h single q).rests ds u).view

        pub reload_counts : (later.job.passes ≡ 0) × (later.job.added ≡ 0) × (later.job.removed ≡ 0)
        reload_counts =
            let r = (demand_3.reloaded cs a b out e m after h single q).rests ds u in
            (r.passes, r.added, r.removed)

        pub reload_answers : (answer_of pass later ≡ passed (Ok Stable)) × (answer_of run later ≡ passed (Ok Stable))
        reload_answers =
            let r = (demand_3.reloaded cs a b out e m after h single q).rests ds u in
            (r.pass_answer, r.run_answer)

-- two jobs with one table and one size, after equally many accepted passes since their loads, or both settled
module _ (cs cs' : List Call) (a b a' b' : List ℕ) (e e' : Entry) (h : (course cs a b).history ≡ holds e)
    (h' : (course cs' a' b').history ≡ holds e') (t : e.table ≡ e'.table) (w : e.width ≡ e'.width) (l : e.height ≡ e'.height)
    (k : ((course cs a b).tally ≡ (course cs' a' b').tally) ⊎ ((e.settled ≡ true) × (e'.settled ≡ true))) where
  pub exchanged : first_of e' ≡ exchange (first_of e) → view_of (state cs' a' b') ≡ exchange (view_of (state cs a b))
  exchanged =
      demand_3.exchanged cs cs' a b a' b' e e' (record { here = h; there = h'; table = t; width = w; height = l; together = k })

  pub ordered : ((i : ℕ) → i < length (first_of e) → get_or (first_of e) i 0 ≤ get_or (first_of e') i 0)
      → (i : ℕ) → i < length (view_of (state cs a b)) → get_or (view_of (state cs a b)) i 0 ≤ get_or (view_of (state cs' a' b')) i 0
  ordered =
      demand_3.ordered cs cs' a b a' b' e e' (record { here = h; there = h'; table = t; width = w; height = l; together = k })

  -- equally many passes, and first images that agree within 6 × that of a pixel (02, T-09)
  pub located : (course cs a b).tally ≡ (course cs' a' b').tally → (r c : ℕ) → r < e.height → c < e.width
      → ((r' c' : ℕ) → r' < e.height → c' < e.width → (r ≤ r' + 6 * (course cs a b).tally) × (r' ≤ r + 6 * (course cs a b).tally)
      → (c ≤ c' + 6 * (course cs a b).tally) × (c' ≤ c + 6 * (course cs a b).tally)
      → pixel e.width (first_of e) r' c' ≡ pixel e.width (first_of e') r' c')
      → pixel e.width (view_of (state cs a b)) r c ≡ pixel e.width (view_of (state cs' a' b')) r c
  located =
      demand_3.located cs cs' a b a' b' e e' (record { here = h; there = h'; table = t; width = w; height = l; together = k })
