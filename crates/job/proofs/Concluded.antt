-- The filter's passes on a job that is ready and not at rest.
--     Answers s n a b q x y    the filter's answer q and the areas x and y, for at most n passes from the area a to b
--     Repeats s n a b m x y    the same of the passes m, of which nothing is refused
--     Holds s a b              the image stands in the area a; holds_even, holds_odd: in the area that the parity names
--     repeats, never_refused   the filter refuses nothing of a record that is ready
--     fits                     the record's counts with those passes do not wrap
--     even_sum                 the parity of a sum
--     made_even, made_odd      record and areas afterwards are those of the passes on the job
-- Assumes nothing.
use Rattle.std.specs.Prelude.{Ok, Err, Result}
use mathlib.Core.Bool.{Bool, true, false, not}
use mathlib.Core.List.{List}
use mathlib.Core.Path.{◌≡◌, refl, sym, ap, ◌∙◌}
use Prim.Native.Nat.{ℕ, ◌+◌, ◌%◌, ◌≤◌}
use native.Mathlib.Omega.{arith}
use borrow.Author.Tests.{eq-eqb, ne_eqb, eqb-true, eqb-false, le-ltb}
use lib.ListN.{length, take}
use Rattle.filter.specs.Applied.{pass_verdict}
use Rattle.history.specs.declared.Job.{Job}
use Rattle.history.specs.Answers.{Passed}
use Rattle.history.specs.Pass.{Outcome}
use Rattle.history.specs.Sound.{Ready}
use Rattle.history.specs.State.{State, pixels, even, image}
use Rattle.history.proofs.Ready.{ready_parts, ready_small, ready_single}
use Rattle.image.specs.Strip.{max_strip}
use Rattle.job.specs.Code.Passes.{made, allowed, answer_of, of_one, done_on_one, after_done, Fit, Made, Places}
use Rattle.job.specs.declared.step.Done.{Done}
use Rattle.job.proofs.OnePart.{One, one_height, one_fit}
use Rattle.filter.specs.declared.Repeated.{Repeated}
use Rattle.filter.specs.Repeated.{begin, Ended, repeated, answered, answer, leaves, first_area, second_area}
use Rattle.job.proofs.Trails.{standing, outcome, standing_image, standing_job, standing_first, standing_second, since_none, turn, followed, follow_made, Within, follow_within}
use Rattle.seq.specs.Lists.{same}
use Rattle.verdict.specs.Rules.{Refusal}

-- the filter's passes with the record's table, size and budget: as it is asked for them, and as they are
abbrev asked : Job → ℕ → List ℕ → List ℕ → Result Ended Refusal
asked j n here there = repeated j.table j.width j.height (allowed j n) here there

abbrev ended : Job → ℕ → List ℕ → List ℕ → Ended
ended j n here there = followed j n n (begin here there)

abbrev Answers : State → ℕ → List ℕ → List ℕ → Result Repeated Refusal → List ℕ → List ℕ → Type 0
Answers s n here there q x y =
    (q ≡ answer (asked s.job n here there)) × (x ≡ leaves first_area (asked s.job n here there) here) × (y ≡ leaves second_area (asked s.job n here there) there)

abbrev Repeats : State → ℕ → List ℕ → List ℕ → Repeated → List ℕ → List ℕ → Type 0
Repeats s n here there m x y =
    (m ≡ answered (ended s.job n here there)) × (x ≡ first_area (ended s.job n here there)) × (y ≡ second_area (ended s.job n here there))

-- the image stands in the area `here`, and `there` has room for the next one
pub record Holds (s : State) (here there : List ℕ) : Type 0 where
  same : s ≡ standing s.job (begin here there)
  long : pixels s.job ≤ length there

module _ {s : State} (r : Ready s) where
  pub holds_even : s.job.passes % 2 ≡ 0 → Holds s s.first s.second
  holds_even t = record { same = rw (eq-eqb (s.job.passes % 2) 0 t); long = r.second }

  pub holds_odd : (s.job.passes % 2 ≡ 0 → ⊥) → Holds s s.second s.first
  holds_odd t = record { same = rw (ne_eqb (s.job.passes % 2) 0 t); long = r.first }

-- one part, with 16 places for counts
ready_one : {s : State} → Ready s → s.job.strip.parts ≡ 1 → Places s.job → One s.job
ready_one r e p = record { heights = one_height (ready_parts r) e; places = p }

module _ {s : State} (r : Ready s) (h : s.job.stage ≡ 2 → ⊥) (single : s.job.strip.parts ≡ 1) (n : ℕ) {here there : List ℕ} (k : Holds s here there) where
  accepted : pass_verdict s.job.table s.job.width s.job.height (take (pixels s.job) here) (length there) ≡ Ok tt
  unfolding pass_verdict
  accepted =
      let p : image s ≡ take (pixels s.job) here = ap image k.same ∙ standing_image s.job (begin here there) in
      rw (r.table, sym p, ready_single r single, le-ltb _ _ k.long)

  staged : s.job.stage ≡ 1
  staged = omega (arith, r.begun, r.staged)

  asked_is : asked s.job n here there ≡ Ok (ended s.job n here there)
  unfolding repeated
  asked_is = rw accepted refl

  module _ {q : Result Repeated Refusal} {x y : List ℕ} (f : Answers s n here there q x y) where
    answer_is : q ≡ Ok (answered (ended s.job n here there))
    answer_is = f.0 ∙ ap answer asked_is

    pub repeats : {m : Repeated} → q ≡ Ok m → Repeats s n here there m x y
    repeats {m} e =
        let p : Ok m ≡ Ok (answered (ended s.job n here there)) = sym e ∙ answer_is in
        let same : m ≡ answered (ended s.job n here there) = cc in
        (same, f.1 ∙ ap (λ r. leaves first_area r here) asked_is, f.2 ∙ ap (λ r. leaves second_area r there) asked_is)

    pub never_refused : {z : Refusal} → q ≡ Err z → ⊥
    never_refused {z} e = let p : Err z ≡ Ok (answered (ended s.job n here there)) = sym e ∙ answer_is in let y : ◌≡◌ {A = ℕ} 0 1 = cc in omega arith

  made_ended : One s.job → made n s ≡ outcome s.job (ended s.job n here there)
  made_ended o =
      ap (made n) (k.same ∙ ap (λ (j : Job). standing j (begin here there)) (sym (since_none s.job o here there)))
      ∙ follow_made s.job o n staged r.passes r.counts n (begin here there)

  within : Within (allowed s.job n) (followed s.job n n (begin here there)).trail
  within = follow_within _ _ _ (allowed s.job n) n (begin here there) (record { passes = omega arith; counts = omega arith })

  -- the counts with those passes are still small
  pub fits : {m : Repeated} → m ≡ answered (ended s.job n here there)
      → (s.job.passes + m.passes ≤ max_strip) × (s.job.added + m.added ≤ max_strip) × (s.job.removed + m.removed ≤ max_strip)
      × Fit s.job.counts (of_one m.added m.removed)
  fits {m} p =
      let few = ready_small r in
      let w = within in
      let a : s.job.added + m.added ≤ max_strip = rw p (omega (arith, r.counts, w.counts)) in
      let d : s.job.removed + m.removed ≤ max_strip = rw p (omega (arith, r.counts, w.counts)) in
      (rw p (omega (arith, r.passes, w.passes)), a, d, one_fit (ready_parts r) m.added m.removed a d)

even_sum : (p n : ℕ) → even (p + n) ≡ same (even p) (even n)
even_sum p n = by (even p) refl (even n) refl
  where
    by : (a : Bool) → even p ≡ a → (b : Bool) → even n ≡ b → even (p + n) ≡ same a b
    by true e true f = let x = eqb-true (p % 2) 0 e in let y = eqb-true (n % 2) 0 f in eq-eqb ((p + n) % 2) 0 (omega arith)
    by true e false f = let x = eqb-true (p % 2) 0 e in let y = eqb-false (n % 2) 0 f in ne_eqb ((p + n) % 2) 0 (omega arith)
    by false e true f = let x = eqb-false (p % 2) 0 e in let y = eqb-true (n % 2) 0 f in ne_eqb ((p + n) % 2) 0 (omega arith)
    by false e false f = let x = eqb-false (p % 2) 0 e in let y = eqb-false (n % 2) 0 f in eq-eqb ((p + n) % 2) 0 (omega arith)

-- so the filter's first area is the job's where the passes before were even, else the job's second
module _ (j : Job) (e : Ended) where
  abbrev afterwards : State
  afterwards = (outcome j e).state

  abbrev stood : Job
  stood = after_done j (done_on_one (answered e))

  areas_even : even j.passes ≡ true → (first_area e ≡ afterwards.first) × (second_area e ≡ afterwards.second)
  unfolding first_area second_area
  areas_even t =
      let q : even (j.passes + e.trail.passes) ≡ even e.trail.passes = even_sum j.passes e.trail.passes ∙ rw t in
      (rw (standing_first stood e.trail, q), rw (standing_second stood e.trail, q))

  areas_odd : even j.passes ≡ false → (second_area e ≡ afterwards.first) × (first_area e ≡ afterwards.second)
  unfolding first_area second_area
  areas_odd t =
      let q : even (j.passes + e.trail.passes) ≡ not (even e.trail.passes) = even_sum j.passes e.trail.passes ∙ rw t in
      let b = even e.trail.passes in (
        rw (standing_first stood e.trail, q) (turn b e.trail.there e.trail.here),
        rw (standing_second stood e.trail, q) (turn b e.trail.here e.trail.there),
      )

module _ {s : State} (r : Ready s) (h : s.job.stage ≡ 2 → ⊥) (single : s.job.strip.parts ≡ 1) (n : ℕ) {m : Repeated} {d : Done}
    {a : Passed} {j : Job} (f : d ≡ done_on_one m) (c : (a ≡ answer_of d.end) × (j ≡ after_done s.job d) × Places s.job) where
  one : One s.job
  one = ready_one r single c.2

  -- answer and record, whichever area the image stood in
  record_is : {here there : List ℕ} → Holds s here there → m ≡ answered (ended s.job n here there)
      → (a ≡ (made n s).answer) × (j ≡ (made n s).state.job)
  record_is {here} {there} k p =
      let e = ended s.job n here there in
      let same = sym (made_ended r h single n k one) in (
        c.0 ∙ ap (λ (d : Done). answer_of d.end) (f ∙ ap done_on_one p) ∙ ap (λ (o : Outcome). o.answer) same,
        c.1 ∙ ap (after_done s.job) (f ∙ ap done_on_one p) ∙ sym (standing_job (stood s.job e) e.trail) ∙ ap (λ (o : Outcome). o.state.job) same,
      )

  pub made_even : s.job.passes % 2 ≡ 0 → {x y : List ℕ} → Repeats s n s.first s.second m x y → Made (made n s) a j x y
  made_even t g =
      let k = holds_even r t in
      let areas = areas_even s.job (ended s.job n s.first s.second) (eq-eqb (s.job.passes % 2) 0 t) in
      let step = record_is k g.0 in
      (step.0, step.1, rw (made_ended r h single n k one) (g.1 ∙ areas.0), rw (made_ended r h single n k one) (g.2 ∙ areas.1))

  pub made_odd : (s.job.passes % 2 ≡ 0 → ⊥) → {x y : List ℕ} → Repeats s n s.second s.first m y x → Made (made n s) a j x y
  made_odd t g =
      let k = holds_odd r t in
      let areas = areas_odd s.job (ended s.job n s.second s.first) (ne_eqb (s.job.passes % 2) 0 t) in
      let step = record_is k g.0 in
      (step.0, step.1, rw (made_ended r h single n k one) (g.2 ∙ areas.0), rw (made_ended r h single n k one) (g.1 ∙ areas.1))
