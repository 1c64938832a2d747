-- The filter's passes over two areas beside the passes on a job: the area that the image goes to is the one that the parity names.
--     standing j c                  the record j with the areas of c: the first holds the image when the passes are even
--     standing-..                   its image, record and areas
--     since j c, since_none         the record j with what the passes of c made since; before the first of them
--     outcome j e                   the outcome on the job where the passes ended as e says
--     image_here, next_here         the image where the passes stand, and the next one
--     exceeds_here                  14's pass clause says what the record's budget says
--     onward_here, rested_here      a pass that changes pixels, and one that changes none
--     pass_rests, -stops, -goes     the three ways that the next pass on the job goes
--     follow_made                   the filter's passes are the passes on the job
--     Within b c, follow_within     the filter keeps to its budget
-- Assumes nothing.
use Rattle.std.specs.Prelude.{Ok, Err}
use mathlib.Core.Bool.{Bool, true, false, cond, not, ◌||◌}
use mathlib.Core.List.{List}
use mathlib.Core.Logic.{⊎_elim}
use mathlib.Core.Path.{◌≡◌, refl, sym, ap, ap₂, ◌∙◌}
use Prim.Native.Nat.{ℕ, zero, suc, ◌+◌, ◌-◌, ◌≤◌}
use native.Mathlib.Nat.{add-zero, add_assoc}
use native.Mathlib.Omega.{arith}
use borrow.Author.Tests.{ltb-false}
use lib.Dec.{ltb}
use lib.ListN.{take}
use Rattle.history.specs.declared.Effect.TheVariants.{Changed, Stable}
use Rattle.history.specs.declared.Job.{Job}
use Rattle.history.specs.Pass.{Outcome, next_image, now_added, now_removed, now_counts, exceeds, with_next, changed_job, stable_job, changing, pass_loaded}
use Rattle.history.specs.State.{State, pixels, even, present, image}
use Rattle.verdict.specs.declared.Rule.TheVariants as why
use Rattle.history.proofs.Areas.{even_next}
use Rattle.job.specs.Code.Passes.{made, allowed, answer_of, of_one, done_on_one, after, after_done}
use Rattle.job.specs.Core.{at}
use Rattle.filter.specs.declared.Budget.{Budget}
use Rattle.filter.specs.Repeated.{Trail, begin, shown, next, onward, stops, rested, Ended, follow, answered}
use Rattle.job.proofs.Counts.{ltb_sub}
use Rattle.job.proofs.OnePart.{One, one_none, one_counts}
use Rattle.job.proofs.Runs.{made_first}
use Rattle.operator.specs.Image.{differs}
use Rattle.operator.specs.Parts.{summed}
use Rattle.seq.proofs.Lists.{either}
use Rattle.seq.proofs.Tests.{or_none_left, or_none_right}
use Rattle.table.specs.declared.Table.{Table}
use Rattle.verdict.specs.Rules.{refusal}
use Rattle.verdict.specs.Writer.{over}

abbrev pub standing : Job → Trail → State
standing j c = cond (even j.passes) (at j c.here c.there) (at j c.there c.here)

abbrev pub since : Job → Trail → Job
since j c = after j j.stage c.passes c.added c.removed (of_one c.added c.removed)

abbrev pub outcome : Job → Ended → Outcome
outcome j e = record { answer = answer_of e.end; state = standing (after_done j (done_on_one (answered e))) e.trail }

module _ (j : Job) (c : Trail) where
  pub standing_image : image (standing j c) ≡ take (pixels j) c.here
  unfolding image present
  standing_image = ⊎_elim (λ (e : even j.passes ≡ true). simp e) (λ (e : even j.passes ≡ false). simp e) (either (even j.passes))

  pub standing_job : (standing j c).job ≡ j
  standing_job = ⊎_elim (λ e. rw e) (λ e. rw e) (either (even j.passes))

  pub standing_first : (standing j c).first ≡ cond (even j.passes) c.here c.there
  standing_first = ⊎_elim (λ e. rw e) (λ e. rw e) (either (even j.passes))

  pub standing_second : (standing j c).second ≡ cond (even j.passes) c.there c.here
  standing_second = ⊎_elim (λ e. rw e) (λ e. rw e) (either (even j.passes))

pub since_none : (j : Job) → One j → (here there : List ℕ) → since j (begin here there) ≡ j
since_none j o here there = rw (one_none o, add-zero j.passes, add-zero j.added, add-zero j.removed)

-- the other way round
pub turn {ℓ} : {A : Type ℓ} (b : Bool) (x y : A) → cond b x y ≡ cond (not b) y x
turn true x y = refl
turn false x y = refl

-- one pass more with the record's table and size
module _ (j : Job) (c : Trail) where
  abbrev before : List ℕ
  before = shown j.width j.height c

  abbrev upcoming : List ℕ
  upcoming = next j.table j.width j.height c

  abbrev written : List ℕ
  written = over upcoming c.there

  abbrev onwards : Trail
  onwards = onward j.table j.width j.height c

  abbrev resting : Trail
  resting = rested j.table j.width j.height c

  -- the record at rest
  abbrev rested_job : Job
  rested_job = after j 2 c.passes c.added c.removed (of_one c.added c.removed)

  abbrev full : ℕ → Bool
  full n = stops j.table j.width j.height (allowed j n) c

-- on the job j, with the passes made since
module _ (j : Job) (o : One j) (c : Trail) (s : State) (e : s ≡ standing (since j c) c) where
  job_here : s.job ≡ since j c
  job_here = ap (λ (t : State). t.job) e ∙ standing_job (since j c) c

  image_here : image s ≡ before j c
  unfolding shown
  image_here = ap image e ∙ standing_image (since j c) c

  next_here : next_image s ≡ upcoming j c
  unfolding next_image next
  next_here = rw (image_here, job_here)

  counts_here : (now_added s ≡ j.added + (onwards j c).added) × (now_removed s ≡ j.removed + (onwards j c).removed)
  unfolding now_added now_removed onward
  counts_here = (rw (next_here, image_here, job_here) (omega arith), rw (next_here, image_here, job_here) (omega arith))

  -- 14's pass clause, by what the record leaves
  exceeds_here : (n : ℕ) → j.passes ≤ pixels j → j.added + j.removed ≤ pixels j → exceeds s ≡ full j c n
  unfolding exceeds stops onward
  exceeds_here n p q = rw (counts_here.0, counts_here.1, job_here) (ap₂ ◌||◌ passes counts)
    where
      passes : ltb (pixels j) (j.passes + c.passes + 1) ≡ ltb (pixels j - j.passes) (onwards j c).passes
      passes = ap (ltb (pixels j)) (omega arith) ∙ sym (ltb_sub (pixels j) j.passes (c.passes + 1) p)

      counts : ltb (pixels j) (j.added + (onwards j c).added + (j.removed + (onwards j c).removed)) ≡ ltb (pixels j - (j.added + j.removed)) ((onwards j c).added + (onwards j c).removed)
      counts = ap (ltb (pixels j)) (omega arith) ∙ sym (ltb_sub (pixels j) (j.added + j.removed) ((onwards j c).added + (onwards j c).removed) q)

  -- the counts of the one part
  part_here : now_counts s ≡ summed j.counts (of_one (onwards j c).added (onwards j c).removed)
  unfolding now_counts onward next shown
  part_here =
      rw (next_here, image_here, job_here, o.heights)
      (one_counts j.table j.width j.height c.here (take (pixels j) c.here) j.counts c.added c.removed)

  changed_job_lem : j.stage ≡ 1 → changed_job s ≡ since j (onwards j c)
  unfolding changed_job onward
  changed_job_lem z = rw (part_here, counts_here.0, counts_here.1, job_here, z, add_assoc)

  -- the next image goes to the other area
  put_next : (k : Job) → with_next k s ≡ cond (even (j.passes + c.passes)) (at k c.here (written j c)) (at k (written j c) c.here)
  unfolding with_next
  put_next k = ⊎_elim to_second to_first (either (even (j.passes + c.passes)))
    where
      to_second : even (j.passes + c.passes) ≡ true → with_next k s ≡ cond (even (j.passes + c.passes)) (at k c.here (written j c)) (at k (written j c) c.here)
      to_second t = let f : s ≡ at (since j c) c.here c.there = e ∙ rw t in rw (next_here, f, t)

      to_first : even (j.passes + c.passes) ≡ false → with_next k s ≡ cond (even (j.passes + c.passes)) (at k c.here (written j c)) (at k (written j c) c.here)
      to_first t = let f : s ≡ at (since j c) c.there c.here = e ∙ rw t in rw (next_here, f, t)

  -- after a pass that changes pixels the parity names that area
  onward_here : j.stage ≡ 1 → with_next (changed_job s) s ≡ standing (since j (onwards j c)) (onwards j c)
  unfolding onward
  onward_here z = rw (changed_job_lem z) (put_next (since j (onwards j c)) ∙ turn (even (j.passes + c.passes)) _ _ ∙ rw (sym turned))
    where
      turned : even (j.passes + (c.passes + 1)) ≡ not (even (j.passes + c.passes))
      turned = ap even (sym (add_assoc j.passes c.passes 1)) ∙ even_next (j.passes + c.passes)

  stable_job_lem : stable_job s ≡ rested_job j c
  unfolding stable_job
  stable_job_lem = rw job_here

  rested_here : with_next (stable_job s) s ≡ standing (rested_job j c) (resting j c)
  unfolding rested
  rested_here = rw stable_job_lem (put_next (rested_job j c))

  -- the three ways that the pass goes
  changes : differs (before j c) (upcoming j c) ≡ true → pass_loaded s ≡ changing s
  unfolding pass_loaded
  changes d = let f : differs (image s) (next_image s) ≡ true = rw (next_here, image_here) d in rw f

  pass_rests : differs (before j c) (upcoming j c) ≡ false
      → pass_loaded s ≡ record { answer = (Ok Stable); state = standing (rested_job j c) (resting j c) }
  unfolding pass_loaded
  pass_rests d = let f : differs (image s) (next_image s) ≡ false = rw (next_here, image_here) d in rw (f, rested_here)

  module _ (n : ℕ) (p : j.passes ≤ pixels j) (q : j.added + j.removed ≤ pixels j) (d : differs (before j c) (upcoming j c) ≡ true) where
    pass_stops : full j c n ≡ true → pass_loaded s ≡ record { answer = Err (refusal why.Unsound 0); state = s }
    unfolding changing
    pass_stops x = changes d ∙ rw (exceeds_here n p q, x)

    pass_goes : full j c n ≡ false → j.stage ≡ 1
        → pass_loaded s ≡ record { answer = (Ok Changed); state = standing (since j (onwards j c)) (onwards j c) }
    unfolding changing
    pass_goes x z = changes d ∙ rw (exceeds_here n p q, x, onward_here z)

-- the passes with the record's table, size and budget
abbrev pub followed : Job → ℕ → ℕ → Trail → Ended
followed j limit n c = follow j.table j.width j.height (allowed j limit) n c

module _ (j : Job) (o : One j) (limit : ℕ) (z : j.stage ≡ 1) (p : j.passes ≤ pixels j) (q : j.added + j.removed ≤ pixels j) where
  -- one pass more, where those after it are as on the job
  module _ (n : ℕ) (c : Trail) (s : State) (e : s ≡ standing (since j c) c)
      (rest : made n (standing (since j (onwards j c)) (onwards j c)) ≡ outcome j (followed j limit n (onwards j c))) where
    first_made : (d : Bool) → differs (before j c) (upcoming j c) ≡ d → (x : Bool) → full j c limit ≡ x → made (suc n) s ≡ outcome j (followed j limit (suc n) c)
    unfolding follow rested
    first_made false d x f = made_first n s (pass_rests j o c s e d) ∙ rw d
    first_made true d true f = made_first n s (pass_stops j o c s e limit p q d f) ∙ rw (d, f, e)
    first_made true d false f = made_first n s (pass_goes j o c s e limit p q d f z) ∙ rest ∙ rw (d, f)

  pub follow_made : (n : ℕ) (c : Trail) → made n (standing (since j c) c) ≡ outcome j (followed j limit n c)
  unfolding made follow
  follow_made zero c = refl
  follow_made (suc n) c =
      first_made n c (standing (since j c) c) refl (follow_made n (onwards j c)) (differs (before j c) (upcoming j c)) refl (full j c limit) refl

-- the passes keep to their budget
pub record Within (b : Budget) (c : Trail) : Type 0 where
  pub passes : c.passes ≤ b.most
  pub counts : c.added + c.removed ≤ b.room

module _ (t : Table) (w h : ℕ) (b : Budget) where
  onward_within : (c : Trail) → stops t w h b c ≡ false → Within b (onward t w h c)
  unfolding stops
  onward_within c e = record {
    passes = ltb-false _ _ (or_none_left (ltb b.most (onward t w h c).passes) _ e);
    counts = ltb-false _ _ (or_none_right (ltb b.most (onward t w h c).passes) _ e);
  }

  first_within : (n : ℕ) (c : Trail) → Within b c → (Within b (onward t w h c) → Within b (follow t w h b n (onward t w h c)).trail)
      → (d : Bool) → differs (shown w h c) (next t w h c) ≡ d → (x : Bool) → stops t w h b c ≡ x → Within b (follow t w h b (suc n) c).trail
  unfolding follow rested
  first_within n c k rest false d x f = rw d (record { passes = k.passes; counts = k.counts })
  first_within n c k rest true d true f = rw (d, f) k
  first_within n c k rest true d false f = rw (d, f) (rest (onward_within c f))

  pub follow_within : (n : ℕ) (c : Trail) → Within b c → Within b (follow t w h b n c).trail
  unfolding follow
  follow_within zero c k = k
  follow_within (suc n) c k =
      first_within n c k (follow_within n (onward t w h c)) (differs (shown w h c) (next t w h c)) refl (stops t w h b c) refl
