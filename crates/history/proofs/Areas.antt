-- The work areas: which of the two holds the present image.
--     even_next                  one more pass changes the parity
--     next_job, next_first, next_second     the record that is given, and areas of their old lengths
--     next_changed, next_stable  the new image is the present one, or the old one still is
-- Assumes nothing.
use mathlib.Core.Bool.{true, false, not}
use mathlib.Core.Logic.{⊎_elim}
use mathlib.Core.Path.{◌≡◌, sym, ap, ◌∙◌}
use Prim.Native.Nat.{ℕ, ◌+◌, ◌%◌, ◌≤◌}
use native.Mathlib.Omega.{arith}
use borrow.Author.Tests.{eqb-true, eqb-false, eq-eqb, ne_eqb}
use lib.ListN.{length}
use Rattle.history.specs.declared.Job.{Job}
use Rattle.history.specs.State.{State, pixels, even, present, image}
use Rattle.history.specs.Pass.{next_image, with_next, changed_job, stable_job}
use Rattle.seq.proofs.Lists.{either}
use Rattle.verdict.proofs.Writer.{take_over, length_over}

-- one more pass changes the parity
pub even_next : (n : ℕ) → even (n + 1) ≡ not (even n)
even_next n = ⊎_elim odd up (either (even n))
  where
    odd : even n ≡ true → even (n + 1) ≡ not (even n)
    odd e = ne_eqb ((n + 1) % 2) 0 (let z = eqb-true (n % 2) 0 e in omega arith) ∙ sym (ap not e)

    up : even n ≡ false → even (n + 1) ≡ not (even n)
    up e = eq-eqb ((n + 1) % 2) 0 (let z = eqb-false (n % 2) 0 e in omega arith) ∙ sym (ap not e)

module _ (j : Job) (s : State) where
  pub next_job : (with_next j s).job ≡ j
  unfolding with_next
  next_job = ⊎_elim (λ e. rw e) (λ e. rw e) (either (even s.job.passes))

  pub next_first : length (next_image s) ≤ length s.first → length (with_next j s).first ≡ length s.first
  unfolding with_next
  next_first l = ⊎_elim (λ e. rw e) (λ e. rw e (length_over (next_image s) s.first l)) (either (even s.job.passes))

  pub next_second : length (next_image s) ≤ length s.second → length (with_next j s).second ≡ length s.second
  unfolding with_next
  next_second l = ⊎_elim (λ e. rw e (length_over (next_image s) s.second l)) (λ e. rw e) (either (even s.job.passes))

module _ (s : State) where
  -- a changing pass turns the parity
  turned : even (changed_job s).passes ≡ not (even s.job.passes)
  unfolding changed_job
  turned = even_next s.job.passes

  -- so it names the area with the new image
  pub next_changed : length (next_image s) ≡ pixels s.job → image (with_next (changed_job s) s) ≡ next_image s
  unfolding image present with_next changed_job
  next_changed l = ⊎_elim even_passes odd_passes (either (even s.job.passes))
    where
      even_passes : even s.job.passes ≡ true → image (with_next (changed_job s) s) ≡ next_image s
      even_passes e = rw (e, turned, e) (take_over (next_image s) s.second (pixels s.job) l)

      odd_passes : even s.job.passes ≡ false → image (with_next (changed_job s) s) ≡ next_image s
      odd_passes e = rw (e, turned, e) (take_over (next_image s) s.first (pixels s.job) l)

  -- a quiet pass: the parity names the area that it named
  pub next_stable : image (with_next (stable_job s) s) ≡ image s
  unfolding image present with_next stable_job
  next_stable =
      ⊎_elim (λ (e : even s.job.passes ≡ true). simp e) (λ (e : even s.job.passes ≡ false). simp e)
      (either (even s.job.passes))
