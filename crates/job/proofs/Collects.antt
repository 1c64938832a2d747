-- Collect by the code's tests: 14 and 16, then 17, then what the writer answers on the present image.
--     Collected s out w j after    answer, output, record and areas are as the definition says
--     areas_stay                   the areas are as they were
--     same_pixels                  the writer on equal pixels
--     unready, unsettled           refused before the writer is called
--     written, unwritten           the writer's answer
-- Assumes nothing.
use Rattle.std.specs.Prelude.{Ok, Err}
use mathlib.Core.List.{List}
use mathlib.Core.Path.{◌≡◌, refl, sym, ap, ◌∙◌}
use Prim.Native.Nat.{ℕ}
use native.Mathlib.Omega.{arith}
use borrow.Author.Tests.{eq-eqb, ne_eqb}
use lib.Dec.{ltb}
use lib.ListN.{length}
use Rattle.history.specs.Collect.{collected, collect_verdict, collect_written, collect_output, collect_as, collect_state}
use Rattle.history.specs.declared.Job.{Job}
use Rattle.history.specs.State.{State, image, empty_job, ready_verdict}
use Rattle.image.specs.declared.strip.Strip.{Strip}
use Rattle.image.specs.Strip.{heights_of, strip_width, strip_bytes, strip_write_verdict, strip_written, strip_output}
use Rattle.verdict.specs.declared.Rule.TheVariants as why
use Rattle.history.proofs.Ready.{accepted_ready, ready_parts, ready_writable}
use Rattle.history.proofs.States.{collect_split}
use Rattle.verdict.specs.Rules.{refusal, refuse_if, Verdict, Refusal}
use Rattle.verdict.proofs.Rules.{or_else_accepted}
use Rattle.verdict.specs.Writer.{Written}

abbrev pub Collected : State → List ℕ → Written → Job → List ℕ → Type 0
Collected s out w j after =
    (w ≡ collect_written (length out) s)
    × (j ≡ (collect_state (length out) s).job)
    × (after ≡ collect_output out s)
    × ((collect_state (length out) s).first ≡ s.first)
    × ((collect_state (length out) s).second ≡ s.second)

-- both areas stay, whatever the verdict is
areas_stay : (n : ℕ) (s : State) → ((collect_state n s).first ≡ s.first) × ((collect_state n s).second ≡ s.second)
unfolding collect_state
areas_stay n s = by (collect_verdict n s)
  where
    by : (v : Verdict) → ((collect_as v s).first ≡ s.first) × ((collect_as v s).second ≡ s.second)
    by (Ok _) = (refl, refl)
    by (Err r) = (refl, refl)

-- the writer on equal pixels
pub same_pixels : (p : Strip) (out : List ℕ) {px qx after : List ℕ} {a : Written} → px ≡ qx
    → (a ≡ strip_written p px (length out)) × (after ≡ strip_output p px out) → (a ≡ strip_written p qx (length out)) × (after ≡ strip_output p qx out)
same_pixels p out e m = rw (sym e) m

module _ (s : State) (out : List ℕ) where
  refused : {r : Refusal} → collect_verdict (length out) s ≡ Err r → Collected s out (Err r) s.job out
  unfolding collect_written collect_output collect_state
  refused e = rw e (refl, refl, refl, refl, refl)

  pub unready : {r : Refusal} → ready_verdict s ≡ Err r → Collected s out (Err r) s.job out
  unready e = refused (collect_split (length out) s ∙ rw e)

  pub unsettled : ready_verdict s ≡ Ok tt → s.job.stage ≡ 1
      → Collected s out (Err (refusal why.NotStable 0)) s.job out
  unsettled e z = refused (collect_split (length out) s ∙ rw (e, eq-eqb s.job.stage 1 z))

  module _ (ok : ready_verdict s ≡ Ok tt) (settled : s.job.stage ≡ 1 → ⊥) {after : List ℕ} {w : Written}
      (a : w ≡ strip_written s.job.strip (image s) (length out)) (o : after ≡ strip_output s.job.strip (image s) out) where
    -- what is written
    files : collected s ≡ strip_bytes (strip_width s.job.strip) (heights_of s.job.strip) (image s)
    unfolding collected
    files = ap (λ (x : ℕ). strip_bytes x (heights_of s.job.strip) (image s)) (ready_parts (accepted_ready s ok)).width

    -- the writer's verdict is what is left
    verdict : collect_verdict (length out) s ≡ strip_write_verdict s.job.strip (image s) (length out)
    unfolding strip_write_verdict
    verdict =
        collect_split (length out) s
        ∙ rw (ok, ne_eqb s.job.stage 1 settled, ready_writable (accepted_ready s ok), sym files)
        (or_else_accepted (refuse_if (ltb (length out) (length (collected s))) why.AreaShort 0))

    answer : w ≡ collect_written (length out) s
    unfolding collect_written strip_written
    answer = a ∙ rw (verdict, files)

    output : after ≡ collect_output out s
    unfolding collect_output strip_output
    output = o ∙ rw (verdict, files)

    -- the record is emptied exactly where a length is answered
    pub written : {n : ℕ} → w ≡ Ok n → {j : Job} → j ≡ empty_job → Collected s out w j after
    unfolding collect_written collect_state
    written {n} e {j} q = (answer, by (collect_verdict (length out) s) refl, output, (areas_stay (length out) s).0, (areas_stay (length out) s).1)
      where
        by : (v : Verdict) → collect_verdict (length out) s ≡ v → j ≡ (collect_state (length out) s).job
        by (Ok tt) f = rw (f, q)
        by (Err r) f = absurd (let z : Ok n ≡ Err r = sym e ∙ answer ∙ rw f in let y : ◌≡◌ {A = ℕ} 0 1 = cc in omega arith)

    pub unwritten : {r : Refusal} → w ≡ Err r → Collected s out w s.job after
    unfolding collect_written collect_state
    unwritten {r} e = (answer, by (collect_verdict (length out) s) refl, output, (areas_stay (length out) s).0, (areas_stay (length out) s).1)
      where
        by : (v : Verdict) → collect_verdict (length out) s ≡ v → s.job ≡ (collect_state (length out) s).job
        by (Ok tt) f = absurd (let z : Err r ≡ Ok (length (collected s)) = sym e ∙ answer ∙ rw f in let y : ◌≡◌ {A = ℕ} 0 1 = cc in omega arith)
        by (Err x) f = rw f
