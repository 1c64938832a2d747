-- The part that C is told of is the view.
--     Promised s p                    an answer is `part_of`, it shows the view, and record and areas are as they were
--     part_refused, part_accepted     so it is, by the verdict that the library gave
-- Assumes nothing.
use Rattle.std.specs.Prelude.{Ok, Err}
use mathlib.Core.Bool.{Bool, true, false, cond}
use mathlib.Core.Path.{◌≡◌, refl}
use Prim.Native.Nat.{ℕ, ◌≤◌}
use native.Mathlib.Omega.{arith}
use lib.ListN.{length}
use Rattle.capi.specs.declared.Part.{Part}
use Rattle.capi.specs.Answers.{of_verdict}
use Rattle.capi.specs.Part.{part_as, part_of, area_of, Shows}
use Rattle.history.specs.State.{State, pixels, even, present, image, ready_verdict}
use Rattle.history.specs.View.{view_of}
use Rattle.history.specs.Call.{view, state_of}
use Rattle.history.specs.Sound.{Ready}
use Rattle.history.proofs.Ready.{accepted_ready}
use Rattle.verdict.specs.Rules.{Verdict, Refusal}

part_is : (s : State) {v : Verdict} → ready_verdict s ≡ v → part_as v s ≡ part_of s
unfolding part_of
part_is s e = rw e

-- the area that the parity names
named : (s : State) (b : Bool) → area_of (cond b 1 2) s ≡ cond b s.first s.second
named s true = refl
named s false = refl

long : (s : State) → Ready s → (b : Bool) → pixels s.job ≤ length (cond b s.first s.second)
long s r true = r.first
long s r false = r.second

-- by the verdict: a refused view is empty, an accepted one is the image in the area that the parity names
shows_as : (s : State) (v : Verdict) → ready_verdict s ≡ v → Shows (part_as v s) s
unfolding view_of image present
shows_as s (Ok _) e = record {
  bytes = rw (e, named s (even s.job.passes));
  inside = rw (named s (even s.job.passes)) (long s (accepted_ready s e) (even s.job.passes));
}
shows_as s (Err r) e = record { bytes = rw e; inside = omega arith }

-- an accepted answer that names area n
abbrev accepted : ℕ → State → Part
accepted n s = record { checked = of_verdict (Ok tt); area = n; length = pixels s.job }

-- what is promised of an answer; record and areas are as they were
abbrev Promised : State → Part → Type 0
Promised s p = (p ≡ part_of s) × Shows p s × (state_of view s ≡ s)

module _ (s : State) where
  by_verdict : (v : Verdict) → ready_verdict s ≡ v → Promised s (part_as v s)
  unfolding state_of
  by_verdict v e = (part_is s e, shows_as s v e, refl)

  pub part_refused : {r : Refusal} → ready_verdict s ≡ Err r → Promised s (part_as (Err r) s)
  part_refused e = by_verdict _ e

  pub part_accepted : ready_verdict s ≡ Ok tt → {n : ℕ} → n ≡ cond (even s.job.passes) 1 2 → Promised s (accepted n s)
  part_accepted e q = rw q (by_verdict _ e)
