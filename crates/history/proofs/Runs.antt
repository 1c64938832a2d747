-- A run on any record and areas: passes called singly, up to the first that does not answer "changed".
--     after, after_ends       what follows a pass, by its answer: nothing where that is not "changed"
--     either_changed          an answer is "changed", or it is not
--     run_ends, run_goes      a run by its first pass
--     run_refused             a run that 14 or 16 ends before it begins
--     goes_next, goes_ready   the passes of a run but the first; each leaves the record ready
--     ends                    how a run ends
--     goes_few                no more passes change pixels than there are pixels
--     ends_at                 where it ends
-- Assumes nothing.
use Rattle.std.specs.Prelude.{Ok, Err}
use mathlib.Core.Logic.{◌⊎◌, inl, inr, ⊎_elim}
use mathlib.Core.Path.{◌≡◌, refl, sym, ap, ◌∙◌}
use Prim.Native.Nat.{ℕ, zero, suc, ◌+◌, ◌≤◌, ◌<◌}
use native.Mathlib.Omega.{arith}
use Rattle.history.specs.Answers.{Passed, if_changed}
use Rattle.history.specs.declared.Effect.TheVariants.{Changed, Stable}
use Rattle.history.specs.Demand1.{after_passes, Goes, RunEnds}
use Rattle.history.specs.Pass.{Outcome, pass_of}
use Rattle.history.specs.Run.{run_for, run_of}
use Rattle.history.specs.Sound.{Ready}
use Rattle.history.specs.State.{State, pixels, ready_verdict}
use Rattle.history.proofs.Passes.{pass_refused, changed}
use Rattle.seq.proofs.Tests.{lt_or_le}
use Rattle.verdict.specs.Rules.{Refusal}

-- what follows the first of several passes, by its answer
abbrev pub after {ℓ} : {A : Type ℓ} → A → A → Passed → A
after o rest a = if_changed a rest o

pub after_ends {ℓ} : {A : Type ℓ} (o rest : A) (a : Passed) → (a ≡ Ok Changed → ⊥) → after o rest a ≡ o
after_ends o rest (Ok Changed) h = absurd (h refl)
after_ends o rest (Ok Stable) h = refl
after_ends o rest (Err r) h = refl

-- an answer is "changed", or it is not
pub either_changed : (a : Passed) → (a ≡ Ok Changed) ⊎ (a ≡ Ok Changed → ⊥)
either_changed (Ok Changed) = inl refl
either_changed (Ok Stable) = inr (λ e. let z : ◌≡◌ {A = ℕ} 0 1 = cc in omega arith)
either_changed (Err r) = inr (λ e. let z : ◌≡◌ {A = ℕ} 0 1 = cc in omega arith)

pub run_ends : (n : ℕ) (s : State) → ((pass_of s).answer ≡ Ok Changed → ⊥) → run_for n s ≡ pass_of s
unfolding run_for
run_ends zero s h = refl
run_ends (suc n) s h = after_ends (pass_of s) (run_for n (pass_of s).state) (pass_of s).answer h

pub run_goes : (n : ℕ) (s : State) → (pass_of s).answer ≡ Ok Changed → run_for (suc n) s ≡ run_for n (pass_of s).state
unfolding run_for
run_goes n s e = ap (after (pass_of s) (run_for n (pass_of s).state)) e

pub run_refused : (s : State) {r : Refusal} → ready_verdict s ≡ Err r → run_of s ≡ record { answer = Err r; state = s }
unfolding run_of
run_refused s {r} e =
    let p = pass_refused s e in
    run_ends (pixels s.job) s (λ q. let z : Err r ≡ (Ok Changed) = rw p at q in let y : ◌≡◌ {A = ℕ} 0 1 = cc in omega arith) ∙ p

-- the passes after the first
pub goes_next : (k : ℕ) (s : State) → Goes (suc k) s → Goes k (pass_of s).state
goes_next k s g i l = g (suc i) (omega arith)

-- each changing pass leaves the record ready, with as many pixels
pub goes_ready : (k : ℕ) (s : State) → Goes (suc k) s → Ready (after_passes (suc k) s)
goes_ready zero s g = (changed s (g 0 (omega arith))).ready
goes_ready (suc k) s g = goes_ready k (pass_of s).state (goes_next _ s g)

pub goes_pixels : (k : ℕ) (s : State) → Goes k s → pixels (after_passes k s).job ≡ pixels s.job
goes_pixels zero s g = refl
goes_pixels (suc k) s g = goes_pixels k (pass_of s).state (goes_next _ s g) ∙ (changed s (g 0 (omega arith))).same

-- a run of at most n + 1 passes
record EndsFor (n : ℕ) (s : State) : Type 0 where
  finished : ℕ
  few : finished ≤ n
  goes : Goes finished s
  last : run_for n s ≡ pass_of (after_passes finished s)
  ends : (run_for n s).answer ≡ Ok Changed → ⊥

-- a first pass that does not answer "changed" is the run
ends_once : (n : ℕ) (s : State) → ((pass_of s).answer ≡ Ok Changed → ⊥) → EndsFor n s
ends_once n s h = record {
  finished = 0;
  few = omega arith;
  goes = λ i l. absurd (omega arith);
  last = run_ends n s h;
  ends = λ e. h (sym (ap (λ (o : Outcome). o.answer) (run_ends n s h)) ∙ e);
}

-- a first pass that answers "changed" leaves the rest of the run
ends_later : (n : ℕ) (s : State) → (pass_of s).answer ≡ Ok Changed → EndsFor n (pass_of s).state → EndsFor (suc n) s
ends_later n s e x = record {
  finished = suc x.finished;
  few = omega (arith, x.few);
  goes = more;
  last = run_goes n s e ∙ x.last;
  ends = λ q. x.ends (sym (ap (λ (o : Outcome). o.answer) (run_goes n s e)) ∙ q);
}
  where
    more : Goes (suc x.finished) s
    more zero l = e
    more (suc i) l = x.goes i (omega arith)

-- each changing pass counts, and none is made past the pixels: so a run of one pass more than are left does not answer "changed"
ends_for : (n : ℕ) (s : State) → pixels s.job ≤ n + s.job.passes → EndsFor n s
ends_for zero s l = ends_once zero s (λ e. let c = changed s e in omega (arith, c.ready.passes, c.passes, c.same))
ends_for (suc n) s l =
    ⊎_elim (λ e. ends_later n s e (ends_for n (pass_of s).state (let c = changed s e in omega (arith, c.passes, c.same))))
    (ends_once (suc n) s) (either_changed (pass_of s).answer)

pub ends : (s : State) → RunEnds s
unfolding run_of
ends s = let x = ends_for (pixels s.job) s (omega arith) in record {
  finished = x.finished;
  few = x.few;
  goes = x.goes;
  last = x.last;
  ends = x.ends;
}

-- no more passes change pixels than a run finishes
pub goes_few : (k : ℕ) (s : State) → Goes k s → k ≤ pixels s.job
goes_few k s g = ⊎_elim late (λ l. omega (arith, (ends s).few)) (lt_or_le (ends s).finished k)
  where
    late : (ends s).finished < k → k ≤ pixels s.job
    late l = absurd ((ends s).ends (ap (λ (o : Outcome). o.answer) (ends s).last ∙ g (ends s).finished l))

-- a run ends at the first pass that does not answer "changed"
pub ends_at : (k : ℕ) (s : State) → Goes k s → ((pass_of (after_passes k s)).answer ≡ Ok Changed → ⊥) → run_of s ≡ pass_of (after_passes k s)
ends_at k s g h = ⊎_elim early late (lt_or_le k x.finished)
  where
    x : RunEnds s
    x = ends s

    early : k < x.finished → run_of s ≡ pass_of (after_passes k s)
    early l = absurd (h (x.goes k l))

    late : x.finished ≤ k → run_of s ≡ pass_of (after_passes k s)
    late l = ⊎_elim (λ m. absurd (x.ends (ap (λ (o : Outcome). o.answer) x.last ∙ g x.finished m))) same (lt_or_le x.finished k)
      where
        same : k ≤ x.finished → run_of s ≡ pass_of (after_passes k s)
        same m = let e : x.finished ≡ k = omega arith in x.last ∙ ap (λ (n : ℕ). pass_of (after_passes n s)) e
