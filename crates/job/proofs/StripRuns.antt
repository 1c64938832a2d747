-- A loop that makes one pass after the other: what is left to make from where it stands is what was to make from its start.
--     Going n s₀ k s                    after k of at most n passes from s₀ it stands at s
--     going_none, more, all             the loop's start, one changing pass, and its last turn
--     ends_stable, ends_refused         a pass that ends it
-- Assumes nothing.
use Rattle.verdict.specs.Rules.{Refusal}
use Rattle.std.specs.Prelude.{Ok, Err}
use mathlib.Core.List.{List}
use mathlib.Core.Path.{◌≡◌, refl, sym, ap, ◌∙◌}
use Prim.Native.Nat.{ℕ, suc, ◌+◌, ◌-◌, ◌≤◌, ◌<◌}
use native.Mathlib.Omega.{arith}
use Rattle.history.specs.declared.Job.{Job}
use Rattle.history.specs.Answers.{Passed}
use Rattle.history.specs.declared.Effect.TheVariants.{Changed, Stable}
use Rattle.history.specs.Pass.{Outcome, pass_loaded, pass_of}
use Rattle.history.specs.Sound.{Ready}
use Rattle.history.specs.State.{State}
use Rattle.history.proofs.Passes.{pass_loaded_lem, Changes, changed}
use Rattle.history.proofs.Ready.{ready_accepted}
use Rattle.job.specs.Code.Passes.{made, Made}
use Rattle.job.specs.Core.{at}
use Rattle.job.proofs.Runs.{made_goes, made_ends}

pub record Going (n : ℕ) (s₀ : State) (k : ℕ) (s : State) : Type 0 where
  pub within : k ≤ n
  pub ready : Ready s
  pub loaded : s.job.stage ≡ 2 → ⊥
  pub rest : made n s₀ ≡ made (n - k) s

pub going_none : (n : ℕ) (s : State) → Ready s → (s.job.stage ≡ 2 → ⊥) → Going n s 0 s
going_none n s r h = record { within = omega arith; ready = r; loaded = h; rest = ap (λ (k : ℕ). made k s) (omega arith) }

module _ {n k : ℕ} {s₀ s : State} (g : Going n s₀ k s) (l : k < n) where
  -- one pass more is to make
  split : made n s₀ ≡ made (suc (n - (k + 1))) s
  split = let e : n - k ≡ suc (n - (k + 1)) = omega arith in g.rest ∙ ap (λ (m : ℕ). made m s) e

  here : pass_of s ≡ pass_loaded s
  here = pass_loaded_lem s (ready_accepted g.ready) g.loaded

  next : (pass_loaded s).answer ≡ Ok Changed → Changes s
  next e = changed s (ap (λ (o : Outcome). o.answer) here ∙ e)

  going_next : (pass_loaded s).answer ≡ Ok Changed → Going n s₀ (k + 1) (pass_of s).state
  going_next e = record {
    within = omega arith;
    ready = (next e).ready;
    loaded = λ z. omega (arith, (next e).loaded);
    rest = split ∙ made_goes (n - (k + 1)) s e ∙ ap (λ (o : Outcome). made (n - (k + 1)) o.state) (sym here);
  }

  going_more : (pass_loaded s).answer ≡ Ok Changed → Going n s₀ (k + 1) (pass_loaded s).state
  going_more e = rw here at (going_next e)

  -- what a pass handed back and left in the areas
  module _ {r : Passed} {j : Job} {a b : List ℕ} (m : Made (pass_loaded s) r j a b) where
    pub more : r ≡ (Ok Changed) → Going n s₀ (k + 1) (at j a b)
    more e = rw (m.1, m.2, m.3) (going_more (sym m.0 ∙ e))

    ends : (r ≡ (Ok Changed) → ⊥) → Made (made n s₀) r j a b
    ends h = rw (split ∙ made_ends (n - (k + 1)) s (λ e. h (m.0 ∙ e))) m

    pub ends_stable : r ≡ Ok Stable → Made (made n s₀) (Ok Stable) j a b
    ends_stable e =
        rw e at (ends (λ f. let z : ◌≡◌ {A = Passed} (Ok Stable) (Ok Changed) = sym e ∙ f in let y : ◌≡◌ {A = ℕ} 0 1 = cc in omega arith))

    pub ends_refused : {x : Refusal} → r ≡ Err x → Made (made n s₀) (Err x) j a b
    ends_refused {x} e =
        rw e at (ends (λ f. let z : ◌≡◌ {A = Passed} (Err x) (Ok Changed) = sym e ∙ f in let y : ◌≡◌ {A = ℕ} 0 1 = cc in omega arith))

pub all : {n k : ℕ} {s₀ s : State} → Going n s₀ k s → n ≤ k → Made (made n s₀) (Ok Changed) s.job s.first s.second
unfolding made
all {n} {k} {s₀} {s} g l = let e : n - k ≡ 0 = omega (arith, g.within) in rw (g.rest ∙ ap (λ (m : ℕ). made m s) e) (refl, refl, refl, refl)
