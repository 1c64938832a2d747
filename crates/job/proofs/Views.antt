-- View and figures by the code's tests.
--     Viewed s px, Shown s a             what they promise
--     ready_by                  a record that 14 and 16 accept, by the code's test
--     view_refused, view_shown           an empty part, or the present image
--     figures_refused, figures_shown     the refusal, or balance and cover
--     black_of_lem                           the black pixels of equal images
--     few_black                          the black pixels are at most all
-- Assumes nothing.
use Rattle.std.specs.Prelude.{Ok, Err}
use mathlib.Core.List.{List, []}
use mathlib.Core.Path.{◌≡◌, refl, sym, ap, ◌∙◌}
use Prim.Native.Nat.{ℕ, ◌≤◌}
use native.Mathlib.Omega.{arith}
use lib.IntN.{ℤ, sub_ℕ}
use Rattle.history.specs.Answers.{Figured}
use Rattle.operator.specs.Image.{black}
use Rattle.history.specs.Call.{view, figures, state_of}
use Rattle.history.specs.State.{State, pixels, image, ready_verdict}
use Rattle.history.specs.View.{view_of, cover, figures_of}
use Rattle.history.specs.Sound.{Ready}
use Rattle.history.proofs.Ready.{accepted_ready, ready_image, ready_small}
use Rattle.image.specs.Strip.{max_strip}
use Rattle.job.proofs.Black.{black_few}
use Rattle.verdict.specs.Rules.{Verdict, Refusal}

pub ready_by : {s : State} {v : Verdict} → v ≡ ready_verdict s → v ≡ Ok tt → Ready s
ready_by {s} e f = accepted_ready s (sym e ∙ f)

-- both leave record and areas as they were
abbrev Viewed : State → List ℕ → Type 0
Viewed s px = (px ≡ view_of s) × (state_of view s ≡ s)

abbrev Shown : State → Figured → Type 0
Shown s a = (a ≡ figures_of s) × (state_of figures s ≡ s)

module _ (s : State) where
  pub view_refused : {r : Refusal} → ready_verdict s ≡ Err r → Viewed s []
  unfolding view_of state_of
  view_refused e = rw e (refl, refl)

  pub view_shown : ready_verdict s ≡ Ok tt → {px : List ℕ} → px ≡ image s → Viewed s px
  unfolding view_of state_of
  view_shown e q = rw e (q, refl)

  pub figures_refused : {r : Refusal} → ready_verdict s ≡ Err r → Shown s (Err r)
  unfolding figures_of state_of
  figures_refused e = rw e (refl, refl)

  pub figures_shown : ready_verdict s ≡ Ok tt → {n m : ℕ} {b : ℤ} → n ≡ black (image s) → b ≡ sub_ℕ s.job.added s.job.removed
      → m ≡ cover n (pixels s.job) → Shown s (Ok (record { balance = b; cover = m }))
  unfolding figures_of state_of
  figures_shown e q b c = rw (e, b, c, q) (refl, refl)

pub black_of_lem : {px qx : List ℕ} {n : ℕ} → px ≡ qx → n ≡ black px → n ≡ black qx
black_of_lem e p = p ∙ ap black e

pub few_black : {s : State} → Ready s → {n : ℕ} → n ≡ black (image s) → n ≤ max_strip
few_black {s} r e = omega (arith, black_few (image s), (ready_image r).sized, ready_small r)
