-- What is put at the front of lent memory.
--     take_over, drop_over, length_over     it is read back, bytes past it stay, and the memory keeps its length
--     over_whole, over_part                 it fills the memory, or a part of memory that was lent for it
--     filled_over, copied_over              a loop that fills from the front puts a table there, or a copy of a list
-- Assumes nothing.
use mathlib.Core.List.{List, ◌++◌, append-nil}
use mathlib.Core.Path.{◌≡◌, sym, ap, ◌∙◌}
use Prim.Native.Nat.{ℕ, ◌+◌, ◌≤◌}
use native.Mathlib.Omega.{arith}
use lib.ListN.{length, get_or, take, drop, length-append, length-take, length-drop, drop_of_length-le}
use lib.Seq.{take_at, drop_at, sets}
use Rattle.seq.specs.Tab.{tab, Filled}
use Rattle.seq.proofs.Stores.{sets_part}
use Rattle.seq.proofs.Tab.{length_tab, tab_get_d}
use Rattle.verdict.specs.Writer.{over}

module _ (file out : List ℕ) where
  pub take_over : (n : ℕ) → length file ≡ n → take n (over file out) ≡ file
  unfolding over
  take_over n e = take_at file (drop (length file) out) n e

  pub drop_over : (n : ℕ) → length file ≡ n → drop n (over file out) ≡ drop n out
  unfolding over
  drop_over n e = drop_at file (drop (length file) out) n e ∙ ap (λ (m : ℕ). drop m out) e

  -- memory that is long enough
  pub length_over : length file ≤ length out → length (over file out) ≡ length out
  unfolding over
  length_over l = simp (length-append, length-drop) (omega arith)

pub over_whole : (file out : List ℕ) → length out ≤ length file → over file out ≡ file
unfolding over
over_whole file out h = ap (λ (t : List ℕ). file ++ t) (drop_of_length-le out h) ∙ append-nil file

pub over_part : (file d : List ℕ) (a k : ℕ) → length file ≡ k → a + k ≤ length d → take a d ++ (over file (take k (drop a d)) ++ drop k (drop a d)) ≡ sets d a file
over_part file d a k e h =
    ap (λ (t : List ℕ). take a d ++ (t ++ drop k (drop a d))) (over_whole file (take k (drop a d)) (simp length-take (omega arith))) ∙ sets_part file d a k e h

pub filled_over : {f : ℕ → ℕ} {d l : List ℕ} {n : ℕ} → Filled f d l n → l ≡ over (tab f n) d
unfolding over
filled_over {f} {d} {l} {n} r = r.filled ∙ ap (λ (m : ℕ). tab f n ++ drop m d) (sym (length_tab f n))

pub copied_over : (file : List ℕ) {d l : List ℕ} {n : ℕ} → Filled (λ k. get_or file k 0) d l n → n ≡ length file → l ≡ over file d
copied_over file {d} r e = filled_over r ∙ ap (λ (t : List ℕ). over t d) (ap (tab (λ k. get_or file k 0)) e ∙ tab_get_d file 0)
