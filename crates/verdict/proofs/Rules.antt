-- The laws of check lists.
--     or_else_assoc, or_else_accepted, or_else_left, or_else_right   verdicts in a row
--     judge_append, judge_last, judge_within      a list of rules in two parts, with one rule more at its end, and with the verdict of a list within
--     judge_accepted    every rule of an accepted list accepts
--     accepted_judge    a list of rules that all accept
--     refuse_if_accepted, refuse_by_accepted, refuse_at_accepted    what a rule that accepts says of its test, of its search
--     refuse_at_map      a place that is worked out before or after
--     search_found, search_none    what a loop that searches from 0 on answers, the places counted from 1
-- Assumes nothing.
use Rattle.std.specs.Prelude.{Option, None, Some, option_map, Ok, Err}
use mathlib.Core.Bool.{Bool, true, false}
use mathlib.Core.List.{List, [], ◌∷◌, ◌++◌, Memᴰ}
use mathlib.Core.Path.{◌≡◌, refl, sym, ap, ◌∙◌}
use Prim.Native.Nat.{ℕ, suc, ◌+◌, ◌≤◌, ◌<◌}
use native.Mathlib.Numerals.{add-one}
use native.Mathlib.Omega.{arith}
use Rattle.seq.specs.Tab.{first}
use Rattle.seq.proofs.Search.{Passed, passed_found, passed_all}
use Rattle.verdict.specs.declared.Rule.{Rule}
use Rattle.verdict.specs.Rules.{refusal, refuse_if, refuse_by, refuse_at, or_else, judge, Verdict, Refusal}

pub judge_append : (vs ws : List Verdict) → judge (vs ++ ws) ≡ or_else (judge vs) (judge ws)
judge_append [] ws = refl
judge_append ((Ok _) ∷ vs) ws = judge_append vs ws
judge_append (Err r ∷ vs) ws = refl

-- a list of rules in place of one that judges by it
pub judge_within : (us vs ws : List Verdict) → judge (us ++ judge vs ∷ ws) ≡ judge (us ++ (vs ++ ws))
judge_within [] vs ws = sym (judge_append vs ws)
judge_within (u ∷ us) vs ws = ap (or_else u) (judge_within us vs ws)

-- a refusal is no acceptance
pub refused_accepted {ℓ} : {P : Type ℓ} {v : Verdict} {r : Refusal} → v ≡ Err r → v ≡ Ok tt → P
refused_accepted p q = absurd (let z : ◌≡◌ {A = ℕ} 0 1 = cc in omega arith)

pub or_else_assoc : (u v w : Verdict) → or_else (or_else u v) w ≡ or_else u (or_else v w)
or_else_assoc (Ok _) v w = refl
or_else_assoc (Err r) v w = refl

pub or_else_accepted : (v : Verdict) → or_else v (Ok tt) ≡ v
or_else_accepted (Ok _) = refl
or_else_accepted (Err r) = refl

pub judge_last : (vs : List Verdict) (v : Verdict) → judge (vs ++ v ∷ []) ≡ or_else (judge vs) v
judge_last vs v = judge_append vs (v ∷ []) ∙ ap (or_else (judge vs)) (or_else_accepted v)

pub or_else_left : (v w : Verdict) → or_else v w ≡ Ok tt → v ≡ Ok tt
or_else_left (Ok _) w e = refl
or_else_left (Err r) w e = e

pub or_else_right : (v w : Verdict) → or_else v w ≡ Ok tt → w ≡ Ok tt
or_else_right (Ok _) w e = e
or_else_right (Err r) w e = refused_accepted refl e

pub judge_accepted : {v : Verdict} {vs : List Verdict} → judge vs ≡ Ok tt → Memᴰ v vs → v ≡ Ok tt
judge_accepted e (Memᴰ.head {x = x} {xs = xs} q) = q ∙ or_else_left x (judge xs) e
judge_accepted e (Memᴰ.tail {x = x} {xs = xs} m) = judge_accepted (or_else_right x (judge xs) e) m

pub accepted_judge : (vs : List Verdict) → ((v : Verdict) → Memᴰ v vs → v ≡ Ok tt) → judge vs ≡ Ok tt
accepted_judge [] h = refl
accepted_judge (v ∷ vs) h = rw (h v (Memᴰ.head refl)) (accepted_judge vs (λ w m. h w (Memᴰ.tail m)))

-- a rule that accepts: its test fails, its search finds nothing
pub refuse_if_accepted : (b : Bool) (n : Rule) (p : ℕ) → refuse_if b n p ≡ Ok tt → b ≡ false
refuse_if_accepted true n p e = refused_accepted refl e
refuse_if_accepted false n p e = refl

pub refuse_by_accepted : (o : Option ℕ) (say : ℕ → Refusal) → refuse_by o say ≡ Ok tt → o ≡ None
refuse_by_accepted None say e = refl
refuse_by_accepted (Some k) say e = refused_accepted refl e

pub refuse_at_accepted : (o : Option ℕ) (n : Rule) (at : ℕ → ℕ) → refuse_at o n at ≡ Ok tt → o ≡ None
refuse_at_accepted o n at = refuse_by_accepted o (λ k. refusal n (at k))

pub refuse_at_map : (o : Option ℕ) (n : Rule) (at : ℕ → ℕ) → refuse_at o n at ≡ refuse_at (option_map at o) n (λ k. k)
refuse_at_map None n at = refl
refuse_at_map (Some k) n at = refl

module _ {p : ℕ → Bool} {n k : ℕ} (rule : Rule) (s : Passed p n k) where
  pub search_found : k < n → p k ≡ true → Err (refusal rule (k + 1)) ≡ refuse_at (first p n) rule suc
  search_found l e = rw add-one (ap (λ (o : Option ℕ). refuse_at o rule suc) (passed_found s l e))

  pub search_none : n ≤ k → (Ok tt) ≡ refuse_at (first p n) rule suc
  search_none l = ap (λ (o : Option ℕ). refuse_at o rule suc) (passed_all s l)
