-- Check lists in parts, and those that go number by number: `rules k` for each k below a bound.
--     four_accepted                        four verdicts in a row
--     part_refuses, part_accepts, part_split     check lists in parts: the first part refuses; it accepts; where all of them accept
--     says_each                            what is said of each number is said of the list
--     judge_more, judge_each, judge_at     one number more that accepts; each that is accepted; the first that refuses
-- Assumes nothing.
use Rattle.std.specs.Prelude.{Ok, Err}
use mathlib.Core.List.{List, [], ◌∷◌, map}
use mathlib.Core.Path.{◌≡◌, refl, sym, ap, ap₂, ◌∙◌}
use Prim.Native.Nat.{ℕ, suc, ◌<◌}
use native.Mathlib.Decide.{le_ind}
use Rattle.seq.specs.Lists.{join}
use Rattle.seq.specs.Tab.{up_to}
use Rattle.seq.proofs.Joins.{join_up_to}
use Rattle.seq.proofs.Lists.{join_intro, map_intro}
use Rattle.seq.proofs.Tab.{up_to_intro}
use Rattle.verdict.specs.Numbers.{Says, accepts}
use Rattle.verdict.specs.Rules.{or_else, judge, Verdict, Refusal}
use Rattle.verdict.proofs.Numbers.{says_append}
use Rattle.verdict.proofs.Rules.{refused_accepted, judge_append, judge_accepted, accepted_judge, or_else_left, or_else_right}

-- where four verdicts in a row accept, each does
pub four_accepted : (a b c d : Verdict) → or_else a (or_else b (or_else c d)) ≡ Ok tt → (a ≡ Ok tt) × (b ≡ Ok tt) × (c ≡ Ok tt) × (d ≡ Ok tt)
four_accepted (Ok _) (Ok _) (Ok _) d q = (refl, refl, refl, q)
four_accepted (Ok _) (Ok _) (Err r) d q = refused_accepted refl q
four_accepted (Ok _) (Err r) c d q = refused_accepted refl q
four_accepted (Err r) b c d q = refused_accepted refl q

-- check lists in parts, one after the other
module _ (part : List Verdict) (parts : List (List Verdict)) where
  pub part_refuses : {r : Refusal} → judge part ≡ Err r → judge (join (part ∷ parts)) ≡ Err r
  part_refuses e = judge_append part (join parts) ∙ ap (λ (v : Verdict). or_else v (judge (join parts))) e

  pub part_accepts : judge part ≡ Ok tt → judge (join (part ∷ parts)) ≡ judge (join parts)
  part_accepts e = judge_append part (join parts) ∙ ap (λ (v : Verdict). or_else v (judge (join parts))) e

  pub part_split : judge (join (part ∷ parts)) ≡ Ok tt → (judge part ≡ Ok tt) × (judge (join parts) ≡ Ok tt)
  part_split e =
      let w = sym (judge_append part (join parts)) ∙ e in
      (or_else_left (judge part) (judge (join parts)) w, or_else_right (judge part) (judge (join parts)) w)

module _ (rules : ℕ → List Verdict) where
  pub says_each : {P : Refusal → Type 0} → ((k : ℕ) → Says P (judge (rules k))) → (ks : List ℕ) → Says P (judge (join (map rules ks)))
  says_each h [] = accepts
  says_each h (k ∷ ks) = says_append (rules k) (join (map rules ks)) (h k) (says_each h ks)

  -- the verdict on the numbers below k
  abbrev pub below : ℕ → Verdict
  below k = judge (join (map rules (up_to k)))

  below_suc : (k : ℕ) → below (suc k) ≡ or_else (below k) (judge (rules k))
  below_suc k = ap judge (join_up_to rules k) ∙ judge_append (join (map rules (up_to k))) (rules k)

  pub judge_more : (k : ℕ) → below k ≡ Ok tt → judge (rules k) ≡ Ok tt → below (suc k) ≡ Ok tt
  judge_more k e q = below_suc k ∙ ap₂ or_else e q

  pub judge_each : (n k : ℕ) → k < n → below n ≡ Ok tt → judge (rules k) ≡ Ok tt
  judge_each n k h e = accepted_judge (rules k) (λ v m. judge_accepted e (join_intro m (map_intro rules (up_to_intro h))))

  pub judge_at : (n k : ℕ) {r : Refusal} → k < n → below k ≡ Ok tt → judge (rules k) ≡ Err r → below n ≡ Err r
  judge_at n k {r} l e q = le_ind (λ (m : ℕ). below m ≡ Err r) (below_suc k ∙ ap₂ or_else e q) (λ m h below-m. below_suc m ∙ ap (λ (v : Verdict). or_else v (judge (rules m))) below-m) n l
