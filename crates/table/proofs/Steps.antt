-- Reading masks of a file, one after the other.
--     Stepped kind f at p n m k next last masks   where the loop stands after k masks: they are accepted and stored, last is the one before
--     stepped_none, stepped_more       the loop's start, and one mask more
--     stepped_refused, stepped_bad     a mask that is no number, and one that breaks its rule
--     stepped_all                      the loop's end
-- Assumes nothing.
use Rattle.std.specs.Prelude.{Ok, Err}
use mathlib.Core.Bool.{Bool, true, false, cond}
use mathlib.Core.List.{List, [], ◌∷◌, ◌++◌}
use mathlib.Core.Path.{◌≡◌, refl, sym, ap, ap₂, ◌∙◌}
use Prim.Native.Nat.{ℕ, ◌+◌, ◌≤◌, ◌<◌}
use native.Mathlib.Nat.{lt_of_lt_of_le}
use native.Mathlib.Numerals.{add-one}
use native.Mathlib.Omega.{arith}
use borrow.Author.Tests.{lt-ltb, le-ltb}
use lib.Dec.{ltb}
use lib.ListN.{drop, set, replicate, get_or-replicate, length-replicate}
use Rattle.seq.specs.Tab.{tab, up_to, Filled}
use Rattle.seq.proofs.Joins.{fill_rest}
use Rattle.seq.proofs.Tab.{fill_none, fill_more}
use Rattle.table.specs.declared.mask.Kind.{Kind}
use Rattle.table.specs.declared.number.Number.{Number}
use Rattle.table.specs.Code.Reading.{NumberRead, before, masks_of, MasksRead}
use Rattle.table.specs.Code.Search.{range_rule, bad_after}
use Rattle.table.specs.File.{rest, number, numbers}
use Rattle.table.specs.Number.{size, value, number_rules}
use Rattle.table.proofs.Judging.{below, judge_more, judge_at}
use Rattle.verdict.specs.Rules.{refusal, refuse_if, or_else, judge, Verdict, Refusal}
use Rattle.verdict.proofs.Rules.{judge_last}

-- the rules on mask k
abbrev rules_at : Kind → List ℕ → ℕ → ℕ → List Verdict
rules_at kind h p k = number_rules (p + k) (rest h k) ++ refuse_if (bad_after kind (before h k) (number h k)) (range_rule kind) (p + k) ∷ []

-- what place k holds in the end
abbrev place : List ℕ → ℕ → ℕ → ℕ
place h n k = cond (ltb k n) (number h k) 0

pub record Stepped (kind : Kind) (f : List ℕ) (at p n m k next last : ℕ) (masks : List ℕ) : Type 0 where
  pub within : k ≤ n
  pub accepted : below (rules_at kind (drop at f) p) k ≡ Ok tt
  pub reached : drop next f ≡ rest (drop at f) k
  pub earlier : last ≡ before (drop at f) k
  pub filled : Filled (place (drop at f) n) (replicate m 0) masks k

pub stepped_none : (kind : Kind) (f : List ℕ) (at p n m : ℕ) → Stepped kind f at p n m 0 at 0 (replicate m 0)
unfolding up_to
stepped_none kind f at p n m =
    record { within = omega arith; accepted = refl; reached = refl; earlier = refl; filled = fill_none (place (drop at f) n) (replicate m 0) }

module _ {kind : Kind} {f : List ℕ} {at p n m k next last : ℕ} {masks : List ℕ} (s : Stepped kind f at p n m k next last masks) (l : n ≤ m) (h : k < n) where
  -- the rules on mask k, by those on its number and by its range
  judged : {v : Verdict} {b : Bool} → judge (number_rules (p + k) (drop next f)) ≡ v → bad_after kind (before (drop at f) k) (number (drop at f) k) ≡ b
      → judge (rules_at kind (drop at f) p k) ≡ or_else v (refuse_if b (range_rule kind) (p + k))
  judged e q =
      judge_last (number_rules (p + k) (rest (drop at f) k)) (refuse_if (bad_after kind (before (drop at f) k) (number (drop at f) k)) (range_rule kind) (p + k))
      ∙ ap₂ or_else (rw s.reached at e) (ap (λ (b : Bool). refuse_if b (range_rule kind) (p + k)) q)

  -- all the rules refuse where those on mask k do
  refuses : {r : Refusal} → judge (rules_at kind (drop at f) p k) ≡ Err r → judge (masks_of kind (drop at f) p n) ≡ Err r
  refuses q = judge_at (rules_at kind (drop at f) p) n k h s.accepted q

  pub stepped_refused : {r : Refusal} → judge (number_rules (p + k) (drop next f)) ≡ Err r → judge (masks_of kind (drop at f) p n) ≡ Err r
  stepped_refused e = refuses (judged e refl)

  module _ {x : Number} (accepted : judge (number_rules (p + k) (drop next f)) ≡ Ok tt) (q : NumberRead f (drop next f) x) where
    is_number : x.value ≡ number (drop at f) k
    is_number = q.is ∙ ap value s.reached

    ranged : {b : Bool} → bad_after kind last x.value ≡ b → judge (rules_at kind (drop at f) p k) ≡ refuse_if b (range_rule kind) (p + k)
    ranged e = judged accepted (ap₂ (bad_after kind) (sym s.earlier) (sym is_number) ∙ e)

    pub stepped_bad : bad_after kind last x.value ≡ true → judge (masks_of kind (drop at f) p n) ≡ Err (refusal (range_rule kind) (p + k))
    stepped_bad b = refuses (ranged b)

    pub stepped_more : bad_after kind last x.value ≡ false → Stepped kind f at p n m (k + 1) x.past x.value (set masks k x.value)
    stepped_more b =
        record {
          within = omega arith;
          accepted = rw add-one (judge_more (rules_at kind (drop at f) p) k s.accepted (ranged b));
          reached = rw add-one (q.reached ∙ ap (λ (t : List ℕ). drop (size t) t) s.reached);
          earlier = rw add-one is_number;
          filled = fill_more s.filled (rw length-replicate (lt_of_lt_of_le h l)) (is_number ∙ simp (lt-ltb k n h));
        }

pub stepped_all : {kind : Kind} {f : List ℕ} {at p n m k next last : ℕ} {masks : List ℕ} → Stepped kind f at p n m k next last masks → n ≤ k
    → (judge (masks_of kind (drop at f) p n) ≡ Ok tt) × MasksRead f (drop at f) n m masks next
unfolding numbers
stepped_all {kind} {f} {at} {p} {n} {m} {k} s h = (
  ap (below (rules_at kind (drop at f) p)) (sym all) ∙ s.accepted,
  record {
    stored =
        fill_rest 0 s.filled (λ i w l. get_or-replicate m i 0 0 (rw length-replicate at l) ∙ sym (simp (le-ltb i n (omega (arith, s.within)))))
        ∙ ap (tab (place (drop at f) n)) (length-replicate m 0);
    reached = s.reached ∙ ap (rest (drop at f)) all;
  },
)
  where
    all : k ≡ n
    all = omega (arith, s.within)
