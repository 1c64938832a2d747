-- What reading a number answers.
--     number_past, number_short, number_long, number_zero     the refusals, by the count m of the bytes with bit 7 set
--     number_whole                     the number and the position past it
--     number_judged                    what the answer says of the rules 1 and 2
--     place_judged                     the same of the answer that has the place
-- Assumes nothing.
use Rattle.std.specs.Prelude.{Result, Ok, Err, MatchResult}
use mathlib.Core.Bool.{Bool, true, false, cond, ◌&&◌, ◌||◌, and-false}
use mathlib.Core.List.{List}
use mathlib.Core.Logic.{◌⊎◌, inl, inr}
use mathlib.Core.Path.{◌≡◌, refl, sym, ap, ◌∙◌}
use Prim.Native.Nat.{ℕ, ◌+◌, ◌≤◌, ◌<◌, suc-le-suc}
use native.Mathlib.Nat.{add_assoc}
use borrow.Author.Tests.{lt-ltb, le-ltb, le-leb, lt-leb, eq-eqb}
use lib.Dec.{leb, eqb}
use lib.ListN.{length, get_or, take, drop, drop_of_length-le}
use lib.Seq.{drop-drop}
use Rattle.table.specs.declared.number.Number.{Number}
use Rattle.table.specs.Code.Cursor.{number_of, number_at}
use Rattle.table.specs.Code.Reading.{Judged, NumberRead}
use Rattle.table.specs.Number.{more, size, groups, value, ends, too_long, not_fewest, number_rules}
use Rattle.verdict.specs.declared.Rule.{Rule}
use Rattle.verdict.specs.Rules.{refusal, refuse_if, or_else, judge, Verdict, Refusal}
use Rattle.verdict.specs.declared.Rule.TheVariants as why

-- the two answers
abbrev pub found : ℕ → ℕ → Result Number Rule
found v past = Ok (record { value = v; past = past })

abbrev pub refused : Rule → Result Number Rule
refused i = Err i

module _ (l : List ℕ) (at : ℕ) {m : ℕ} (e : m ≡ more l) where
  pub number_short : m < 4 → length l ≤ m → refused why.NumberEnds ≡ number_of l at
  unfolding number_of ends
  number_short h s = simp (← e, lt-ltb m 4 h, le-leb (length l) m s)

  pub number_long : 4 ≤ m → refused why.NumberForm ≡ number_of l at
  unfolding number_of ends too_long
  number_long h = simp (← e, le-ltb m 4 h, le-leb 4 m h)

  module _ (h : m < 4) (w : m < length l) where
    pub number_zero : 0 < m → get_or l m 0 ≡ 0 → refused why.NumberForm ≡ number_of l at
    unfolding number_of ends too_long not_fewest
    number_zero s z = simp (← e, lt-leb (length l) m w, lt-ltb m 4 h, lt-leb 4 m h, le-leb 1 m s, eq-eqb (get_or l m 0) 0 z)

    -- the only group, or a last one that is not 0
    fewest : (m ≤ 0) ⊎ (eqb (get_or l m 0) 0 ≡ false) → (leb 1 m && eqb (get_or l m 0) 0) ≡ false
    fewest (inl z) = ap (λ (b : Bool). b && eqb (get_or l m 0) 0) (lt-leb 1 m (suc-le-suc z))
    fewest (inr f) = ap (λ (b : Bool). leb 1 m && b) f ∙ and-false (leb 1 m)

    pub number_whole : {v : ℕ} → (m ≤ 0) ⊎ (eqb (get_or l m 0) 0 ≡ false) → v ≡ groups (take (m + 1) l) → found v (at + m + 1) ≡ number_of l at
    unfolding number_of ends too_long not_fewest value size
    number_whole f g = simp (← e, lt-leb (length l) m w, lt-ltb m 4 h, lt-leb 4 m h, fewest f, g, add_assoc)

-- behind the end there is no number
pub number_past : (bytes : List ℕ) (at : ℕ) → length bytes ≤ at → refused why.NumberEnds ≡ number_at bytes at
unfolding number_at number_of ends more
number_past bytes at h = rw (drop_of_length-le bytes h)

-- what the answer says of the rules 1 and 2, by the three tests of a number
module _ (f : List ℕ) (at place : ℕ) where
  abbrev judged : Result Number Rule → Verdict → Type 0
  judged r w = MatchResult r (λ n. (w ≡ Ok tt) × NumberRead f (drop at f) n) (λ i. w ≡ Err (refusal i place))

  abbrev verdict : Bool → Bool → Bool → Verdict
  verdict e t n = or_else (refuse_if e why.NumberEnds place) (or_else (refuse_if t why.NumberForm place) (or_else (refuse_if n why.NumberForm place) (Ok tt)))

  by_tests : (e t n : Bool) → judged (cond e (Err why.NumberEnds) (cond (t || n) (Err why.NumberForm) (found (value (drop at f)) (at + size (drop at f))))) (verdict e t n)
  by_tests true t n = refl
  by_tests false true n = refl
  by_tests false false true = refl
  by_tests false false false = (refl, record { is = refl; reached = sym (drop-drop (size (drop at f)) at f) })

  pub number_judged : {r : Result Number Rule} → r ≡ number_at f at → judged r (judge (number_rules place (drop at f)))
  unfolding number_at number_of
  number_judged e = rw e (by_tests (ends (drop at f)) (too_long (drop at f)) (not_fewest (drop at f)))

pub place_judged : (place : ℕ) (rules : List Verdict) (P : Number → Type 0) (r : Result Number Rule) (s : Result Number Refusal)
    → MatchResult r (λ n. (judge rules ≡ Ok tt) × P n) (λ i. judge rules ≡ Err (refusal i place)) → MatchResult r (λ n. s ≡ Ok n) (λ i. s ≡ Err (refusal i place))
    → Judged s rules P
place_judged place rules P (Ok n) s h e = rw e h
place_judged place rules P (Err i) s h e = rw e h
