-- What the private functions of the file reader answer one another.
--     Judged r rules P               r answers by the rules: their refusal, or, where they accept, a value that has P
--     NumberRead f h n               n is the number that h starts with, and the position in f past it
--     FormRead f w                   w says whether the file f has several persistent elements, and where the element count stands
--     CountRead f n                  n is the element count, and the position past it
--     before h k                     the number before number k of h, 0 where there is none
--     masks_of kind h p n            the rules on n masks of a kind, from place p on; masks_judged: their verdict
--     MasksRead f h n m masks past   masks are the first n masks of h, in m places, and past is the position in f past them
--     RanksRead f w                  w has the number of persistent elements, and the position and the place of the first
-- Assumes nothing.
use Rattle.std.specs.Prelude.{List, ◌≡◌, ℕ, zero, suc, ◌≤◌, drop, Result, Ok, Err, MatchResult}
use Rattle.table.specs.declared.mask.Kind.{Kind}
use Rattle.table.specs.declared.number.Number.{Number}
use Rattle.table.specs.declared.reading.Form.{Form}
use Rattle.table.specs.declared.reading.Ranks.{Ranks}
use Rattle.table.specs.Code.Search.{range_rule, bad_after}
use Rattle.table.specs.File.{rest, number, several, body, element_count, element_bytes, rank_count, persistent_bytes, first_place, numbers, masks_rules}
use Rattle.table.specs.Record.{max_elements, max_ranks}
use Rattle.verdict.specs.Rules.{judge, Verdict, Refusal}

abbrev pub Judged : {A : Type 0} → Result A Refusal → List Verdict → (A → Type 0) → Type 0
Judged r rules P = MatchResult r (λ a. (judge rules ≡ Ok tt) × P a) (λ e. judge rules ≡ Err e)

pub record NumberRead (f h : List ℕ) (n : Number) : Type 0 where
  pub is : n.value ≡ number h 0
  pub reached : drop n.past f ≡ rest h 1

pub record FormRead (f : List ℕ) (w : Form) : Type 0 where
  pub form : w.has_several ≡ several f
  pub reached : drop w.at f ≡ body f

pub record CountRead (f : List ℕ) (n : Number) : Type 0 where
  pub is : n.value ≡ element_count f
  pub within : n.value ≤ max_elements
  pub reached : drop n.past f ≡ element_bytes f

abbrev pub before : List ℕ → ℕ → ℕ
before h zero = 0
before h (suc k) = number h k

abbrev pub masks_of : Kind → List ℕ → ℕ → ℕ → List Verdict
masks_of kind h p n = masks_rules h p n (λ k. bad_after kind (before h k) (number h k)) (range_rule kind)

abbrev pub masks_judged : Kind → List ℕ → ℕ → ℕ → Verdict
masks_judged kind h p n = judge (masks_of kind h p n)

pub record MasksRead (f h : List ℕ) (n m : ℕ) (masks : List ℕ) (past : ℕ) : Type 0 where
  pub stored : masks ≡ numbers h n m
  pub reached : drop past f ≡ rest h n

pub record RanksRead (f : List ℕ) (w : Ranks) : Type 0 where
  pub is : w.count ≡ rank_count f
  pub few : w.count ≤ max_ranks
  pub reached : drop w.at f ≡ persistent_bytes f
  pub placed : w.place ≡ first_place f
