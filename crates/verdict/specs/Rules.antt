-- Check lists: rules in 01's order, of which the first that fails speaks.
--     Refusal                a rule and its place, as the library refuses; a caller's own may name something else (`witnessed` and `refusal` at its type)
--     Verdict                nothing is refused, or the refusal
--     number x               01's number of a rule; number_of r: of the rule that a refusal names
--     witnessed x p a b      the refusal by the rule x at place p, and with it the witness a and the position b (02, T-07)
--     refusal x p            the same without: both are 0
--     refuse_if bad x p       refuse by x at p where the test bad holds
--     refuse_by found say     refuse with what is said of what a search found
--     refuse_at found x at    refuse by x at the place of what a search found
--     or_else v w             the first verdict where it refuses, else the second
--     judge rules            the first refusal of the list, in its order
--     is_accepted v           the verdict refuses nothing
--     result_of v a           a where the verdict refuses nothing, else its refusal
-- Assumes nothing.
use Rattle.std.specs.Prelude.{Bool, true, false, List, [], ◌∷◌, ℕ, Option, None, Some, Ok, Err, Result}
use Rattle.verdict.specs.declared.Refusal as made
use Rattle.verdict.specs.declared.Rule.{Rule}
use Rattle.verdict.specs.declared.Rule.TheVariants as why

abbrev pub Refusal : Type 0
Refusal = made.Refusal Rule

abbrev pub Verdict : Type 0
Verdict = Result Unit Refusal

abbrev pub number : Rule → ℕ
number why.NumberEnds = 1
number why.NumberForm = 2
number why.ElementCount = 3
number why.ElementRange = 4
number why.ElementsDisjoint = 5
number why.PersistentRange = 6
number why.NotPersistent = 7
number why.BytesLeft = 8
number why.HeaderForm = 9
number why.SizeRange = 10
number why.RasterLength = 11
number why.PixelValue = 12
number why.AreaShort = 13
number why.Unsound = 14
number why.NotCollected = 15
number why.NothingLoaded = 16
number why.NotStable = 17
number why.RankCount = 18
number why.Parts = 23
number why.AllowanceSpent = 24
number why.QuotaRange = 25
number why.SizesDiffer = 26

abbrev pub number_of : Refusal → ℕ
number_of r = number r.rule

abbrev pub witnessed : {R : Type 0} → R → ℕ → ℕ → ℕ → made.Refusal R
witnessed x p a b = record { rule = x; place = p; witness = a; position = b }

abbrev pub refusal : {R : Type 0} → R → ℕ → made.Refusal R
refusal x p = witnessed x p 0 0

abbrev pub refuse_if : Bool → Rule → ℕ → Verdict
refuse_if true x p = Err (refusal x p)
refuse_if false x p = Ok tt

abbrev pub refuse_by : Option ℕ → (ℕ → Refusal) → Verdict
refuse_by None say = Ok tt
refuse_by (Some k) say = Err (say k)

abbrev pub refuse_at : Option ℕ → Rule → (ℕ → ℕ) → Verdict
refuse_at found x at = refuse_by found (λ k. refusal x (at k))

abbrev pub or_else : Verdict → Verdict → Verdict
or_else (Ok _) w = w
or_else (Err r) w = Err r

abbrev pub judge : List Verdict → Verdict
judge [] = Ok tt
judge (v ∷ vs) = or_else v (judge vs)

abbrev pub is_accepted : Verdict → Bool
is_accepted (Ok _) = true
is_accepted (Err r) = false

abbrev pub result_of : {A : Type 0} → Verdict → A → Result A Refusal
result_of (Ok _) a = Ok a
result_of (Err r) a = Err r
