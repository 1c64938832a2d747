-- What the private functions of the record check answer.
--     Misses t k m       m answers which persistent element is the lowest that misses element k, and which is its lowest position without a partner
--     leaves_centre kind  masks of this kind leave the centre out
--     range_rule kind   the rule on them
--     bad_after kind b m  that rule on the mask m after the mask b, 0 where there is none
--     bad_of kind ms k    the same of mask k in a list
--     lowest_bad kind ms n    the lowest of the places ms, of which n are in use, that breaks it
--     behind_elements t   the rules behind those on the elements: 18, 6, 5, 7
-- Assumes nothing.
use Rattle.std.specs.Prelude.{Bool, true, false, not, ◌&&◌, ◌||◌, List, [], ◌∷◌, ◌≡◌, ℕ, leb, length, get_or, Option, None, Some, MatchOption}
use Rattle.seq.specs.Bits.{bit}
use Rattle.seq.specs.Tab.{first}
use Rattle.table.specs.declared.Table.{Table}
use Rattle.table.specs.declared.mask.Kind.{Kind}
use Rattle.table.specs.declared.mask.Kind.TheVariants.{Element, Persistent}
use Rattle.table.specs.declared.record.Miss.{Miss}
use Rattle.table.specs.Mask.{centre, valid_mask, unpartnered}
use Rattle.table.specs.Record.{element, persistent_at, bad_mask, bad_place, missed_by, ranks_rule, persistent_rule, meet_rule, persist_rule}
use Rattle.verdict.specs.declared.Rule.{Rule}
use Rattle.verdict.specs.Rules.{Verdict}
use Rattle.verdict.specs.declared.Rule.TheVariants as why

abbrev pub Misses : Table → ℕ → Option Miss → Type 0
Misses t k m =
    MatchOption m (missed_by t k ≡ None)
    (λ w. (missed_by t k ≡ Some w.rank) × (unpartnered (persistent_at t w.rank) (element t k) ≡ Some w.position))

abbrev pub leaves_centre : Kind → Bool
leaves_centre Element = true
leaves_centre Persistent = false

abbrev pub range_rule : Kind → Rule
range_rule Element = why.ElementRange
range_rule Persistent = why.PersistentRange

unfoldable pub bad_after : Kind → ℕ → ℕ → Bool
bad_after kind b m = (leaves_centre kind && bit m centre) || (not (valid_mask m) || leb m b)

unfoldable pub bad_of : Kind → List ℕ → ℕ → Bool
bad_of kind ms k = (leaves_centre kind && bit (get_or ms k 0) centre) || bad_mask ms k

unfoldable pub lowest_bad : Kind → List ℕ → ℕ → Option ℕ
lowest_bad kind ms n = first (bad_place ms n (bad_of kind ms)) (length ms)

abbrev pub behind_elements : Table → List Verdict
behind_elements t = ranks_rule t ∷ persistent_rule t ∷ meet_rule t ∷ persist_rule t ∷ []
