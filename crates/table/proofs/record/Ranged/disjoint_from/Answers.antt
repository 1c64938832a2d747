-- `record::Ranged::disjoint_from` meets its contract: a search over the earlier elements.
-- Assumes nothing.
use mathlib.Core.Bool.{true, false, not}
use mathlib.Core.Path.{◌≡◌}
use Rattle.std.proofs.Common.{rules}
use Rattle.std.proofs.lemmas.Iterator.{first_from_Range}
use borrow.Author.Tests.{tests}
use lib.Bits.{bit_and}
use Rattle.table.specs.Mask.{meets}
use Rattle.table.specs.Record.{element, disjoint_from}
use Rattle.table.proofs.Found.{found_first}
use Rattle.table.proofs.Positions.{apart_masks, meeting_masks}
use Rattle.table.proofs.record.Ranged.disjoint_from.Goals as goal

pub returns : goal.returns
unfolding disjoint_from
returns c =
    let a = c.args in
    found_first (λ j. not (meets (element a.self.table a.k) (element a.self.table j))) a.k _
    (first_from_Range _ _ _ _ (λ j. not (meets (element a.self.table a.k) (element a.self.table j)) ≡ true) (λ j. not (meets (element a.self.table a.k) (element a.self.table j)) ≡ false)
    c.find.ensures.ran (λ x q k. let z : bit_and (element a.self.table a.k) (element a.self.table x) ≡ 0 = search (rules, tests) in apart_masks _ _ (c.args.self.element_lt _ c.requires) z)
    (λ x q k. let z : bit_and (element a.self.table a.k) (element a.self.table x) ≡ 0 → ⊥ = search (rules, tests) in (search (rules, tests), meeting_masks _ _ (c.args.self.element_lt _ c.requires) z)))
