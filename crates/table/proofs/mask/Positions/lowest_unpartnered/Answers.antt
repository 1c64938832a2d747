-- `mask::Positions::lowest_unpartnered` meets its contract: a search over the positions.
-- Assumes nothing.
use mathlib.Core.Bool.{true, false, not, ◌&&◌}
use mathlib.Core.Path.{◌≡◌}
use Rattle.std.proofs.Common.{rules}
use Rattle.std.proofs.lemmas.Iterator.{first_from_Range}
use borrow.Author.Tests.{tests}
use Rattle.seq.specs.Bits.{bit}
use Rattle.table.specs.Mask.{position_count, partner, unpartnered}
use Rattle.table.proofs.Found.{found_first}
use Rattle.table.proofs.mask.Positions.lowest_unpartnered.Goals as goal

pub returns : goal.returns
unfolding unpartnered
returns c =
    let a = c.args in
    found_first (λ b. bit a.self.mask b && not (partner a.self.mask a.element.mask b)) position_count _
    (first_from_Range _ _ _ _ (λ b. (bit a.self.mask b && not (partner a.self.mask a.element.mask b)) ≡ true) (λ b. (bit a.self.mask b && not (partner a.self.mask a.element.mask b)) ≡ false)
    c.find.ensures.ran (λ x q k. search (rules, tests)) (λ x q k. search (rules, tests)))
