-- `record::first_bad` meets its contract: a search over the places.
-- Assumes nothing.
use mathlib.Core.Bool.{true, false}
use mathlib.Core.Path.{◌≡◌}
use Rattle.std.proofs.Common.{rules}
use Rattle.std.proofs.lemmas.Iterator.{first_from_Range}
use borrow.Author.Tests.{tests}
use lib.ListN.{length}
use Rattle.table.specs.Code.Search.{bad_of, lowest_bad}
use Rattle.table.specs.Record.{bad_place}
use Rattle.table.proofs.Found.{found_first}
use Rattle.table.proofs.record.first_bad.Goals as goal

pub returns : goal.returns
unfolding lowest_bad
returns c =
    let a = c.args in
    found_first (bad_place a.masks.now a.count (bad_of a.kind a.masks.now)) (length a.masks.now) _
    (first_from_Range _ _ _ _ (λ k. bad_place a.masks.now a.count (bad_of a.kind a.masks.now) k ≡ true) (λ k. bad_place a.masks.now a.count (bad_of a.kind a.masks.now) k ≡ false)
    c.find.ensures.ran (λ x q k. search (rules, tests)) (λ x q k. search (rules, tests)))
