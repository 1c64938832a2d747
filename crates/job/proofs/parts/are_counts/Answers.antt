-- `job::parts::are_counts`: the one sum, then the other. Assumes nothing.
use mathlib.Core.Bool.{Bool, ◌&&◌}
use mathlib.Core.Path.{◌≡◌, sym, ap, ap₂, ◌∙◌}
use borrow.Author.Rules.{rules}
use lib.ListN.{length}
use Rattle.history.specs.State.{sums_to}
use Rattle.image.specs.Strip.{max_parts}
use Rattle.job.proofs.PartTests.{sums_whole}
use Rattle.job.proofs.parts.are_counts.Goals as goal

pub returns-then-sums_to : goal.returns-then-sums_to
returns-then-sums_to c =
    let added_places : length c.args.job.now.counts.added ≡ max_parts = search rules in
    let removed_places : length c.args.job.now.counts.removed ≡ max_parts = search rules in
    sym (
    ap₂ ◌&&◌
    (sums_whole c.args.job.now.added c.args.job.now.counts.added added_places c.sums_to.ensures ∙ c.if-sums_to.true)
    (sums_whole c.args.job.now.removed c.args.job.now.counts.removed removed_places c.sums_to-then-sums_to.ensures)
    )

pub returns-else-sums_to : goal.returns-else-sums_to
returns-else-sums_to c =
    let added_places : length c.args.job.now.counts.added ≡ max_parts = search rules in
    c.if-sums_to.false
    ∙ sym (
    ap (λ (b : Bool). b && sums_to c.args.job.now.removed c.args.job.now.counts.removed)
    (sums_whole c.args.job.now.added c.args.job.now.counts.added added_places c.sums_to.ensures ∙ c.if-sums_to.false)
    )
