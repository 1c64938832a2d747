-- `job::load_strip`: the reader of a strip. Assumes nothing.
use borrow.Author.Rules.{rules}
use Rattle.history.specs.Source.{from_strip}
use Rattle.job.specs.Core.{at}
use Rattle.job.proofs.Loads.{loaded_by, strip_parts}
use Rattle.job.proofs.load_strip.Goals as goal

pub returns : goal.returns
returns c =
    loaded_by c.args.table (from_strip c.args.strip c.args.pixels.now) (at c.args.job.now c.args.first.now c.args.second.now)
    (λ l a k e. (search rules, search rules, strip_parts c.args.strip c.args.pixels.now _ (search rules)))
    c.load_by.ensures
