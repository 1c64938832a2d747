-- `job::load`: the reader of one file. Assumes nothing.
use mathlib.Core.Path.{refl}
use borrow.Author.Rules.{rules}
use Rattle.history.specs.Source.{from_file}
use Rattle.job.specs.Core.{at}
use Rattle.job.proofs.Loads.{loaded_by, single_parts}
use Rattle.job.proofs.load.Goals as goal

pub returns : goal.returns
returns c =
    loaded_by c.args.table (from_file c.args.file.now) (at c.args.job.now c.args.first.now c.args.second.now)
    (λ l a k e. (search rules, search rules, single_parts (from_file c.args.file.now) _ refl {a = a.read} (search rules) (search rules)))
    c.load_by.ensures
