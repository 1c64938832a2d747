-- `job::load_three`: the reader of three files. Assumes nothing.
use mathlib.Core.Path.{refl}
use borrow.Author.Rules.{rules}
use Rattle.history.specs.Source.{from_three}
use Rattle.job.specs.Core.{at}
use Rattle.job.proofs.Loads.{loaded_by, single_parts}
use Rattle.job.proofs.load_three.Goals as goal

pub returns : goal.returns
returns c =
    loaded_by c.args.table (from_three c.args.one.now c.args.two.now c.args.three.now) (at c.args.job.now c.args.first.now c.args.second.now)
    (λ l a k e. (search rules, search rules, single_parts (from_three c.args.one.now c.args.two.now c.args.three.now) _ refl {a = a.read} (search rules) (search rules)))
    c.load_by.ensures
