-- `job::sound::any_set`: a mask is not zero exactly when not all are. Assumes nothing.
use mathlib.Core.Bool.{not}
use mathlib.Core.Path.{◌∙◌}
use lib.Dec.{eqb}
use borrow.Author.Rules.{rules}
use Rattle.std.proofs.Common.{tests}
use Rattle.std.proofs.lemmas.Iterator.{YieldsList-from_slice}
use Rattle.std.proofs.lemmas.Iterator.Search.{any_from_yields_List}
use Rattle.job.proofs.Seen.{some_nonzero}
use Rattle.job.proofs.sound.any_set.Goals as goal

pub returns : goal.returns
returns c =
    any_from_yields_List (λ n. not (eqb n 0)) _ _ c.any.result c.any.ensures.ran (YieldsList-from_slice c.args.masks.now cc) (λ x b q k. search (rules, tests))
    ∙ some_nonzero c.args.masks.now
