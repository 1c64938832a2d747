-- `reading::numbered` meets its contract, by the rules on the number.
-- Assumes nothing.
use Rattle.std.specs.Prelude.{Err}
use mathlib.Core.Path.{◌≡◌, ap, ◌∙◌}
use lib.ListN.{drop}
use Rattle.std.proofs.Common.{rules}
use Rattle.std.proofs.lemmas.Result.{MatchResult-weaker, err_from_is_err_and}
use Rattle.table.specs.Code.Reading.{NumberRead}
use Rattle.table.specs.Number.{number_rules}
use Rattle.verdict.specs.Rules.{refusal}
use Rattle.table.proofs.Cursor.{number_judged, place_judged}
use Rattle.table.proofs.reading.numbered.Goals as goal

pub returns : goal.returns
returns c =
    let bytes = drop c.args.at c.args.file.now in
    place_judged c.args.place (number_rules c.args.place bytes) (NumberRead c.args.file.now bytes) c.read_at.result c.map_err.result
    (number_judged c.args.file.now c.args.at c.args.place c.read_at.ensures)
    (MatchResult-weaker c.read_at.result c.map_err.ensures.cases (λ n e. e)
    (λ i e. let p = err_from_is_err_and c.map_err.result e in let same : p.0 ≡ refusal i c.args.place = search rules in p.1 ∙ ap Err same))
