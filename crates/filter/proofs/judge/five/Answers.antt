-- `judge::five` meets its contract. Assumes nothing.
use Rattle.filter.proofs.WordLaws.{five_codes}
use Rattle.filter.proofs.judge.five.Goals as goal

pub returns : goal.returns
returns c =
    five_codes c.args.map.now c.args.at c.word.result c.args.lane c.requires.0 c.word.ensures c.code.ensures
    c.code-2.ensures
    c.code-3.ensures
    c.code-4.ensures
    c.code-5.ensures
