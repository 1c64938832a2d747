-- `judge::gather` meets its contract. Assumes nothing.
use Rattle.filter.proofs.JudgeLaws.{seen_rows}
use Rattle.filter.proofs.judge.gather.Goals as goal

pub returns : goal.returns
returns c =
    seen_rows c.args.map.now c.args.at c.args.lane c.five.ensures c.five-2.ensures c.five-3.ensures
    c.five-4.ensures
    c.five-5.ensures
