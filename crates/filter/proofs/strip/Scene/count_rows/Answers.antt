-- `strip::Scene::count_rows` meets its contract: what is counted between the image and the band. Assumes nothing.
use Rattle.filter.proofs.BandLaws.{rows_changed}
use Rattle.filter.proofs.strip.Scene.count_rows.Goals as goal

pub returns : goal.returns
returns c =
    rows_changed c.args.self.now.tall c.requires.2 c.next_rows-at.ensures c.tally.ensures
