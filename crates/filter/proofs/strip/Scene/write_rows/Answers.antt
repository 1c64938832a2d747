-- `strip::Scene::write_rows` meets its contract: the rows are copied from the band, and counted against the image. Assumes nothing.
use Rattle.filter.proofs.BandLaws.{rows_changed, rows_copied}
use Rattle.filter.proofs.strip.Scene.write_rows.Goals as goal

pub returns : goal.returns
returns c =
    record { changed = rows_changed c.args.self.now.tall c.requires.2 c.next_rows-at.ensures c.tally.ensures; filled = rows_copied c.args.self.now.tall c.requires.2 c.next_rows-at.ensures c.copy.ensures }
