-- `strip::Scene::next_rows` meets its contract: the band is cut with six rows more on each side, as far as there are.
-- Assumes nothing.
use native.Mathlib.Omega.{arith}
use Rattle.filter.proofs.BandLaws.{Cut, cut, cut_room, cut_image, band_made}
use Rattle.filter.proofs.PassCodeChecks.{accepted_ranged}
use Rattle.filter.proofs.strip.Scene.next_rows.Goals as goal

pub filtered-requires : goal.filtered-requires
filtered-requires c =
    let band : Cut c.args.self.now.height c.args.from c.args.rows c.saturating_sub-top.result c.min-bottom.result = cut c.requires.1 c.requires.2 c.saturating_sub-top.ensures c.min-bottom.ensures in
    let b = band in
    (accepted_ranged _ c.args.self.now.tall.table, cut_image c.args.self.now.tall b c.requires.0, omega (arith, cut_room c.args.self.now.tall b))

pub returns : goal.returns
returns c =
    let band : Cut c.args.self.now.height c.args.from c.args.rows c.saturating_sub-top.result c.min-bottom.result = cut c.requires.1 c.requires.2 c.saturating_sub-top.ensures c.min-bottom.ensures in
    band_made c.args.self.now.tall band c.requires.0 c.filtered.ensures (omega arith)
