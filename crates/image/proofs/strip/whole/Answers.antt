-- `image::strip::whole` meets its contract: an accepted shape has as many heights as parts. Assumes nothing.
use Rattle.std.proofs.Common.{◌∙◌, ap, arith}
use Rattle.image.specs.Size.{extent}
use Rattle.image.specs.Strip.{strip_width}
use Rattle.image.proofs.Searches.{sum_same}
use Rattle.image.proofs.Shapes.{shape_good, shape_rows}
use Rattle.image.proofs.strip.whole.Goals as goal

pub part_heights-requires : goal.part_heights-requires
part_heights-requires c = (shape_good _ c.requires).few

pub rows-requires : goal.rows-requires
rows-requires c = rw (c.part_heights.ensures, sum_same) (omega (arith, shape_rows (shape_good _ c.requires)))

pub returns : goal.returns
returns c = ap (extent (strip_width c.args.strip)) (c.rows.ensures ∙ rw (c.part_heights.ensures, sum_same))
