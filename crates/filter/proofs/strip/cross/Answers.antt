-- `strip::cross` meets its contract. Assumes nothing.
use mathlib.Core.Path.{sym, ◌∙◌}
use Prim.Native.Nat.{◌≤◌}
use native.Mathlib.Omega.{arith}
use lib.ListN.{length, length-take}
use Rattle.filter.proofs.CrossLaws.{parts_few, parts_total, cross_made}
use Rattle.image.specs.Strip.{max_parts, heights_of}
use Rattle.filter.proofs.strip.cross.Goals as goal

pub made-requires : goal.made-requires
made-requires c =
    let few : length (heights_of c.args.strip) ≤ max_parts = omega (arith, length-take c.args.strip.parts c.args.strip.heights, c.requires.2) in
    parts_few c.args.scene.now.tall _ c.requires.1 few c.write_parts.ensures.0

pub returns : goal.returns
returns c =
    let few : length (heights_of c.args.strip) ≤ max_parts = omega (arith, length-take c.args.strip.parts c.args.strip.heights, c.requires.2) in
    cross_made _ _ _ _ _ (sym c.exceeds.ensures ∙ c.if-exceeds.false) c.requires.0
    (c.made.ensures ∙ parts_total c.args.scene.now.tall _ c.requires.1 few c.write_parts.ensures.0) c.write_parts.ensures.1
