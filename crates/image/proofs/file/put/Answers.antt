-- `image::file::put` meets its contract. Assumes nothing.
use native.Mathlib.Omega.{arith}
use lib.ListN.{length-take, length-drop}
use Rattle.image.proofs.WriteOf.{bytes_length, put_filled}
use Rattle.image.proofs.file.put.Goals as goal

pub write-requires : goal.write-requires
write-requires c =
    omega (arith, c.requires.3, bytes_length c.args.size.width c.args.size.height c.args.pixels.now)

pub slice_bounds-image-count : goal.slice_bounds-image-count
slice_bounds-image-count c =
    omega (arith, c.length_of.ensures, c.length_of-2.ensures c.args.pixels.now, bytes_length c.args.size.width c.args.size.height c.args.pixels.now)

pub slice_bounds-image-start : goal.slice_bounds-image-start
slice_bounds-image-start c =
    let long = bytes_length c.args.size.width c.args.size.height c.args.pixels.now in
    omega (arith, long, c.requires.3, c.length_of.ensures, c.length_of-2.ensures c.args.pixels.now, c.write.auto.out)

pub image-requires : goal.image-requires
image-requires c =
    let long = bytes_length c.args.size.width c.args.size.height c.args.pixels.now in
    (c.requires.0, c.requires.1, c.requires.2, simp (length-take, length-drop) (omega (arith, long, c.requires.3, c.length_of.ensures, c.length_of-2.ensures c.args.pixels.now, c.write.auto.out)))

pub returns : goal.returns
returns c =
    put_filled _ _ _ _ c.requires.3 c.write.ensures c.length_of.ensures (c.length_of-2.ensures c.args.pixels.now) c.image.ensures
