-- `image::strip::write_parts`: the files of the parts passed are written. Assumes nothing.
use mathlib.Core.Path.{sym}
use Prim.Native.Nat.{◌+◌, ◌-◌, ◌*◌, ◌≤◌}
use native.Mathlib.Nat.{le_of_eq}
use native.Mathlib.Omega.{arith}
use lib.ListN.{length, get_or}
use Rattle.image.proofs.Cuts.{part_length}
use Rattle.image.proofs.RowBytes.{pixels_few}
use Rattle.image.proofs.StripLoops.{part_sides, part_binary, put_source, put_target, put_more, put_all}
use Rattle.image.proofs.strip.write_parts.Goals as goal

pub overflow_mul-pixel_end : goal.overflow_mul-pixel_end
overflow_mul-pixel_end c =
    omega (arith, pixels_few (part_sides c.args.heights.now c.requires.0 c.requires.1 c.requires.2 c.loop-height.height-index (omega arith)))

pub overflow_add-pixel_end : goal.overflow_add-pixel_end
overflow_add-pixel_end c =
    omega (arith, put_source c.loop-height.invariant (omega arith) c.requires.4)

pub length_of-requires : goal.length_of-requires
length_of-requires c =
    part_sides _ c.requires.0 c.requires.1 c.requires.2 _ (omega arith)

pub slice_bounds-put-end : goal.slice_bounds-put-end
slice_bounds-put-end c = put_source c.loop-height.invariant (omega arith) c.requires.4

pub put-requires : goal.put-requires
put-requires c =
    let room : c.loop-height.to + c.length_of.result ≤ length c.loop-height.out = put_target c.loop-height.invariant (omega arith) c.requires.5 (c.length_of.ensures _) in
    let n = c.args.width * get_or c.args.heights.now c.loop-height.height-index 0 in (
      part_sides _ c.requires.0 c.requires.1 c.requires.2 _ (omega arith),
      part_binary (c.loop-height.from + n - c.loop-height.from) c.loop-height.from c.requires.3,
      part_length _ _ _ (put_source c.loop-height.invariant (omega arith) c.requires.4),
      rw (part_length _ _ _ room) (le_of_eq (sym (c.length_of.ensures _))),
    )

pub loop-height-preserved : goal.loop-height-preserved
loop-height-preserved c =
    let room : c.loop-height.to + c.length_of.result ≤ length c.loop-height.out = put_target c.loop-height.invariant (omega arith) c.requires.5 (c.length_of.ensures _) in
    put_more c.loop-height.invariant (omega arith) c.length_of.ensures room c.put.ensures

pub returns : goal.returns
returns c =
    put_all c.loop-height.invariant c.requires.5 (omega arith)
