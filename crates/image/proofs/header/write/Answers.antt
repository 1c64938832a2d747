-- `image::header::write` meets its contract. Assumes nothing.
use Rattle.std.proofs.Common.{sym, arith, length-set}
use lib.Seq.{length-take-le}
use Rattle.image.proofs.HeaderWritten.{header_length, header_room, header_written}
use Rattle.image.proofs.header.write.Goals as goal

pub slice_bounds-copy_from_slice-end : goal.slice_bounds-copy_from_slice-end
slice_bounds-copy_from_slice-end c = omega (arith, header_length c.args.size.width c.args.size.height)

pub slice_bounds-copy_from_slice-end-2 : goal.slice_bounds-copy_from_slice-end-2
slice_bounds-copy_from_slice-end-2 c = sym (length-take-le _ _ (omega (arith, header_length c.args.size.width c.args.size.height)))

pub copy_from_slice-requires : goal.copy_from_slice-requires
copy_from_slice-requires c = length-take-le _ _ (omega (arith, header_length c.args.size.width c.args.size.height))

pub write-middle-requires : goal.write-middle-requires
write-middle-requires c = omega (arith, header_room c.args.size.width c.args.size.height c.args.out.now c.copy_from_slice.ensures.after c.requires)

pub bounds-out-middle : goal.bounds-out-middle
bounds-out-middle c =
    omega (arith, header_room c.args.size.width c.args.size.height c.args.out.now c.copy_from_slice.ensures.after c.requires, c.write-middle.auto.out)

pub overflow_add-middle : goal.overflow_add-middle
overflow_add-middle c = omega (arith, header_length c.args.size.width c.args.size.height, c.write-middle.ensures.0)

pub write-end-requires : goal.write-end-requires
write-end-requires c =
    simp length-set
    (omega (arith, header_room c.args.size.width c.args.size.height c.args.out.now c.copy_from_slice.ensures.after c.requires, c.write-middle.auto.out))

pub bounds-out-end : goal.bounds-out-end
bounds-out-end c =
    omega (
      arith,
      header_room c.args.size.width c.args.size.height c.args.out.now c.copy_from_slice.ensures.after c.requires,
      c.write-middle.auto.out,
      simp length-set at c.write-end.auto.out,
    )

pub returns : goal.returns
returns c =
    header_written _ _ _ c.copy_from_slice.ensures.after c.requires c.write-middle.ensures.0 c.write-middle.ensures.1 c.write-end.ensures.0 c.write-end.ensures.1
