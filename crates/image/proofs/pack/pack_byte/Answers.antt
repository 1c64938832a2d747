-- `image::pack::pack_byte` meets its contract. Assumes nothing.
use mathlib.Core.Path.{refl}
use native.Mathlib.Omega.{arith}
use lib.ListN.{get_or-eq_default}
use Rattle.image.proofs.Packed.{packing_more, packing_small, packing_all}
use Rattle.seq.proofs.HighFirst.{bits_value}
use Rattle.image.proofs.pack.pack_byte.Goals as goal

pub loop-k-init : goal.loop-k-init
unfolding bits_value
loop-k-init c = refl

pub overflow_add-byte : goal.overflow_add-byte
overflow_add-byte c =
    let more = packing_more _ c.requires.small c.loop-k.invariant refl (omega (arith, c.in_default.ensures.cases)) in
    omega (arith, packing_small _ c.requires.small more (omega (arith, c.in_default.ensures.cases)))

pub loop-k-preserved : goal.loop-k-preserved
loop-k-preserved c = packing_more _ c.requires.small c.loop-k.invariant refl (omega (arith, c.in_default.ensures.cases))

pub returns : goal.returns
returns c =
    packing_all _ c.requires.small c.loop-k.invariant (omega (arith, c.in_default.ensures.cases))
    (λ j p. get_or-eq_default c.args.pixels.now 0 (omega arith))
