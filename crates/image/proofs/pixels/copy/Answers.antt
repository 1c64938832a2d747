-- `image::pixels::copy`: after i turns the first i bytes are those of the pixels. Assumes nothing.
use mathlib.Core.Path.{refl}
use native.Mathlib.Nat.{le_antisymm}
use native.Mathlib.Omega.{arith}
use Rattle.seq.proofs.Tab.{fill_more, fill_length}
use Rattle.verdict.proofs.Writer.{copied_over}
use Rattle.image.proofs.pixels.copy.Goals as goal

pub loop-i-preserved : goal.loop-i-preserved
loop-i-preserved c =
    let l = c.loop-i.invariant in
    fill_more l (omega (arith, fill_length l)) refl

pub returns : goal.returns
returns c = copied_over _ c.loop-i.invariant (omega arith)
