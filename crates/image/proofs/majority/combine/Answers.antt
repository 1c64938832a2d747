-- `image::majority::combine`: after i turns the first i bytes are those of the majority. Assumes nothing.
use Rattle.std.proofs.Common.{◌≡◌, length, sym, ◌∙◌, arith}
use Rattle.image.specs.Code.Three.{majority_bytes}
use Rattle.seq.proofs.Tab.{fill_more, fill_whole}
use Rattle.image.proofs.majority.combine.Goals as goal

pub loop-i-preserved : goal.loop-i-preserved
loop-i-preserved c = fill_more c.loop-i.invariant (omega arith) c.majority.ensures

pub returns : goal.returns
unfolding majority_bytes
returns c =
    let end : c.loop-i.i ≡ length c.args.out.now = omega arith in
    fill_whole (rw end at c.loop-i.invariant) ∙ rw (sym c.requires.0)
