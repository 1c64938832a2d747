-- `noise::draw` meets its contract: after i turns i pixels are filled in, and the ring holds the 55 numbers from number i on. Assumes nothing.
use Rattle.std.proofs.Common.{◌≡◌, length, refl, ap, ◌∙◌, arith}
use Rattle.noise.specs.Noise.{blackness}
use Rattle.noise.proofs.Ring.{ring_drawn, ring_more}
use Rattle.seq.proofs.Tab.{fill_more, fill_whole}
use Rattle.noise.proofs.draw.Goals as goal

pub loop-pixel-preserved : goal.loop-pixel-preserved
loop-pixel-preserved c =
    let drew = ring_drawn c.loop-pixel.invariant.1 refl in (
      fill_more c.loop-pixel.invariant.0 (omega arith) (c.black.ensures ∙ ap blackness drew),
      ring_more c.loop-pixel.invariant.1 drew c.after-oldest.ensures c.after-recent.ensures,
    )

pub returns : goal.returns
returns c =
    let end : c.loop-pixel.pixel-index ≡ length c.args.image.now = omega arith in
    fill_whole (rw end at c.loop-pixel.invariant.0)
