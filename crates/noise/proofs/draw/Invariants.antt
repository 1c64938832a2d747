-- `noise::draw` meets its contract: after i turns i pixels are filled in, and the ring holds the 55 numbers from number i on. Assumes nothing.
use Rattle.noise.specs.Noise.{noise_pixel}
use Rattle.noise.proofs.Ring.{Ring}
use Rattle.seq.specs.Tab.{Filled}
use Rattle.noise.proofs.draw.Given as goal

abbrev pub invariant-loop-pixel : goal.invariant-loop-pixel
invariant-loop-pixel l = Filled (noise_pixel l.seed) l.initial.image l.image l.pixel-index × Ring l.seed l.ring l.oldest l.recent l.pixel-index
