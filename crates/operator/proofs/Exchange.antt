-- Colours exchanged come out exchanged.
--     exchange_image     an image with its colours exchanged is one
--     exchange_passes    the theorem
-- Assumes nothing.
use mathlib.Core.List.{List}
use Prim.Native.Nat.{ℕ}
use Rattle.operator.specs.Image.{IsImage, exchange}
use Rattle.operator.specs.Exchange.{Exchange}
use Rattle.morph.proofs.Exchange as sites
use Rattle.operator.proofs.Image.{black_of, image_shows, shows_image, shows_equal, shows_exchange}
use Rattle.operator.proofs.Operator.{passes_shows}
use Rattle.operator.proofs.System.{system}

pub exchange_image : {w h : ℕ} {img : List ℕ} → IsImage w h img → IsImage w h (exchange img)
exchange_image m = shows_image m.wide m.high (shows_exchange (image_shows m))

-- both lists show the complement of the passes
pub exchange_passes : Exchange
exchange_passes t w h img ok m n =
    shows_equal (passes_shows t (shows_exchange (image_shows m)) n) (shows_exchange (passes_shows t (image_shows m) n))
    (λ i l. sites.exchange (system t w h) (black_of img) n i)
