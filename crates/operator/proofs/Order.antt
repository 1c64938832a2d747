-- Order is kept.
--     one_mono, mono_one                            order of pixels
--     below_all, below_shown, shown_below           order of lists and of what they show
--     order_passes                                  the theorem
-- Assumes nothing.
use mathlib.Core.Bool.{Bool, true, false}
use mathlib.Core.List.{List}
use mathlib.Core.Logic.{⊎_elim}
use mathlib.Core.Path.{◌≡◌, refl, ap}
use Prim.Native.Nat.{ℕ, ◌≤◌, zero-le}
use native.Mathlib.Omega.{arith}
use lib.Dec.{ltb}
use lib.ListN.{length, get_or, get_or-eq_default}
use borrow.Author.Tests.{ltb-true, ltb-false}
use Rattle.operator.specs.Image.{IsImage, Below}
use Rattle.operator.specs.Order.{Order}
use Rattle.morph.specs.System.{Image}
use Rattle.morph.specs.Order as sets
use Rattle.morph.proofs.Order as sites
use Rattle.seq.specs.Lists.{one}
use Rattle.seq.proofs.Lists.{either}
use Rattle.operator.proofs.Image.{black_of, Shows, binary_value, image_shows}
use Rattle.operator.proofs.Operator.{passes_shows}
use Rattle.operator.proofs.System.{lawful}

one_mono : (x y : Bool) → one x ≤ one y → x ≡ true → y ≡ true
one_mono x true l e = refl
one_mono true false l e = absurd (omega arith)
one_mono false false l e = e

mono_one : (x y : Bool) → (x ≡ true → y ≡ true) → one x ≤ one y
mono_one true y f = omega (arith, ap one (f refl))
mono_one false y f = omega arith

-- past the end of a list there is no black pixel
below_all : (a b : List ℕ) → Below a b → (i : ℕ) → get_or a i 0 ≤ get_or b i 0
below_all a b below i = ⊎_elim (λ e. below i (ltb-true i (length a) e)) (λ e. past (ltb-false i (length a) e)) (either (ltb i (length a)))
  where
    past : length a ≤ i → get_or a i 0 ≤ get_or b i 0
    past l = rw (get_or-eq_default a 0 {n = i} l) zero-le

below_shown : {w h : ℕ} {a b : List ℕ} → IsImage w h a → IsImage w h b → Below a b → sets.Below (black_of a) (black_of b)
below_shown {a = a} {b = b} m n below i =
    one_mono (black_of a i) (black_of b i) (rw (binary_value m i, binary_value n i) at (below_all a b below i))

shown_below : {w h : ℕ} {a b : List ℕ} {X Y : Image ℕ} → Shows w h a X → Shows w h b Y → sets.Below X Y → Below a b
shown_below {X = X} {Y = Y} s t f i l =
    let k = rw s.pixels at l in
    rw (s.value i k, t.value i k) (mono_one (X i) (Y i) (f i))

pub order_passes : Order
order_passes t w h a b ok m n below k =
    shown_below (passes_shows t (image_shows m) k) (passes_shows t (image_shows n) k)
    (sites.order (lawful t w h ok) (black_of a) (black_of b) (below_shown m n below) k)
