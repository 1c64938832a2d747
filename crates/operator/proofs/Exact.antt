-- Six rows and columns are needed.
--     exact     with the pixels two to the left and two to the right, and five in a row, a pass sees six columns far
-- Assumes nothing.
use Rattle.std.specs.Prelude.{Ok}
use mathlib.Core.List.{List, ◌∷◌}
use mathlib.Core.Logic.{⊎_elim}
use mathlib.Core.Path.{◌≡◌, refl}
use Prim.Native.Nat.{ℕ, zero, suc, ◌+◌, ◌*◌, ◌≤◌, ◌<◌}
use native.Mathlib.Omega.{arith}
use lib.Dec.{lit<}
use lib.ListN.{get_or}
use Rattle.operator.specs.Image.{pixel}
use Rattle.operator.specs.Locality.{reach, Alike, Sees, Exact}
use Rattle.operator.specs.Pass.{inside, solid, opened, held, pass_at, pass, passes}
use Rattle.operator.specs.Samples.{long_row, gapped}
use Rattle.seq.proofs.Tests.{lt_or_le}
use Rattle.seq.specs.Bits.{bit, bits_of}
use Rattle.seq.specs.Tab.{up_to}
use Rattle.table.specs.Mask.{positions, valid_mask, meets, sum_inside, sum, partner, unpartnered, persistent_for}
use Rattle.table.specs.Record.{masks, persistents, bad_count, bad_ranks, not_rising, bad_mask, bad_element, bad_place, bad_persistent, disjoint_from, missed_by, missed_at, persistent_place, record_verdict}

accepted : record_verdict long_row ≡ Ok tt
unfolding record_verdict masks persistents bad_count bad_ranks bad_place bad_element not_rising bad_mask bad_persistent disjoint_from missed_by missed_at persistent_place
    positions valid_mask meets sum_inside sum partner unpartnered persistent_for bit bits_of up_to
accepted = refl

-- a gap of three pixels; from its middle, column 0 with the value v is six columns away
abbrev image : ℕ → List ℕ
image v = v ∷ gapped 4 5

-- a pass fills the middle of the gap with column 0 black, and leaves it with column 0 white
differ : pixel 13 (passes long_row 13 1 1 (image 1)) 0 6 ≡ pixel 13 (passes long_row 13 1 1 (image 0)) 0 6 → ⊥
unfolding inside solid opened held pass_at pass positions masks persistents bit bits_of up_to
differ e = omega (arith, e)

alike : (d : ℕ) → d < reach → Alike (d * 1) 13 1 (image 1) (image 0) 0 6
alike d l r c i j rows (near, far) = behind (r * 13 + c) (omega arith)
  where
    behind : (k : ℕ) → 0 < k → get_or (image 1) k 0 ≡ get_or (image 0) k 0
    behind zero m = absurd (omega arith)
    behind (suc k) m = refl

pub exact : Exact
exact = (long_row, accepted, λ d sees. ⊎_elim (too_near d sees) (λ l. l) (lt_or_le d reach))
  where
    too_near : (d : ℕ) → Sees d long_row → d < reach → reach ≤ d
    too_near d sees l = absurd (differ (sees 13 1 (image 1) (image 0) 1 0 6 (lit< tt) (lit< tt) (alike d l)))
