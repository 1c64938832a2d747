-- The first image that a pass leaves as it is.
--     passes_stable    a stable image stays
--     reached, first   there is one after as many passes as there are pixels, and only one
--     all_rest         the theorem
-- Assumes nothing.
use Rattle.std.specs.Prelude.{Ok}
use mathlib.Core.List.{List}
use mathlib.Core.Path.{◌≡◌, refl, sym, ap, ◌∙◌}
use Prim.Native.Nat.{ℕ, ◌+◌, ◌*◌, ◌≤◌}
use native.Mathlib.Decide.{le_ind}
use native.Mathlib.Omega.{arith}
use Rattle.operator.specs.Image.{IsImage}
use Rattle.operator.specs.Pass.{pass, passes, Stable}
use Rattle.operator.specs.Rest.{rested, AllRest}
use Rattle.morph.specs.Rest as sites
use Rattle.morph.proofs.Rest.{rest}
use Rattle.seq.proofs.Tab.{length_up_to}
use Rattle.table.specs.declared.Table.{Table}
use Rattle.table.specs.Record.{record_verdict}
use Rattle.operator.proofs.Exchange.{exchange_passes}
use Rattle.operator.proofs.Image.{black_of, image_shows, shows_equal}
use Rattle.operator.proofs.Order.{order_passes}
use Rattle.operator.proofs.Operator.{pass_shows, passes_shows}
use Rattle.operator.proofs.System.{lawful, listed}

module _ (t : Table) (w h : ℕ) where
  -- by induction on the passes after it
  pub passes_stable : (img : List ℕ) (n m : ℕ) → Stable t w h (passes t w h n img) → n ≤ m → passes t w h m img ≡ passes t w h n img
  passes_stable img n m s = le_ind (λ k. passes t w h k img ≡ passes t w h n img) refl (λ k l e. ap (pass t w h) e ∙ s) m

  module _ (ok : record_verdict t ≡ Ok tt) (img : List ℕ) (m : IsImage w h img) where
    reached : Stable t w h (rested t w h img)
    unfolding rested sites.rested
    reached =
        let s = passes_shows t (image_shows m) (w * h) in
        shows_equal (pass_shows t s) s (λ i l. rw (length_up_to (w * h)) at ((rest (lawful t w h ok) (listed t w h)).reached (black_of img) i))

    -- two stable images are both the image after the passes of the one and then the other
    first : (n : ℕ) → Stable t w h (passes t w h n img) → rested t w h img ≡ passes t w h n img
    unfolding rested
    first n s =
        sym (passes_stable img (w * h) (n + w * h) reached (omega arith)) ∙ passes_stable img n (n + w * h) s (omega arith)

-- exchange and order at rest are those after as many passes as there are pixels
pub all_rest : AllRest
unfolding rested
all_rest t w h ok = record {
  reached = reached t w h ok;
  stays = passes_stable t w h;
  first = first t w h ok;
  exchanged = λ img m. exchange_passes t w h img ok m (w * h);
  ordered = λ a b m n c. order_passes t w h a b ok m n c (w * h);
}
