-- A table and a size as a system over pixels, each by its index.
--     pixelwise w h f          f at the row and column of an index, and nothing at an index outside
--     system t w h             the elements and the blocks of an image of w × h pixels
--     pixelwise_at, pixelwise_inside, pixelwise_by     its lists at a pixel; none outside; how to prove something of all of them
--     blocks_by, hits_at, blocks_at                    the same of the system
--     contain, share, meet, persist                    the four laws
--     lawful                   an accepted table gives a lawful system
--     listed                   the pixels with an element are those of the image
-- Assumes nothing.
use Rattle.std.specs.Prelude.{Ok}
use mathlib.Core.Bool.{cond}
use mathlib.Core.List.Memᴰ
use mathlib.Core.List.{List, [], Memᴰ}
use mathlib.Core.Logic.{⊎_elim}
use mathlib.Core.Path.{◌≡◌}
use Prim.Native.Nat.{ℕ, ◌+◌, ◌*◌, ◌/◌, ◌%◌, ◌<◌}
use lib.Dec.{ltb}
use borrow.Author.Tests.{ltb-true, lt-ltb}
use Rattle.morph.specs.System.{System, Lawful, Listed}
use Rattle.seq.specs.Tab.{up_to}
use Rattle.seq.proofs.Grid.{cell_below, grid_at, by_cell}
use Rattle.seq.proofs.Lists.{either}
use Rattle.seq.proofs.Tab.{up_to_intro}
use Rattle.table.specs.declared.Table.{Table}
use Rattle.table.specs.Record.{record_verdict}
use Rattle.operator.proofs.Translates.{elements_at, blocks_of, elements_meet}
use Rattle.operator.proofs.Translates.{Block, block_elim, block_intro, block_contains, block_moved, block_meets}

unfoldable pub pixelwise : ℕ → ℕ → (ℕ → ℕ → List (List ℕ)) → ℕ → List (List ℕ)
pixelwise w h f i = cond (ltb i (w * h)) (f (i / w) (i % w)) []

unfoldable pub system : Table → ℕ → ℕ → System ℕ
system t w h = record { hits = pixelwise w h (elements_at t w h); blocks = pixelwise w h (blocks_of t w h) }

module _ (w h : ℕ) (f : ℕ → ℕ → List (List ℕ)) where
  pixelwise_at : (r : ℕ) {c : ℕ} → r < h → c < w → pixelwise w h f (r * w + c) ≡ f r c
  unfolding pixelwise
  pixelwise_at r {c} i j = rw (lt-ltb _ _ (cell_below i j)) (grid_at w f r c j)

  -- outside there is nothing
  pixelwise_inside : (i : ℕ) {A : List ℕ} → Memᴰ A (pixelwise w h f i) → i < w * h
  unfolding pixelwise
  pixelwise_inside i m = ⊎_elim (ltb-true i (w * h)) (λ e. absurd (Memᴰ.not-nil (rw e at m))) (either (ltb i (w * h)))

  -- what holds of the lists at every row and column holds of those at every index
  pixelwise_by : (P : ℕ → List ℕ → Type 0)
      → ((r c : ℕ) → r < h → c < w → (A : List ℕ) → Memᴰ A (f r c) → P (r * w + c) A)
      → (i : ℕ) (A : List ℕ) → Memᴰ A (pixelwise w h f i) → P i A
  pixelwise_by P k i A m =
      by_cell w h (λ n. Memᴰ A (pixelwise w h f n) → P n A) (λ r c x y n. k r c x y A (rw (pixelwise_at r x y) at n)) i
      (pixelwise_inside i m) m

module _ (t : Table) (w h : ℕ) where
  -- what holds of every block at its row and column holds of it at every index
  blocks_by : (P : ℕ → List ℕ → Type 0) → ((r c : ℕ) → r < h → c < w → (T : List ℕ) → Block t w h r c T → P (r * w + c) T)
      → (p : ℕ) (T : List ℕ) → Memᴰ T ((system t w h).blocks p) → P p T
  unfolding system
  blocks_by P k = pixelwise_by w h (blocks_of t w h) P (λ r c i j T m. k r c i j T (block_elim t w h r c T m))

  pub hits_at : (r : ℕ) {c : ℕ} → r < h → c < w → (system t w h).hits (r * w + c) ≡ elements_at t w h r c
  unfolding system
  hits_at = pixelwise_at w h (elements_at t w h)

  pub blocks_at : (r : ℕ) {c : ℕ} → r < h → c < w → (system t w h).blocks (r * w + c) ≡ blocks_of t w h r c
  unfolding system
  blocks_at = pixelwise_at w h (blocks_of t w h)

  contain : (p : ℕ) (T : List ℕ) → Memᴰ T ((system t w h).blocks p) → Memᴰ p T
  contain = blocks_by (λ p T. Memᴰ p T) (λ r c i j T B. block_contains B)

  share : (p q : ℕ) (T : List ℕ) → Memᴰ T ((system t w h).blocks p) → Memᴰ q T → Memᴰ T ((system t w h).blocks q)
  share p q T = blocks_by (λ i L. Memᴰ q L → Memᴰ L ((system t w h).blocks q)) there p T
    where
      there : (r c : ℕ) → r < h → c < w → (L : List ℕ) → Block t w h r c L → Memᴰ q L → Memᴰ L ((system t w h).blocks q)
      there r c i j L B m =
          let (r', c', i', j', e, B') = block_moved B q m in
          rw (e, blocks_at r' i' j') (block_intro B')

  module _ (ok : record_verdict t ≡ Ok tt) where
    -- rule 5
    meet : (p : ℕ) (A B : List ℕ) → Memᴰ A ((system t w h).hits p) → Memᴰ B ((system t w h).hits p)
        → (q : ℕ) × Memᴰ q A × Memᴰ q B
    unfolding system
    meet p A B =
        pixelwise_by w h (elements_at t w h) (λ i L. Memᴰ B ((system t w h).hits i) → (q : ℕ) × Memᴰ q L × Memᴰ q B)
        (λ r c i j L m n. elements_meet t w h r c ok L B m (rw (hits_at r i j) at n)) p A

    -- rule 7, at the block's own pixel
    persist : (p : ℕ) (T A : List ℕ) → Memᴰ T ((system t w h).blocks p) → Memᴰ A ((system t w h).hits p)
        → (s : ℕ) × Memᴰ s A × Memᴰ s T
    persist p T A =
        blocks_by (λ i L. Memᴰ A ((system t w h).hits i) → (s : ℕ) × Memᴰ s A × Memᴰ s L)
        (λ r c i j L B m. block_meets B ok A (rw (hits_at r i j) at m)) p T

    -- a block at p is a block at its pixel q
    pub lawful : Lawful (system t w h)
    lawful = record {
      contain = contain;
      share = share;
      meet = meet;
      persist = λ p q T A m n. persist q T A (share p q T m n);
    }

  pub listed : Listed (system t w h) (up_to (w * h))
  unfolding system
  listed = record { covers = λ p A m. up_to_intro (pixelwise_inside w h (elements_at t w h) p m) }
