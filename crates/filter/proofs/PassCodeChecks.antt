-- What a pass checks before it starts.
--     ranged_of, unranged, ranged_count, ranged_ranks, ranged_valid    the table's ranges
--     each_valid                                             the test of each element
--     accepted_ranged            an accepted table is in range
--     elements_part, persistents_part    the masks of a table, as parts of longer arrays
-- Assumes nothing.
use Rattle.std.specs.Prelude.{Ok}
use mathlib.Core.Bool.{Bool, true, false, ◌&&◌, and-false}
use mathlib.Core.Logic.{◌⊎◌, inl, inr}
use mathlib.Core.List.{List, [], ◌∷◌}
use mathlib.Core.Path.{◌≡◌, ap, refl, ◌∙◌}
use native.Mathlib.Omega.{arith}
use Rattle.std.specs.Prelude.{EachIndex, IsTrue, ◌↔◌}
use Rattle.seq.proofs.Members.{all_at}
use Prim.Native.Nat.{ℕ, suc, ◌≤◌, ◌<◌}
use borrow.Author.Tests.{leb-true, le-leb, lt-leb}
use lib.Dec.{leb}
use lib.ListN.{length, get_or, take}
use Rattle.seq.specs.Lists.{all}
use Rattle.seq.proofs.Lists.{and_left, and_right, and_intro, all_intro, bool_ext}
use Rattle.table.specs.declared.Table.{Table}
use Rattle.table.specs.Mask.{valid_mask}
use Rattle.table.specs.Record.{max_elements, max_ranks, masks, persistents, record_verdict}
use Rattle.filter.specs.Applied.{ranged}
use Rattle.table.proofs.Facts.{accepted_table}

each_all : (p : ℕ → Bool) (l : List ℕ) → ((i : ℕ) → i < length l → p (get_or l i 0) ≡ true) → all p l ≡ true
each_all p [] h = refl
each_all p (x ∷ l) h = and_intro (h 0 (omega arith)) (each_all p l (λ i b. h (suc i) (omega arith)))

-- a test of each mask by its index
pub each_valid : (b : Bool) (l : List ℕ) → IsTrue b ↔ EachIndex l (λ k. valid_mask (get_or l k 0) ≡ true) → b ≡ all valid_mask l
each_valid b l e = bool_ext b (all valid_mask l) (λ h. each_all valid_mask l (e.0 h)) (λ h. e.1 (all_at valid_mask l 0 h))

-- the table's ranges, from its counts and its element places
pub ranged_of : (t : Table) {es : List ℕ} {b : Bool} → t.count ≤ max_elements → t.ranks ≤ max_ranks → es ≡ t.elements → b ≡ all valid_mask (take t.count es) → b ≡ ranged t
unfolding ranged masks
ranged_of t l r e q = q ∙ simp (le-leb t.count max_elements l, le-leb t.ranks max_ranks r, e)

pub unranged : (t : Table) → (max_elements < t.count) ⊎ ((t.count ≤ max_elements) × (max_ranks < t.ranks)) → false ≡ ranged t
unfolding ranged
unranged t (inl l) = simp (lt-leb t.count max_elements l)
unranged t (inr l) = simp (lt-leb t.ranks max_ranks l.1, and-false)

module _ (t : Table) (e : ranged t ≡ true) where
  counts : (leb t.count max_elements && leb t.ranks max_ranks) ≡ true
  unfolding ranged
  counts = and_left (leb t.count max_elements && leb t.ranks max_ranks) (all valid_mask (masks t)) e

  pub ranged_count : t.count ≤ max_elements
  ranged_count = leb-true t.count max_elements (and_left (leb t.count max_elements) (leb t.ranks max_ranks) counts)

  pub ranged_ranks : t.ranks ≤ max_ranks
  ranged_ranks = leb-true t.ranks max_ranks (and_right (leb t.count max_elements) (leb t.ranks max_ranks) counts)

  pub ranged_valid : all valid_mask (masks t) ≡ true
  unfolding ranged
  ranged_valid = and_right (leb t.count max_elements && leb t.ranks max_ranks) (all valid_mask (masks t)) e

module _ (t : Table) (ok : record_verdict t ≡ Ok tt) where
  pub accepted_ranged : ranged t ≡ true
  unfolding ranged masks
  accepted_ranged =
      let facts = accepted_table t ok in
      and_intro (and_intro (le-leb _ _ facts.count_most) (le-leb _ _ facts.ranks_most)) (all_intro valid_mask (masks t) facts.masks_valid)

-- the elements, as a part of the element places
pub elements_part : (t : Table) {es : List ℕ} → es ≡ t.elements → take t.count es ≡ masks t
unfolding masks
elements_part t e = ap (take t.count) e

-- the persistent elements, as a part of their places
pub persistents_part : (t : Table) {ks : List ℕ} → ks ≡ t.persistents → take t.ranks ks ≡ persistents t
unfolding persistents
persistents_part t e = ap (take t.ranks) e
