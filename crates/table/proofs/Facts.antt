-- What an accepted table gives, as other crates use it.
--     AcceptedTable t      the facts, rule by rule; rules 5 and 7 by positions
--     accepted_table       they hold of every record that the check accepts
-- Assumes nothing.
use Rattle.std.specs.Prelude.{is_some, Ok}
use mathlib.Core.Bool.{true, false}
use mathlib.Core.List.{Memᴰ}
use mathlib.Core.Logic.{⊎_elim}
use mathlib.Core.Path.{◌≡◌, sym, subst}
use Prim.Native.Nat.{ℕ, suc, ◌≤◌, ◌<◌}
use native.Mathlib.Nat.{lt_of_lt_of_le}
use native.Mathlib.Omega.{arith}
use borrow.Author.Tests.{not-false}
use Rattle.seq.specs.Bits.{bit}
use Rattle.seq.proofs.Members.{take_place}
use Rattle.seq.proofs.Tab.{first_nothing}
use Rattle.seq.proofs.Tests.{between, lt_or_le, or_none_left, or_none_right}
use Rattle.table.specs.declared.Table.{Table}
use Rattle.table.specs.Mask.{centre, positions, valid_mask, meets, sum_inside, sum, persistent_for}
use Rattle.table.specs.Record.{max_elements, max_ranks, element, persistent_at, masks, persistents, bad_count, bad_element, bad_persistent, disjoint_from, missed_by, apart_refusal, missed_refusal, meet_rule, persist_rule, record_verdict}
use Rattle.table.proofs.Masks.{valid_position, meets_shared, persistent_partner}
use Rattle.table.proofs.Places.{mask_valid, mask_rises, places_used, places_left}
use Rattle.table.proofs.Verdicts.{lowest_apart, lowest_missed, count_le, ranks_le, meets_each, persistent_each, Sound, record_sound}
use Rattle.verdict.proofs.Rules.{or_else_left, or_else_right, refuse_by_accepted}

pub record AcceptedTable (t : Table) : Type 0 where
  -- rule 3
  pub count_least : 1 ≤ t.count
  pub count_most : t.count ≤ max_elements
  -- rule 4
  pub masks_valid : (e : ℕ) → Memᴰ e (masks t) → valid_mask e ≡ true
  pub off_centre : (e : ℕ) → Memᴰ e (masks t) → bit e centre ≡ false
  pub rising : (k : ℕ) → suc k < t.count → element t k < element t (suc k)
  pub past_zero : (k : ℕ) → t.count ≤ k → k < max_elements → element t k ≡ 0
  -- rule 18
  pub ranks_least : 1 ≤ t.ranks
  pub ranks_most : t.ranks ≤ max_ranks
  -- rule 6
  pub persistents_valid : (K : ℕ) → Memᴰ K (persistents t) → valid_mask K ≡ true
  -- rule 5: any two elements share a position
  pub masks_meet : (e f : ℕ) → Memᴰ e (masks t) → Memᴰ f (masks t)
      → (n : ℕ) × Memᴰ n (positions e) × Memᴰ n (positions f)
  -- rule 7: a position of a persistent element has a partner in each element
  pub masks_persist : (K e b : ℕ) → Memᴰ K (persistents t) → Memᴰ e (masks t) → Memᴰ b (positions K)
      → (a : ℕ) × Memᴰ a (positions e) × (sum_inside b a ≡ true) × Memᴰ (sum b a) (positions K)

-- two masks share a position
abbrev Shared : ℕ → ℕ → Type 0
Shared e f = (n : ℕ) × Memᴰ n (positions e) × Memᴰ n (positions f)

module _ (t : Table) (s : Sound t) where
  pub least : 1 ≤ t.count
  unfolding bad_count
  least = (between 1 t.count max_elements (not-false _ s.counted)).0

  pub most : t.count ≤ max_elements
  most = count_le t.count s.counted

  pub few_ranks : (1 ≤ t.ranks) × (t.ranks ≤ max_ranks)
  few_ranks = ranks_le 1 t.ranks s.ranked

  pub good_element : (k : ℕ) → k < t.count → bad_element t k ≡ false
  good_element k l = places_used t.elements t.count (bad_element t) max_elements s.placed k (lt_of_lt_of_le l most) l

  pub good_persistent : (r : ℕ) → r < t.ranks → bad_persistent t r ≡ false
  good_persistent r l = places_used t.persistents t.ranks (bad_persistent t) max_ranks s.ordered r (lt_of_lt_of_le l few_ranks.1) l

  pub valid : (k : ℕ) → k < t.count → valid_mask (element t k) ≡ true
  unfolding bad_element
  valid k l = mask_valid t.elements k (or_none_right (bit (element t k) centre) _ (good_element k l))

  pub valid_persistent : (r : ℕ) → r < t.ranks → valid_mask (persistent_at t r) ≡ true
  unfolding bad_persistent
  valid_persistent r l = mask_valid t.persistents r (good_persistent r l)

  no_centre : (k : ℕ) → k < t.count → bit (element t k) centre ≡ false
  unfolding bad_element
  no_centre k l = or_none_left (bit (element t k) centre) _ (good_element k l)

  rises : (k : ℕ) → suc k < t.count → element t k < element t (suc k)
  unfolding bad_element
  rises k l = mask_rises t.elements k (or_none_right (bit (element t (suc k)) centre) _ (good_element (suc k) l))

  pub ranks_rise : (r : ℕ) → suc r < t.ranks → persistent_at t r < persistent_at t (suc r)
  unfolding bad_persistent
  ranks_rise r l = mask_rises t.persistents r (good_persistent (suc r) l)

  pub past : (k : ℕ) → t.count ≤ k → k < max_elements → element t k ≡ 0
  past k l m = places_left t.elements t.count (bad_element t) max_elements s.placed k m l

  pub past_ranks : (r : ℕ) → t.ranks ≤ r → r < max_ranks → persistent_at t r ≡ 0
  past_ranks r l m = places_left t.persistents t.ranks (bad_persistent t) max_ranks s.ordered r m l

  -- rule 5 at two places
  meet_at : (j k : ℕ) → j < k → k < t.count → meets (element t k) (element t j) ≡ true
  meet_at j k i l =
      let none = refuse_by_accepted (lowest_apart t) (apart_refusal t) (or_else_left (meet_rule t) (persist_rule t) s.related) in
      meets_each t k (first_nothing (λ n. is_some (disjoint_from t n)) t.count none k l) j i

  -- rule 7 at a place
  pub persist_at : (k r : ℕ) → k < t.count → r < t.ranks → persistent_for (persistent_at t r) (element t k) ≡ true
  persist_at k r l i =
      let none = refuse_by_accepted (lowest_missed t) (missed_refusal t) (or_else_right (meet_rule t) (persist_rule t) s.related) in
      persistent_each t k (first_nothing (λ n. is_some (missed_by t n)) t.count none k l) r i

  -- any two elements, by their places: the later meets the earlier, and an element has a position
  places_meet : (k j : ℕ) → k < t.count → j < t.count → Shared (element t k) (element t j)
  places_meet k j l i = ⊎_elim earlier (λ a. ⊎_elim later (λ b. here (omega arith)) (lt_or_le k j)) (lt_or_le j k)
    where
      earlier : j < k → Shared (element t k) (element t j)
      earlier a = meets_shared _ _ (meet_at j k a l)

      later : k < j → Shared (element t k) (element t j)
      later b = let (n, x, y) = meets_shared _ _ (meet_at k j b i) in (n, y, x)

      here : k ≡ j → Shared (element t k) (element t j)
      here e = let (n, x) = valid_position _ (valid k l) in subst (λ (i : ℕ). Shared (element t k) (element t i)) e (n, x, x)

-- what holds at every place below the count holds of every element
at_masks : (t : Table) (P : ℕ → Type 0) → ((k : ℕ) → k < t.count → P (element t k)) → (e : ℕ) → Memᴰ e (masks t) → P e
unfolding masks
at_masks t P h e m = let (k, l, q) = take_place t.count t.elements 0 m in subst P (sym q) (h k l)

-- and what holds at every rank, of every persistent element
pub at_persistents : (t : Table) (P : ℕ → Type 0) → ((r : ℕ) → r < t.ranks → P (persistent_at t r)) → (K : ℕ) → Memᴰ K (persistents t) → P K
unfolding persistents
at_persistents t P h K m = let (r, l, q) = take_place t.ranks t.persistents 0 m in subst P (sym q) (h r l)

pub accepted_table : (t : Table) → record_verdict t ≡ Ok tt → AcceptedTable t
accepted_table t ok = record {
  count_least = least t s;
  count_most = most t s;
  masks_valid = at_masks t (λ e. valid_mask e ≡ true) (valid t s);
  off_centre = at_masks t (λ e. bit e centre ≡ false) (no_centre t s);
  rising = rises t s;
  past_zero = past t s;
  ranks_least = (few_ranks t s).0;
  ranks_most = (few_ranks t s).1;
  persistents_valid = at_persistents t (λ K. valid_mask K ≡ true) (valid_persistent t s);
  masks_meet = λ e f m n. at_masks t (λ x. Shared x f) (λ k l. at_masks t (Shared (element t k)) (λ j i. places_meet t s k j l i) f n) e m;
  masks_persist = λ K e b k m n. persistent_partner K e b (at_masks t (λ x. persistent_for K x ≡ true) (λ j l. at_persistents t (λ x. persistent_for x (element t j) ≡ true) (λ r i. persist_at t s j r l i) K k) e m) n;
}
  where
    s : Sound t
    s = record_sound t ok
