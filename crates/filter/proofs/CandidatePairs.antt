-- Pairs of positions of elements, and their shifts.
--     Met e f p x                            x is a position of the element e if one of f 0, .., f (p − 1) is
--     met_yes, met_no, met_all     where a search by f stands: after a position, after another one, at the end
--     among_at                               a pair that is found among the shifts
--     added_more                 an element's pair that is added
--     even_more                              the last pair again
-- Assumes nothing.
use mathlib.Core.Bool.{true, false}
use mathlib.Core.List.{List, Memᴰ}
use mathlib.Core.Logic.{⊎_elim}
use mathlib.Core.Path.{◌≡◌, refl, sym, ap, ◌∙◌}
use Prim.Native.Nat.{ℕ, ◌+◌, ◌-◌, ◌*◌, ◌/◌, ◌%◌, ◌≤◌, ◌<◌}
use native.Mathlib.Nat.{eq-or-lt_of_le}
use native.Mathlib.Omega.{arith}
use borrow.Author.Count.{below_more}
use lib.ListN.{length, get_or, set, length-set}
use lib.Seq.{get_or-set_same, get_or-set_other}
use Rattle.seq.specs.Bits.{bit}
use Rattle.seq.proofs.Lists.{clash}
use Rattle.table.specs.Mask.{position_count, positions, valid_mask}
use Rattle.table.proofs.Masks.{position_intro, position_elim, valid_position}
use Rattle.filter.specs.Code.Candidate.{TwoOf, Pair, Among, Added, Evened}
use Rattle.filter.specs.Code.Opening.{shift, farthest}

pub record Met (e : ℕ) (f : ℕ → ℕ) (p x : ℕ) : Type 0 where
  pub met : (q : ℕ) → q < p → bit e (f q) ≡ true → Memᴰ x (positions e)

module _ (e : ℕ) (f : ℕ → ℕ) where
  pub met_yes : (p : ℕ) {x : ℕ} → x < position_count → bit e x ≡ true → Met e f (p + 1) x
  met_yes p l b = record { met = λ q i t. position_intro e l b }

  pub met_no : {p x : ℕ} → Met e f p x → bit e (f p) ≡ false → Met e f (p + 1) x
  met_no {p} {x} r b = record { met = below_more (λ q. bit e (f q) ≡ true → Memᴰ x (positions e)) p r.met (λ t. clash t b) }

  -- every position is looked at, as f of some place
  pub met_all : {p x : ℕ} → Met e f p x → valid_mask e ≡ true → (g : ℕ → ℕ) → ((n : ℕ) → n < position_count → (g n < p) × (f (g n) ≡ n))
      → Memᴰ x (positions e)
  met_all {p} {x} r h g i =
      let (n, m) = valid_position e h in
      let (l, b) = position_elim e m in
      let (k, s) = i n l in
      r.met (g n) k (rw s b)

pub among_at : (at : List ℕ) (n i : ℕ) {a b : ℕ} → n % 2 ≡ 0 → i % 2 ≡ 0 → i < n → get_or at i 0 ≡ a → get_or at (i + 1) 0 ≡ b → Among at n a b
among_at at n i p q l low high =
    let e : 2 * (i / 2) ≡ i = omega arith in
    record { place = i / 2; room = omega arith; low = ap (λ (k : ℕ). get_or at k 0) e ∙ low; high = ap (λ (k : ℕ). get_or at (k + 1) 0) e ∙ high }

-- an element's shifts that are found are its pair
among_pair : {at : List ℕ} {n a b e x y : ℕ} → Among at n a b → n ≤ length at → TwoOf e x y → a ≡ shift x → b ≡ shift y
    → (i : ℕ) × (2 * i + 1 < n) × Pair at i e
among_pair m h t p q =
    (m.place, m.room, record { room = omega (arith, m.room); low = (_, t.low, m.low ∙ p); high = (_, t.high, m.high ∙ q) })

-- two shifts more
module _ (d : List ℕ) (n : ℕ) (h : n + 2 ≤ length d) (a b : ℕ) where
  abbrev pair_set : List ℕ
  pair_set = set (set d n a) (n + 1) b

  pair_long : length pair_set ≡ length d
  pair_long = length-set (set d n a) (n + 1) b ∙ length-set d n a

  pair_kept : (j : ℕ) → j < n → get_or pair_set j 0 ≡ get_or d j 0
  pair_kept j l = get_or-set_other (set d n a) (n + 1) j b 0 (omega arith) ∙ get_or-set_other d n j a 0 (omega arith)

  pair_low : (j : ℕ) → n ≡ j → get_or pair_set j 0 ≡ a
  pair_low j e = ap (λ (k : ℕ). get_or pair_set k 0) (sym e) ∙ get_or-set_other (set d n a) (n + 1) n b 0 (omega arith) ∙ get_or-set_same d n a 0 (omega arith)

  pair_high : (j : ℕ) → j ≡ n + 1 → get_or pair_set j 0 ≡ b
  pair_high j e = ap (λ (k : ℕ). get_or pair_set k 0) e ∙ get_or-set_same (set d n a) (n + 1) b 0 (rw length-set (omega arith))

pub added_more : {d : List ℕ} {n a b e x y : ℕ} → n % 2 ≡ 0 → n + 2 ≤ length d → TwoOf e x y → (a ≡ shift x) × (a ≤ farthest) → (b ≡ shift y) × (b ≤ farthest)
    → Added e d (set (set d n a) (n + 1) b) n (n + 2)
added_more {d} {n} {a} {b} h l t p q =
    record {
      long = pair_long d n l a b;
      even = omega arith;
      more = omega arith;
      few = omega arith;
      kept = pair_kept d n l a b;
      near = λ j i k. ⊎_elim (λ s. rw (pair_low d n l a b j s) p.1) (λ s. rw (pair_high d n l a b j (omega arith)) q.1) (eq-or-lt_of_le i);
      has = among_pair (among_at _ (n + 2) n (omega arith) h (omega arith) (pair_low d n l a b n refl) (pair_high d n l a b (n + 1) refl)) (rw (pair_long d n l a b) l) t p.0 q.0;
    }

-- an even number is a multiple of four, or two more than one
four_less : (n : ℕ) → n % 2 ≡ 0 → (n % 4 ≡ 0 → ⊥) → n % 4 ≡ 2
four_less n h q = let t : n / 2 % 2 < 2 = omega arith in omega arith

pub even_more : (d : List ℕ) (n : ℕ) → length d ≡ 128 → n % 2 ≡ 0 → (n % 4 ≡ 0 → ⊥) → n ≤ 128
    → Evened d (set (set d n (get_or d (n - 2) 0)) (n + 1) (get_or (set d n (get_or d (n - 2) 0)) (n - 1) 0)) n (n + 2)
even_more d n e h q l =
    let two : n % 4 ≡ 2 = four_less n h q in
    let a = get_or d (n - 2) 0 in
    let b = get_or (set d n a) (n - 1) 0 in
    let last : b ≡ get_or d (n - 1) 0 = get_or-set_other d n (n - 1) a 0 (omega arith) in
    let r : n + 2 ≤ length d = omega arith in
    record {
      long = pair_long d n r a b;
      fours = omega arith;
      more = omega arith;
      room = omega arith;
      kept = pair_kept d n r a b;
      again = λ j i k. ⊎_elim (λ s. (n - 2, omega arith, pair_low d n r a b j s)) (λ s. (n - 1, omega arith, pair_high d n r a b j (omega arith) ∙ last)) (eq-or-lt_of_le i);
    }
