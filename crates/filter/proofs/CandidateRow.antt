-- Where the loop over the bytes of a row of candidates stands.
--     Narrowing hit map from plane at d f to n seen     the first n bytes of the row are stored, and they are 0 where seen is
--     narrow_more, narrow_all              one store, its end
-- Assumes nothing.
use mathlib.Core.Bool.{Bool, true, false, not, ◌&&◌}
use mathlib.Core.List.{List}
use mathlib.Core.Logic.{◌⊎◌, ⊎_elim}
use mathlib.Core.Path.{◌≡◌, refl, sym, ap, ◌∙◌}
use Prim.Native.Nat.{ℕ, ◌+◌, ◌-◌, ◌*◌, ◌≤◌, ◌<◌}
use native.Mathlib.Nat.{eq-or-lt_of_le}
use native.Mathlib.Omega.{arith}
use borrow.Author.Tests.{eqb-true, not-false}
use lib.Bits.{bit_and, bit_or, bit_xor, or_add_and, and_le_l, and_le_r}
use lib.Dec.{eqb}
use lib.ListN.{length, get_or, set, length-set}
use lib.Seq.{get_or-set_same, get_or-set_other}
use Rattle.seq.specs.Bits.{bit}
use Rattle.seq.specs.Lists.{same}
use Rattle.seq.proofs.Bits.{bit_and_lem, bit_xor_lem, bit_zero}
use Rattle.filter.specs.Code.Candidate.{candidate_is, Narrowed}
use Rattle.filter.specs.Code.Plane.{band}

-- what is left of a without the bits of b
without : (a b : Bool) → not (same a (a && b)) ≡ (a && not b)
without true b = refl
without false b = refl

-- no bit is in either
or_none : (a b : ℕ) → bit_or a b ≡ 0 → (a ≡ 0) × (b ≡ 0)
or_none a b h = (omega (arith, or_add_and a b, and_le_r a b), omega (arith, or_add_and a b, and_le_l a b))

module _ (hit map : List ℕ) (from : ℕ) (plane : List ℕ) (at : ℕ) where
  pub record Narrowing (d f : List ℕ) (to n seen : ℕ) : Type 0 where
    pub long : length f ≡ length d
    pub coded : (k l v : ℕ) → k < n → l < 4 → v < 2 → bit (get_or f (to + k) 0) (2 * l + v) ≡ candidate_is hit map from plane at k l v
    pub none : seen ≡ 0 → (k : ℕ) → k < n → get_or f (to + k) 0 ≡ 0
    pub before : (j : ℕ) → j < to → get_or f j 0 ≡ get_or d j 0
    pub after : (j : ℕ) → to + n ≤ j → get_or f j 0 ≡ get_or d j 0

  -- byte k's codes that are not opened, before they are those of the other value
  abbrev pub closed : ℕ → ℕ
  closed k = bit_xor (get_or plane (at + k) 0) (bit_and (get_or plane (at + k) 0) (get_or map (from + 162 + k) 0))

  closed_is : (k s : ℕ) → bit (closed k) s ≡ (bit (get_or plane (at + k) 0) s && not (bit (get_or map (from + 162 + k) 0) s))
  closed_is k s = bit_xor_lem (get_or plane (at + k) 0) _ s ∙ rw bit_and_lem (without (bit (get_or plane (at + k) 0) s) (bit (get_or map (from + 162 + k) 0) s))

  -- the bits of the byte that is stored
  left_is : (k o l v : ℕ) → bit o (2 * l + v) ≡ bit (closed k) (2 * l + (1 - v))
      → bit (bit_and (get_or hit (from + k) 0) o) (2 * l + v) ≡ candidate_is hit map from plane at k l v
  unfolding candidate_is
  left_is k o l v e =
      bit_and_lem (get_or hit (from + k) 0) o (2 * l + v) ∙ ap (λ (t : Bool). bit (get_or hit (from + k) 0) (2 * l + v) && t) (e ∙ closed_is k (2 * l + (1 - v)))

  pub narrow_more : {d f : List ℕ} {to n seen : ℕ} (o : ℕ) → Narrowing d f to n seen → to + n < length d
      → ((l v : ℕ) → l < 4 → v < 2 → bit o (2 * l + v) ≡ bit (closed n) (2 * l + (1 - v)))
      → Narrowing d (set f (to + n) (bit_and (get_or hit (from + n) 0) o)) to (n + 1) (bit_or seen (bit_and (get_or hit (from + n) 0) o))
  narrow_more {d} {f} {to} {n} {seen} o r b h =
      record {
        long = length-set f (to + n) left ∙ r.long;
        coded = λ k l v i p q. ⊎_elim (λ e. last k l v e p q) (λ e. rw (other (to + k) (omega arith)) (r.coded k l v e p q)) (split k i);
        none = λ z k i. ⊎_elim (λ e. rw e (stored ∙ (or_none seen left z).1)) (λ e. other (to + k) (omega arith) ∙ r.none (or_none seen left z).0 k e) (split k i);
        before = λ j i. other j (omega arith) ∙ r.before j i;
        after = λ j i. other j (omega arith) ∙ r.after j (omega arith);
      }
    where
      left : ℕ
      left = bit_and (get_or hit (from + n) 0) o

      other : (j : ℕ) → (j ≡ to + n → ⊥) → get_or (set f (to + n) left) j 0 ≡ get_or f j 0
      other j q = get_or-set_other f (to + n) j left 0 q

      stored : get_or (set f (to + n) left) (to + n) 0 ≡ left
      stored = get_or-set_same f (to + n) left 0 (omega (arith, r.long))

      split : (k : ℕ) → k < n + 1 → (k ≡ n) ⊎ (k < n)
      split k i = eq-or-lt_of_le (omega arith)

      last : (k l v : ℕ) → k ≡ n → l < 4 → v < 2 → bit (get_or (set f (to + n) left) (to + k) 0) (2 * l + v) ≡ candidate_is hit map from plane at k l v
      last k l v e p q = rw e (ap (λ (x : ℕ). bit x (2 * l + v)) stored ∙ left_is n o l v (h l v p q))

  pub narrow_all : {d f : List ℕ} {to n seen : ℕ} → Narrowing d f to n seen → n ≡ band → Narrowed hit map from plane at d f to (not (eqb seen 0))
  narrow_all {d} {f} {to} {n} {seen} r e =
      record {
        long = r.long;
        coded = λ k l v i. r.coded k l v (omega arith);
        none = λ z k l v i p q. sym (r.coded k l v (omega arith) p q) ∙ rw (r.none (eqb-true seen 0 (not-false _ z)) k (omega arith)) (bit_zero (2 * l + v));
        before = r.before;
        after = λ j i. r.after j (omega arith);
      }
