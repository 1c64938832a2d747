-- Windows that are read from a map, and the candidates that they leave.
--     seen_rows                         a window by its rows
--     held_matched, held_at             the element test on a window
--     Judging J turned left kept        where the loop over a word's candidates stands: left are still to be judged
--     judging_yes, judging_no, judging_all    a candidate that changes, one that does not, its end
--     judging_place                     what the loop takes away from what is kept
--     confirmed_join    bytes that are confirmed, and the next
--     confirmed_zero, confirmed_word    a word with no candidates, and one that is judged and put back
-- Assumes nothing.
use mathlib.Core.Bool.{Bool, true, false, ◌&&◌, ◌||◌}
use mathlib.Core.List.{List, [], ◌∷◌}
use mathlib.Core.Logic.{◌⊎◌, inl, inr, ⊎_elim}
use mathlib.Core.Path.{◌≡◌, refl, sym, ap, ap₂, ◌∙◌}
use Prim.Native.Nat.{ℕ, ◌+◌, ◌-◌, ◌*◌, ◌/◌, ◌%◌, ◌^◌, ◌≤◌, ◌<◌}
use native.Mathlib.Nat.{add-zero}
use native.Mathlib.Omega.{arith}
use borrow.Author.Tests.{eqb-true, eqb-false}
use lib.Dec.{eqb}
use lib.ListN.{get_or}
use Rattle.operator.specs.Window.{window_at}
use Rattle.seq.specs.Bits.{bit}
use Rattle.seq.specs.Loops.{Swept}
use Rattle.seq.specs.Tab.{tab}
use Rattle.table.specs.Mask.{position_count, positions}
use Rattle.seq.proofs.Bits.{bit_zero, bits_of_elim}
use Rattle.seq.proofs.Lists.{either, any_ext, all_ext}
use Rattle.seq.proofs.Tab.{get_d_tab}
use Rattle.seq.proofs.Tests.{lt_or_le}
use Rattle.filter.specs.Code.Elements.{matched, code_of, seen}
use Rattle.filter.specs.Code.Judge.{Bytes, Confirmed}
use Rattle.filter.specs.Code.Opening.{shift, held_within}
use Rattle.filter.specs.Code.Plane.{step}
use Rattle.filter.proofs.WordLaws.{bit_byte, bit_code, set_le, clear_same, clear_other, word_end, place, place_is, Lowest}

-- the codes of five pixels side by side
abbrev codes : List ℕ → ℕ → ℕ → List ℕ
codes map at l = tab (λ x. code_of (get_or map (at + x) 0) l) 5

pub seen_rows : (map : List ℕ) (at l : ℕ) {p q r s t : List ℕ} → p ≡ codes map at l → q ≡ codes map (at + 80) l → r ≡ codes map (at + 160) l
    → s ≡ codes map (at + 240) l → t ≡ codes map (at + 320) l → p ∷ q ∷ r ∷ s ∷ t ∷ [] ≡ seen map at l
unfolding seen
seen_rows map at l hp hq hr hs ht = rw (hp ∙ ap (λ (a : ℕ). codes map a l) (sym (add-zero at)), hq, hr, hs, ht)

module _ (map : List ℕ) (at l v : ℕ) (hl : l < 4) (hv : v < 2) where
  seen_bit : (n : ℕ) → n < position_count → bit (get_or map (at + shift n) 0) (2 * l + v) ≡ bit (window_at (seen map at l) n) v
  unfolding seen
  seen_bit n h =
      sym (ap (λ (x : ℕ). bit x v) cell ∙ bit_code (get_or map (at + shift n) 0) l v hl hv)
    where
      row : ℕ → List ℕ
      row y = tab (λ x. code_of (get_or map (at + step * y + x) 0) l) 5

      cell : get_or (get_or (tab row 5) (n / 5) []) (n % 5) 0 ≡ code_of (get_or map (at + shift n) 0) l
      cell =
          ap (λ (r : List ℕ). get_or r (n % 5) 0) (get_d_tab row 5 (n / 5) [] (omega arith))
          ∙ get_d_tab (λ x. code_of (get_or map (at + step * (n / 5) + x) 0) l) 5 (n % 5) 0 (omega arith)
          ∙ ap (λ (j : ℕ). code_of (get_or map j 0) l) (omega arith)

  held_matched : (es : List ℕ) → held_within es map at (2 * l + v) ≡ matched es (seen map at l) v
  unfolding held_within matched positions
  held_matched es =
      any_ext _ _ es (λ e i. all_ext _ _ (positions e) (λ n m. seen_bit n (bits_of_elim position_count e m).0))

-- the element test on the window that is gathered for bit s of a word
pub held_at : (es map : List ℕ) (at s : ℕ) {win : List (List ℕ)} {b : Bool} → win ≡ seen map at (s % 8 / 2) → b ≡ matched es win (s % 2)
    → held_within es map at (s % 8) ≡ b
held_at es map at s g m =
    let e : s % 8 ≡ 2 * (s % 8 / 2) + s % 2 = omega arith in
    ap (held_within es map at) e ∙ held_matched map at (s % 8 / 2) (s % 2) (omega arith) (omega arith) es ∙ sym (m ∙ ap (λ (w : List (List ℕ)). matched es w (s % 2)) g)

pub record Judging (J : ℕ → Bool) (turned left kept : ℕ) : Type 0 where
  pub fits : left < word_end
  pub of : (s : ℕ) → s < 64 → bit left s ≡ true → bit turned s ≡ true
  pub rest : (s : ℕ) → s < 64 → bit kept s ≡ (bit turned s && (bit left s || J s))

pub judging_all : {J : ℕ → Bool} {t l k : ℕ} → Judging J t l k → l ≡ 0 → (s : ℕ) → s < 64 → bit k s ≡ (bit t s && J s)
judging_all {J} {t} w z s h = w.rest s h ∙ ap (λ (b : Bool). bit t s && (b || J s)) (ap (λ (n : ℕ). bit n s) z ∙ bit_zero s)

module _ {J : ℕ → Bool} {t l k s : ℕ} (w : Judging J t l k) (f : Lowest l s) where
  -- what is left to be judged is still kept
  kept : bit k s ≡ true
  kept = w.rest s f.small ∙ ap₂ (λ (a b : Bool). a && (b || J s)) (w.of s f.small f.has) f.has

  pub judging_place : place s ≤ k
  judging_place = rw (place_is s f.small) (set_le k s kept)

  apart : (n : ℕ) → (n ≡ s) ⊎ (n ≡ s → ⊥)
  apart n = ⊎_elim (λ q. inl (eqb-true n s q)) (λ q. inr (eqb-false n s q)) (either (eqb n s))

  fewer : (n : ℕ) → n < 64 → bit (l - 2 ^ s) n ≡ true → bit t n ≡ true
  fewer n q b = ⊎_elim (λ a. rw a (w.of s f.small f.has)) (λ a. w.of n q (sym (clear_other l s n f.has a) ∙ b)) (apart n)

  -- one bit fewer is left, and what is kept is right at that bit and unchanged at the others
  less : (m : ℕ) → bit m s ≡ J s → ((n : ℕ) → (n ≡ s → ⊥) → bit m n ≡ bit k n) → Judging J t (l - place s) m
  less m e o =
      rw (place_is s f.small)
      (record {
        fits = omega (arith, w.fits);
        of = fewer;
        rest = λ n q. ⊎_elim (λ a. rw a here) (λ a. o n a ∙ w.rest n q ∙ sym (ap (λ (b : Bool). bit t n && (b || J n)) (clear_other l s n f.has a))) (apart n);
      })
    where
      here : bit m s ≡ (bit t s && (bit (l - 2 ^ s) s || J s))
      here = e ∙ sym (ap₂ (λ (a b : Bool). a && (b || J s)) (w.of s f.small f.has) (clear_same l s f.has))

  pub judging_yes : J s ≡ true → Judging J t (l - place s) k
  judging_yes j = less k (kept ∙ sym j) (λ n a. refl)

  pub judging_no : J s ≡ false → Judging J t (l - place s) (k - place s)
  judging_no j =
      less (k - place s) (rw (place_is s f.small) (clear_same k s kept ∙ sym j)) (λ n a. rw (place_is s f.small) (clear_other k s n kept a))

-- byte k has the bit s where it had it and some element matches
abbrev Holds : List ℕ → List ℕ → ℕ → List ℕ → List ℕ → ℕ → ℕ → ℕ → Type 0
Holds es map from d f at k s = bit (get_or f (at + k) 0) s ≡ (bit (get_or d (at + k) 0) s && held_within es map (from + k) s)

pub confirmed_join : {es map : List ℕ} {from : ℕ} {d l m : List ℕ} {at n c : ℕ} → Confirmed es map from d l at n → Confirmed es map (from + n) l m (at + n) c
    → Confirmed es map from d m at (n + c)
confirmed_join {es} {map} {from} {d} {l} {m} {at} {n} {c} w u =
    record {
      long = u.long ∙ w.long;
      coded = λ k b v q hb hv. ⊎_elim (first k b v hb hv) (next k b v q hb hv) (lt_or_le k n);
      before = λ j a. u.before j (omega arith) ∙ w.before j a;
      after = λ j a. u.after j (omega arith) ∙ w.after j (omega arith);
    }
  where
    first : (k b v : ℕ) → b < 4 → v < 2 → k < n → Holds es map from d m at k (2 * b + v)
    first k b v hb hv a = ap (λ (x : ℕ). bit x (2 * b + v)) (u.before (at + k) (omega arith)) ∙ w.coded k b v a hb hv

    next : (k b v : ℕ) → k < n + c → b < 4 → v < 2 → n ≤ k → Holds es map from d m at k (2 * b + v)
    next k b v q hb hv a =
        let p : at + n + (k - n) ≡ at + k = omega arith in
        let r : from + n + (k - n) ≡ from + k = omega arith in
        rw (← w.after (at + k) (omega arith)) (rw (p, r) at (u.coded (k - n) b v (omega arith) hb hv))

module _ (es map : List ℕ) (from : ℕ) (l : List ℕ) (at turned : ℕ) (word : Bytes 8 l at turned) where
  -- a word with no candidates
  pub confirmed_zero : turned ≡ 0 → Confirmed es map from l l at 8
  confirmed_zero z = record { long = refl; coded = coded; before = λ j a. refl; after = λ j a. refl }
    where
      none : (k b v : ℕ) → k < 8 → b < 4 → v < 2 → bit (get_or l (at + k) 0) (2 * b + v) ≡ false
      none k b v q hb hv =
          ap (λ (x : ℕ). bit x (2 * b + v)) (sym (word k q))
          ∙ bit_byte turned k (2 * b + v) (omega arith)
          ∙ ap (λ (x : ℕ). bit x (8 * k + (2 * b + v))) z
          ∙ bit_zero (8 * k + (2 * b + v))

      coded : (k b v : ℕ) → k < 8 → b < 4 → v < 2 → Holds es map from l l at k (2 * b + v)
      coded k b v q hb hv = let e = none k b v q hb hv in e ∙ sym (ap (λ (x : Bool). x && held_within es map (from + k) (2 * b + v)) e)

  pub confirmed_word : (x : ℕ) {m : List ℕ} → ((s : ℕ) → s < 64 → bit x s ≡ (bit turned s && held_within es map (from + s / 8) (s % 8)))
      → Swept (λ j. x / 2 ^ (8 * (j - at)) % 256) l m at (at + 8) → Confirmed es map from l m at 8
  confirmed_word x {m} h w = record { long = w.long; coded = coded; before = w.before; after = w.after }
    where
      coded : (k b v : ℕ) → k < 8 → b < 4 → v < 2 → Holds es map from l m at k (2 * b + v)
      coded k b v q hb hv =
          let p : at + k - at ≡ k = omega arith in
          let c : (8 * k + (2 * b + v)) / 8 ≡ k = omega arith in
          let r : (8 * k + (2 * b + v)) % 8 ≡ 2 * b + v = omega arith in
          let s : 2 * b + v < 8 = omega arith in
          ap (λ (y : ℕ). bit y (2 * b + v)) (rw p at (w.inner (at + k) (omega arith) (omega arith)))
          ∙ bit_byte x k (2 * b + v) s
          ∙ rw (c, r) at (h (8 * k + (2 * b + v)) (omega arith))
          ∙ ap (λ (y : Bool). y && held_within es map (from + k) (2 * b + v)) (sym (bit_byte turned k (2 * b + v) s) ∙ ap (λ (y : ℕ). bit y (2 * b + v)) (word k q))
