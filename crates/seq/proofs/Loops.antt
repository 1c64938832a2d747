-- The laws of a loop that goes along a list and stores at each index.
--     sweep_none, sweep_more         a loop's start and one store
--     sweep_ahead, sweep_end         what the next store finds; the same bound
--     sweep_join                     a stretch is followed by the next
--     sweep_front                    a stretch from the list's front, as a table before the rest of the list
--     keep_snoc                      one element more at a list's end
--     bits_set, bits_clear           one bit more of a number is looked at, and is set or not
-- Assumes nothing.
use mathlib.Core.Bool.{Bool, true, false, cond}
use mathlib.Core.List.{List, [], ◌∷◌, ◌++◌, append-nil}
use mathlib.Core.Logic.{⊎_elim}
use mathlib.Core.Path.{◌≡◌, refl, sym, ap, ◌∙◌, subst}
use Prim.Native.Nat.{ℕ, ◌+◌, ◌-◌, ◌≤◌, ◌<◌}
use native.Mathlib.Nat.{eq-or-lt_of_le}
use native.Mathlib.Numerals.{add-one}
use native.Mathlib.Omega.{arith}
use lib.ListN.{length, get_or, drop, set, length-append, length-drop, length-set, get_or-append}
use lib.Seq.{ext_get_or, get_or-append-add, get_or-drop, get_or-set_same, get_or-set_other}
use Rattle.seq.specs.Bits.{bit, bits_of}
use Rattle.seq.specs.Lists.{keep}
use Rattle.seq.specs.Loops.{Swept}
use Rattle.seq.specs.Tab.{tab, up_to}
use Rattle.seq.proofs.Tab.{length_tab, get_d_tab, tab_suc}
use Rattle.seq.proofs.Tests.{lt_or_le}

pub sweep_none : (f : ℕ → ℕ) (d : List ℕ) (lo : ℕ) → Swept f d d lo lo
sweep_none f d lo = record { long = refl; inner = λ j a b. absurd (omega arith); before = λ j a. refl; after = λ j a. refl }

-- the next index is stored; the bound after it may be written in any way
pub sweep_more : {f : ℕ → ℕ} {d l : List ℕ} {lo hi v : ℕ} (next : ℕ) → Swept f d l lo hi → lo ≤ hi → hi < length d → v ≡ f hi → next ≡ hi + 1
    → Swept f d (set l hi v) lo next
sweep_more {f} {d} {l} {lo} {hi} {v} next s h b e n =
    record { long = length-set l hi v ∙ s.long; inner = inner; before = λ j a. other j (omega arith) ∙ s.before j a; after = λ j a. other j (omega arith) ∙ s.after j (omega arith) }
  where
    other : (j : ℕ) → (j ≡ hi → ⊥) → get_or (set l hi v) j 0 ≡ get_or l j 0
    other j q = get_or-set_other l hi j v 0 q

    stored : (j : ℕ) → j ≡ hi → get_or (set l hi v) j 0 ≡ f j
    stored j q = rw q (get_or-set_same l hi v 0 (omega (arith, s.long)) ∙ e)

    inner : (j : ℕ) → lo ≤ j → j < next → get_or (set l hi v) j 0 ≡ f j
    inner j a c = ⊎_elim (stored j) (λ q. other j (omega arith) ∙ s.inner j a q) (eq-or-lt_of_le (omega arith))

-- what the next store finds
pub sweep_ahead : {f : ℕ → ℕ} {d l : List ℕ} {lo hi : ℕ} → Swept f d l lo hi → get_or l hi 0 ≡ get_or d hi 0
sweep_ahead {hi = hi} s = s.after hi (omega arith)

-- the bound may be written in another way
pub sweep_end : {f : ℕ → ℕ} {d l : List ℕ} {lo hi : ℕ} (end : ℕ) → Swept f d l lo hi → hi ≡ end → Swept f d l lo end
sweep_end {f} {d} {l} {lo} end s e = subst (λ (n : ℕ). Swept f d l lo n) e s

-- what a second stretch stores may be said in another way
pub sweep_join : {f g : ℕ → ℕ} {d l m : List ℕ} {lo mid hi : ℕ} → Swept f d l lo mid → Swept g l m mid hi → lo ≤ mid → mid ≤ hi
    → ((j : ℕ) → mid ≤ j → j < hi → g j ≡ f j) → Swept f d m lo hi
sweep_join {f} {g} {d} {l} {m} {lo} {mid} {hi} s t a b e =
    record { long = t.long ∙ s.long; inner = inner; before = λ j c. t.before j (omega arith) ∙ s.before j c; after = λ j c. t.after j c ∙ s.after j (omega arith) }
  where
    inner : (j : ℕ) → lo ≤ j → j < hi → get_or m j 0 ≡ f j
    inner j p q = ⊎_elim (λ c. t.before j c ∙ s.inner j p c) (λ c. t.inner j c q ∙ e j c q) (lt_or_le j mid)

pub sweep_front : {f : ℕ → ℕ} {d l : List ℕ} {n : ℕ} → Swept f d l 0 n → n ≤ length d → l ≡ tab f n ++ drop n d
sweep_front {f} {d} {l} {n} s h = ext_get_or 0 l (tab f n ++ drop n d) long (λ i q. ⊎_elim (front i) (rest i) (lt_or_le i n))
  where
    long : length l ≡ length (tab f n ++ drop n d)
    long = s.long ∙ simp (length-append, length_tab, length-drop) (omega arith)

    front : (i : ℕ) → i < n → get_or l i 0 ≡ get_or (tab f n ++ drop n d) i 0
    front i q = s.inner i (omega arith) q ∙ sym (get_or-append (tab f n) (drop n d) 0 i (rw (length_tab f n) q) ∙ get_d_tab f n i 0 q)

    rest : (i : ℕ) → n ≤ i → get_or l i 0 ≡ get_or (tab f n ++ drop n d) i 0
    rest i q =
        let e : i ≡ length (tab f n) + (i - n) = rw (length_tab f n) (omega arith) in
        let b : n + (i - n) ≡ i = omega arith in
        s.after i q ∙ sym (ap (λ (k : ℕ). get_or (tab f n ++ drop n d) k 0) e ∙ get_or-append-add (tab f n) (drop n d) (i - n) 0 ∙ get_or-drop n d (i - n) 0 ∙ rw b)

module _ {ℓ} {A : Type ℓ} where
  pub keep_snoc : (p : A → Bool) (l : List A) (a : A) → keep p (l ++ a ∷ []) ≡ keep p l ++ keep p (a ∷ [])
  keep_snoc p [] a = refl
  keep_snoc p (x ∷ l) a = step (p x) (keep_snoc p l a)
    where
      step : (b : Bool) → keep p (l ++ a ∷ []) ≡ keep p l ++ keep p (a ∷ [])
          → cond b (x ∷ keep p (l ++ a ∷ [])) (keep p (l ++ a ∷ [])) ≡ cond b (x ∷ keep p l) (keep p l) ++ keep p (a ∷ [])
      step true e = ap (λ (k : List A). x ∷ k) e
      step false e = e

-- one bit more is looked at
bits_more : (m b : ℕ) → bits_of (b + 1) m ≡ bits_of b m ++ keep (bit m) (b ∷ [])
unfolding bits_of up_to
bits_more m b = rw add-one (ap (keep (bit m)) (tab_suc (λ k. k) b) ∙ keep_snoc (bit m) (up_to b) b)

pub bits_set : (m b : ℕ) → bit m b ≡ true → bits_of (b + 1) m ≡ bits_of b m ++ b ∷ []
bits_set m b e = bits_more m b ∙ rw e

pub bits_clear : (m b : ℕ) → bit m b ≡ false → bits_of (b + 1) m ≡ bits_of b m
bits_clear m b e = bits_more m b ∙ rw e (append-nil (bits_of b m))
